use Rattle.std.proofs.Common.{sym, subst, ◌∙◌}
use Rattle.std.specs.FinMap.{get}
use Rattle.job_config.specs.declared.keys.Setting.TheVariants.{JobName, Inputs, Outputs}
use Rattle.job_config.specs.Bounds.{AreRising, AreTopics}
use Rattle.job_config.specs.Keys.{text_of}
use Rattle.config_values.specs.Values.{job_name}
use Rattle.config_values.specs.Lists.{inputs, outputs}
use Rattle.job_config.proofs.Kept.{stores_are, stores_rise, inputs_named, inputs_rank}
use Rattle.job_config.proofs.Limits.{limits_within}
use Rattle.job_config.proofs.Within.{job_named}
use Rattle.job_config.proofs.Once.{outputs_distinct}
use Rattle.job_config.proofs.Rising.{inputs_rise}
use Rattle.job_config.proofs.Topics.{inputs_are, outputs_are}
use Rattle.job_config.proofs.Yields.{row_gave}
use Rattle.job_config.proofs.table.table.Goals as goal

pub returns-clause-bounded : goal.returns-clause-bounded
returns-clause-bounded c =
    let p = c.args.pairs.now in
    let input_row = row_gave p (text_of Inputs) (inputs 16) c.class.new.asked.items (c.in_ok-names.names, c.inputs.new.asked.items) c.in_ok-names.ensures in
    let output_row = row_gave p (text_of Outputs) (outputs 8) c.inputs.new.asked.items (c.in_ok-outputs.outputs, c.outputs.new.asked.items) c.in_ok-outputs.ensures in
    let listed = inputs_are 16 (get p (text_of Inputs)) c.in_ok-names.names input_row in
    let names = c.as_slice-2.result.now in
    let named = inputs_named p names c.limit_rows.new.asked.items (c.in_ok-inputs.inputs, c.stream_rows.new.asked.items) (subst (AreTopics 16) (sym c.as_slice-2.ensures) listed).each c.in_ok-inputs.ensures in
    let job_row = row_gave p (text_of JobName) job_name c.args.asked.now.items (c.in_ok-job.job, c.job_name.new.asked.items) c.in_ok-job.ensures in
    let limits = limits_within p c.store_rows.new.asked.items (c.in_ok-limits.limits, c.limit_rows.new.asked.items) c.in_ok-limits.ensures in
    record {
      job = job_named (get p (text_of JobName)) c.in_ok-job.job job_row;
      inputs = subst (AreTopics 16) (sym (named ∙ c.as_slice-2.ensures)) listed;
      outputs = outputs_are 8 (get p (text_of Outputs)) c.in_ok-outputs.outputs output_row;
      stores = stores_are p c.class_row.new.asked.items (c.in_ok-stores.stores, c.store_rows.new.asked.items) c.in_ok-stores.ensures;
      inputs_rise = subst AreRising (sym (named ∙ c.as_slice-2.ensures)) (inputs_rise 16 (get p (text_of Inputs)) c.in_ok-names.names input_row);
      outputs_distinct = outputs_distinct 8 (get p (text_of Outputs)) c.in_ok-outputs.outputs output_row;
      stores_rise = stores_rise p c.class_row.new.asked.items (c.in_ok-stores.stores, c.store_rows.new.asked.items) c.in_ok-stores.ensures;
      priorities = inputs_rank p names c.limit_rows.new.asked.items (c.in_ok-inputs.inputs, c.stream_rows.new.asked.items) c.in_ok-inputs.ensures;
      containers = limits.containers;
      workers = limits.workers.1;
      concurrency = limits.concurrency;
      batch = limits.batch;
      window = limits.window;
      commit = limits.commit;
      timeout = tt;
    }
