use Rattle.std.proofs.Common.{arith, rules}
use Rattle.core_tests.proofs.Runnable.{spelled, batches}
use Rattle.core_tests.proofs.cores.setup.Goals as goal

pub returns-clause-runnable : goal.returns-clause-runnable
returns-clause-runnable c = record {
  committable = record {
    spelled = spelled _ _ _ _ c.in_ok-inputs.ensures c.in_ok-stores.ensures c.in_ok-outputs.ensures c.in_ok-input_setup.ensures.topic c.in_ok-input_setup.ensures.partition c.in_ok-store_setup.ensures.name c.in_ok-output_name.ensures;
    batches = batches _ _ c.in_ok-stores.ensures c.in_ok-store_setup.ensures.batch;
  };
  concurrency = omega (arith, c.max.ensures);
  span = omega (arith, c.max-2.ensures);
  commits = search rules;
  windows = search rules;
}
