-- How a configuration sets up the one task of one container.
use Rattle.std.specs.Prelude.{map}
use Rattle.samza_model.specs.declared.setups.Setup.{Setup}
use Rattle.samza_model.specs.declared.setups.InputSetup.{InputSetup}
use Rattle.job_config.specs.declared.config.InputConfig.{InputConfig}
use Rattle.job_config.specs.declared.config.JobConfig.{JobConfig}

-- partition 0 of an input
abbrev pub input_setup : InputConfig → InputSetup
input_setup i = record { ssp = record { system = i.system; stream = i.stream; partition = 0 }; fallback = i.fallback; reset = i.reset }

-- task 0: partition 0 of each input, and what the configuration says
abbrev pub setup_of : JobConfig → Setup
setup_of c = record {
  task = record { 0 = 0 };
  inputs = map input_setup c.inputs;
  stores = c.stores;
  outputs = c.outputs;
  concurrency = c.concurrency;
  span = 65536;
  async_commit = c.async_commit;
  window_ms = c.window_ms;
  commit_ms = c.commit_ms;
  timeout_ms = c.timeout_ms;
}
