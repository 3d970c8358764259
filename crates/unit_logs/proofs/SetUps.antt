-- A setup of one input has no more stores and outputs than a checkpoint.
use Rattle.std.proofs.Common.{◌≤◌, length}
use Rattle.samza_model.specs.declared.setups.Setup.{Setup}
use Rattle.samza_model.specs.Limits.{store_limit, output_limit}
use Rattle.core_steps.proofs.Laws as core
use Rattle.unit_logs.specs.Standing.{IsSetUp}

pub few_stores : (s : Setup) → IsSetUp s → length s.stores ≤ store_limit
few_stores s set_up = core.few_stores s set_up.committable

pub few_outputs : (s : Setup) → IsSetUp s → length s.outputs ≤ output_limit
few_outputs s set_up = core.few_outputs s set_up.committable
