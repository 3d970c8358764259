-- Why a unit delivers no message.
use Rattle.std.specs.Prelude.{ℕ, Option, Some, Bool, is_some, if◌then◌else◌}
use Rattle.core_steps.specs.Cores.{CoreValue}
use Rattle.task_core.specs.declared.faults.DeliverFault.{DeliverFault}
use Rattle.task_core.specs.declared.faults.DeliverFault.TheVariants.{Failed, Broken}
use Rattle.task_core.specs.Delivering.{refusal}

-- the first cause that holds: something failed, an earlier commit answered Device, or one of a core's
abbrev pub unit_refusal : Bool → CoreValue → ℕ → Option DeliverFault
unit_refusal broken u p =
    if is_some u.failed then Some Failed
    else if broken then Some Broken
    else refusal u p
