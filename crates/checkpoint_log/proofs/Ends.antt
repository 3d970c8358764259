-- The clauses of reading a record.
use Rattle.std.proofs.Common.{◌≡◌, Bool, true, false, IsTrue, Option, Some, None, sym, ◌∙◌, ap}
use Rattle.samza_model.specs.declared.messages.Record.{Record}
use Rattle.samza_model.specs.declared.checkpoints.Checkpoint.{Checkpoint}
use Rattle.samza_model.specs.Checkpoint.{checkpoint_record, Spells}
use Rattle.checkpoint_log.specs.declared.faults.CheckpointFault.{CheckpointFault}
use Rattle.checkpoint_log.specs.declared.faults.CheckpointFault.TheVariants.{Bad, NoMemory}
use Rattle.checkpoint_log.specs.Reading.{FailsCheckpoint, checkpoint_at}
use Rattle.checkpoint_log.proofs.Again.{spelled_is_read, some_is}

pub not_read : (r : Record) (e : CheckpointFault) → FailsCheckpoint e (checkpoint_at r) → e ≡ Bad → (k : Checkpoint) → Spells k r → ⊥
not_read r Bad is same k spells = let x : ◌≡◌ {A = Option Checkpoint} None (Some k) = sym is ∙ spelled_is_read k r spells in cc
not_read r NoMemory is same k spells = cc

pub read_is : (r : Record) (c k : Checkpoint) → checkpoint_at r ≡ Some c → Spells k r → c ≡ k
read_is r c k is spells = some_is c k (sym is ∙ spelled_is_read k r spells)

pub clash : (b : Bool) → b ≡ false → IsTrue b → ⊥
clash true is holds = cc
clash false is holds = cc

pub again_is : (again r : Record) (c k : Checkpoint) → again ≡ checkpoint_record c → c ≡ k → Spells k r → again ≡ r
again_is again r c k is same spells = is ∙ ap checkpoint_record same ∙ sym spells.is
