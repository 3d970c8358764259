-- What an opening says of its unit.
use Rattle.std.proofs.Common.{ℕ, ◌≡◌, List, [], ◌∷◌, length, Option, Some, None}
use Rattle.samza_model.specs.declared.setups.Setup.{Setup}
use Rattle.samza_model.specs.Files.{Image}
use Rattle.samza_model.specs.Logs.{HasLog}
use Rattle.samza_model.specs.Marks.{last_mark}
use Rattle.samza_model.specs.Meaning.{Meaning}
use Rattle.samza_model.specs.Partition.{partition_of}
use Rattle.samza_model.specs.Ran.{fresh}
use Rattle.samza_model.specs.Restored.{Restores, next_at, start_of}
use Rattle.disk_model.specs.Images.{LeavesOnly}
use Rattle.restore_trim.specs.Crashes.{OpeningLeaves}
use Rattle.restore_trim.specs.Refused.{StoresOpen}
use Rattle.core_steps.specs.Cores.{Outside}
use Rattle.core_steps.specs.Held.{contents_of}
use Rattle.unit_opening.specs.Inputs.{input_of}
use Rattle.unit_steps.specs.Units.{UnitValue, Stands, opened_history}

pub record IsOpened {P D S : Type 0} (meaning : P → Meaning) (tells : Type 0) (reads : D → Image) (number : D → ℕ) (images : D → Image → Type 0) (since : D → ℕ → Image → Type 0)
    (disk : D) (s : Setup) (input : List ℕ) (u : UnitValue P D S) : Type 0 where
  pub stands : (o : Outside) → o.job ≡ Some (meaning u.job) → o.parts ≡ Some (partition_of u.messages) ∷ []
      → o.state ≡ fresh s (contents_of u.core.held.stores) → Stands meaning tells reads number images since o u (opened_history (reads disk))
  pub restored : Restores s (reads disk) (last_mark u.marks) (contents_of u.core.held.stores)
  pub opens : StoresOpen (reads disk) (last_mark u.marks) (length s.stores)
  pub has_messages : HasLog input u.messages
  pub setup : u.core.setup ≡ s
  pub starts : u.core.starts ≡ start_of (next_at (last_mark u.marks) 0) (input_of s) (partition_of u.messages) ∷ []
  pub ends : u.core.ends ≡ length u.messages ∷ []
  pub moment : LeavesOnly number images since disk u.disk (OpeningLeaves s)
