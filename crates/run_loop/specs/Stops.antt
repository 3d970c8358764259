-- Why a run ended, by what it left of its unit.
use Rattle.std.specs.Prelude.{ℕ, ◌≡◌, ◌<◌, [], length, Some, None, true, false, is_some, slice_index_or}
use Rattle.samza_model.specs.declared.turns.Failure.{Failure}
use Rattle.samza_model.specs.Counters.{Rose}
use Rattle.samza_model.specs.Files.{Image}
use Rattle.core_steps.specs.Cores.{next_at}
use Rattle.unit_steps.specs.Units.{UnitValue}
use Rattle.event_unit.specs.Committing.{CommitPasses}
use Rattle.run_loop.specs.Runs.{IsGoing}
use Rattle.run_loop.specs.declared.stops.Stop.{Stop}
use Rattle.run_loop.specs.declared.stops.Stop.TheVariants.{Ended, Asked, Failed, Device, Limit, NoMemory}

-- the run went to an end: nothing is in flight, and all events are behind the last mark, which was made since the opening
pub record IsSettled {P D S : Type 0} (u : UnitValue P D S) : Type 0 where
  pub going : IsGoing u
  pub idle : u.core.callbacks.flights ≡ []
  pub marked : u.core.since ≡ []
  pub committed : 1 < length u.marks

-- a turn failed
pub record IsFailed {P D S : Type 0} (u : UnitValue P D S) : Type 0 where
  pub failure : Failure
  pub is : u.core.failed ≡ Some failure
  pub unbroken : u.broken ≡ false

-- a commit answered Device behind all events, and the disk's count of faults rose
pub record IsBroken {P D S : Type 0} (faults : D → ℕ) (old new : UnitValue P D S) : Type 0 where
  pub rose : Rose (faults old.disk) (faults new.disk)
  pub begun : new.begun ≡ Some (length new.core.since)
  pub sound : new.core.failed ≡ None

-- one of the files would pass 2^40 bytes by the next commit
pub record IsFull {P D S : Type 0} (tells : Type 0) (reads : D → Image) (u : UnitValue P D S) : Type 0 where
  pub going : IsGoing u
  pub full : tells → CommitPasses u (reads u.disk)

-- Why a run ended: at the end of its input, at a request before it, or short of that.
abbrev pub WhyStopped : {P D S : Type 0} → Type 0 → (D → Image) → (D → ℕ) → UnitValue P D S → UnitValue P D S → Stop → Type 0
WhyStopped tells reads faults old new Ended = IsSettled new × (next_at new.core 0 ≡ slice_index_or new.core.ends 0 0) × (new.core.asked ≡ None)
WhyStopped tells reads faults old new Asked = IsSettled new × (is_some new.core.asked ≡ true)
WhyStopped tells reads faults old new (Failed unit) = (unit ≡ 0) × IsFailed new
WhyStopped tells reads faults old new Device = IsBroken faults old new
WhyStopped tells reads faults old new Limit = IsFull tells reads new
WhyStopped tells reads faults old new NoMemory = IsGoing new

-- it stops short of an end
abbrev pub IsShort : Stop → Type 0
IsShort Ended = ⊥
IsShort Asked = ⊥
IsShort _ = Unit {0}
