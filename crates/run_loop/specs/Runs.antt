-- What a run makes of a unit.
use Rattle.std.specs.Prelude.{ℕ, ◌≡◌, ◌<◌, ◌≤◌, [], length, None, false}
use Rattle.samza_model.specs.Files.{Image}
use Rattle.samza_model.specs.Histories.{History}
use Rattle.samza_model.specs.Meaning.{Meaning}
use Rattle.disk_model.specs.declared.names.DiskName.{DiskName}
use Rattle.disk_model.specs.Images.{LeavesOnly}
use Rattle.restore_trim.specs.Standing.{OthersStay}
use Rattle.core_steps.specs.Cores.{IsCore, Outside, given, next_at}
use Rattle.core_steps.specs.Times.{is_due}
use Rattle.unit_logs.specs.Standing.{IsSetUp}
use Rattle.unit_steps.specs.Moments.{FromMarks}
use Rattle.unit_steps.specs.Units.{UnitValue, SameGiven, Stands}
use Rattle.run_loop.specs.Messages.{IsOfMessages}

-- these events and more, from the same files on; where all of these are of messages, so are those
pub record Extends (t t' : History) : Type 0 where
  pub before : t'.before ≡ t.before
  pub of_messages : IsOfMessages t → IsOfMessages t'

-- since a disk's moment each image restores to one of the unit's marks or to the begun one
abbrev pub AreFromMarks : {P D S : Type 0} → (D → ℕ) → (D → Image → Type 0) → (D → ℕ → Image → Type 0) → D → Outside → UnitValue P D S → History → Type 0
AreFromMarks number images since from o u t = LeavesOnly number images since from u.disk (FromMarks (given o u.core) t u.marks u.begun)

-- By whatever events the unit stood before, it stands by these and more; and where each image since a moment restored to one of its
-- marks, so does each image until now. Files that are none of the task's stay at any moment, and as they read while no commit answers
-- Device.
pub record Runs {P D S : Type 0} (meaning : P → Meaning) (tells : Type 0) (reads : D → Image) (number : D → ℕ) (images : D → Image → Type 0) (since : D → ℕ → Image → Type 0)
    (name : D → DiskName) (faults : D → ℕ) (old new : UnitValue P D S) : Type 0 where
  pub same : SameGiven old new
  pub window : new.core.window ≡ old.core.window
  pub history : (o : Outside) (t : History) → Stands meaning tells reads number images since o old t
      → (t' : History) × Extends t t' × Stands meaning tells reads number images since o new t'
      × (tells → (from : D) → AreFromMarks number images since from o old t → AreFromMarks number images since from o new t')
  pub unbroken : new.broken ≡ false → old.broken ≡ false
  pub others : new.broken ≡ false → tells → OthersStay (length old.core.setup.stores) (length old.core.setup.outputs) (reads old.disk) (reads new.disk)
  pub any_moment : tells → LeavesOnly number images since old.disk new.disk (OthersStay (length old.core.setup.stores) (length old.core.setup.outputs))
  pub named : name new.disk ≡ name old.disk
  pub later : faults old.disk ≤ faults new.disk

-- a unit that a run may go on with: no turn failed, no commit answered Device, and no window is open
pub record IsGoing {P D S : Type 0} (u : UnitValue P D S) : Type 0 where
  pub sound : u.core.failed ≡ None
  pub unbroken : u.broken ≡ false
  pub closed : u.core.window ≡ None

-- a commit was made and nothing else: all events are behind a mark, and no commit is due
pub record IsMarked {P D S : Type 0} (old new : UnitValue P D S) : Type 0 where
  pub going : IsGoing new
  pub since : new.core.since ≡ []
  pub more : 1 < length new.marks
  pub due : is_due new.core.since new.core.times ≡ false
  pub flies : new.core.callbacks.flights ≡ old.core.callbacks.flights
  pub next : next_at new.core 0 ≡ next_at old.core 0
  pub asked : new.core.asked ≡ old.core.asked

-- what each unit says of itself: it has one input, and stands by some events
pub record IsStanding {P D S : Type 0} (meaning : P → Meaning) (tells : Type 0) (reads : D → Image) (number : D → ℕ) (images : D → Image → Type 0) (since : D → ℕ → Image → Type 0)
    (u : UnitValue P D S) : Type 0 where
  pub core : IsCore u.core
  pub set_up : IsSetUp u.core.setup
  pub outside : Outside
  pub history : History
  pub stands : Stands meaning tells reads number images since outside u history
