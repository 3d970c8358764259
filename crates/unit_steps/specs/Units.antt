-- What a unit is to contracts, and the events by which it stands.
use Rattle.std.specs.Prelude.{ℕ, ◌≡◌, ◌<◌, ◌≤◌, ◌+◌, List, [], ◌∷◌, length, Option, Some, None, IfSome, Bool, true, false, slice_index_or, slice_get}
use Rattle.samza_model.specs.declared.messages.Record.{Record}
use Rattle.samza_model.specs.declared.checkpoints.Checkpoint.{Checkpoint}
use Rattle.samza_model.specs.declared.marks.KeptMark.{KeptMark}
use Rattle.samza_model.specs.declared.events.Event.{Event}
use Rattle.samza_model.specs.declared.setups.Setup.{Setup}
use Rattle.samza_model.specs.Files.{Image, output_file}
use Rattle.samza_model.specs.Histories.{History, whole, marked, with_event, with_mark, ArePrompt}
use Rattle.samza_model.specs.Logs.{joined}
use Rattle.samza_model.specs.Marks.{AreMarks, Files, ImagesStand, last_mark}
use Rattle.samza_model.specs.Meaning.{Meaning}
use Rattle.samza_model.specs.Partition.{partition_of}
use Rattle.samza_model.specs.Requests.{IsPrompt}
use Rattle.samza_model.specs.Restored.{count_at, id_of, store_file, Restores}
use Rattle.window_timer.specs.Times.{commit_made}
use Rattle.topic_log.specs.declared.logs.Log.{Log}
use Rattle.topic_log.specs.Opened.{count_of}
use Rattle.restore_trim.specs.Standing.{IsOpenAt}
use Rattle.core_steps.specs.Cores.{CoreValue, Outside, given, Stands as CoreStands}
use Rattle.unit_steps.specs.Growing.{HaveGrown}
use Rattle.unit_steps.specs.Leaving.{IsLeft}
use Rattle.unit_steps.specs.Moments.{FromMarks}
use Rattle.disk_model.specs.Images.{LeavesOnly}
use Rattle.samza_model.specs.Ran.{is_of_window}
use Rattle.unit_logs.specs.declared.writing.Logs.{Logs}
use Rattle.unit_logs.specs.Appending.{AreOpen}
use Rattle.unit_logs.specs.Standing.{IsSetUp, MarkStands}
use Rattle.unit_logs.specs.Written.{AreSound}

-- its job as plain data, its input with the messages of it, what it holds in memory, and its disk
pub record UnitValue (P D S : Type 0) : Type 0 where
  pub job : P
  pub shelf : S
  pub messages : List Record
  pub core : CoreValue
  pub disk : D
  -- the newest first, the opening's last
  pub marks : List KeptMark
  -- how many events there were since the last mark when a commit began that answered Device
  pub begun : Option ℕ
  pub broken : Bool

-- The unit stands by these events: the job's, on the messages of its input. Where the disk tells its bytes, its files at the opening
-- restored to the first mark and the content that it began with, its files hold the marks since and what was sent, and every image
-- since a mark restores to that mark or a later one. Behind a commit that answered Device its files hold the marks, or the begun one
-- more.
pub record Stands {P D S : Type 0} (meaning : P → Meaning) (tells : Type 0) (reads : D → Image) (number : D → ℕ) (images : D → Image → Type 0) (since : D → ℕ → Image → Type 0) (o : Outside) (u : UnitValue P D S) (t : History) : Type 0 where
  pub job : o.job ≡ Some (meaning u.job)
  pub parts : o.parts ≡ Some (partition_of u.messages) ∷ []
  pub opened : tells → (m : KeptMark) → slice_get u.marks (length t.parts) ≡ Some m
      → Restores u.core.setup t.before m.checkpoint o.state.stores
  pub core : CoreStands o u.core (whole t) (length (marked t))
  pub journal : u.core.since ≡ t.since
  pub marks : AreMarks (given o u.core) t.parts u.marks
  pub files : u.broken ≡ false → tells → Files (given o u.core) t u.marks (reads u.disk)
  pub grown : u.broken ≡ false → tells → HaveGrown (given o u.core) t.before t.parts u.marks (reads u.disk)
  pub crash : tells → ImagesStand number images since u.disk (given o u.core) t u.marks u.begun
  pub begun : IfSome u.begun (λ b. b ≤ length t.since)
  pub sound : u.broken ≡ false → u.begun ≡ None
  pub left : IfSome u.begun (λ b. tells → IsLeft (given o u.core) t u.marks b (reads u.disk))
  pub prompt : u.core.setup.async_commit ≡ false → IsPrompt t.since × ArePrompt t.parts

-- of a unit that was just opened: the files at the opening, and no events
abbrev pub opened_history : Image → History
opened_history before = record { before = before; since = []; parts = [] }

-- what was given at the opening
pub record SameGiven {P D S : Type 0} (old new : UnitValue P D S) : Type 0 where
  pub job : new.job ≡ old.job
  pub shelf : new.shelf ≡ old.shelf
  pub messages : new.messages ≡ old.messages
  pub core : (o : Outside) → given o new.core ≡ given o old.core

-- by whatever events the unit stood before, it stands by them and this one
pub record Adds {P D S : Type 0} (meaning : P → Meaning) (tells : Type 0) (reads : D → Image) (number : D → ℕ) (images : D → Image → Type 0) (since : D → ℕ → Image → Type 0) (old new : UnitValue P D S) (e : Event) : Type 0 where
  pub same : SameGiven old new
  pub times : new.core.times ≡ old.core.times
  pub last : new.core.last ≡ old.core.last
  pub window : is_of_window e ≡ false → new.core.window ≡ old.core.window
  pub disk : new.disk ≡ old.disk
  pub marks : (new.marks ≡ old.marks) × (new.begun ≡ old.begun) × (new.broken ≡ old.broken)
  pub history : (o : Outside) (t : History) → Stands meaning tells reads number images since o old t
      → Stands meaning tells reads number images since o new (with_event e t)

-- nothing has changed but what no event tells: by whatever events the unit stood before, it stands by the same
pub record Keeps {P D S : Type 0} (meaning : P → Meaning) (tells : Type 0) (reads : D → Image) (number : D → ℕ) (images : D → Image → Type 0) (since : D → ℕ → Image → Type 0) (old new : UnitValue P D S) : Type 0 where
  pub same : SameGiven old new
  pub last : new.core.last ≡ old.core.last
  pub disk : new.disk ≡ old.disk
  pub marks : (new.marks ≡ old.marks) × (new.begun ≡ old.begun) × (new.broken ≡ old.broken)
  pub history : (o : Outside) (t : History) → Stands meaning tells reads number images since o old t
      → Stands meaning tells reads number images since o new t

-- by whatever events it stood before, it stands by the same, and all of them are behind a new mark
pub record Marks {P D S : Type 0} (meaning : P → Meaning) (tells : Type 0) (reads : D → Image) (number : D → ℕ) (images : D → Image → Type 0) (since : D → ℕ → Image → Type 0) (old new : UnitValue P D S) (made : Checkpoint) : Type 0 where
  pub same : SameGiven old new
  pub times : new.core.times ≡ commit_made old.core.times
  pub window : new.core.window ≡ old.core.window
  pub journal : new.core.since ≡ []
  pub id : made.id ≡ id_of (last_mark old.marks) + 1
  pub marks : new.marks ≡ record { checkpoint = Some made; at = number new.disk } ∷ old.marks
  pub sound : (old.broken ≡ false) × (new.broken ≡ false) × (new.begun ≡ None)
  pub history : (o : Outside) (t : History) → Stands meaning tells reads number images since o old t
      → Stands meaning tells reads number images since o new (with_mark t)
  -- where each image since a moment was one of the marks up to then, so it is since
  pub moments : (o : Outside) (t : History) → Stands meaning tells reads number images since o old t → tells → (from : D)
      → LeavesOnly number images since from old.disk (FromMarks (given o old.core) t old.marks old.begun)
      → LeavesOnly number images since from new.disk (FromMarks (given o new.core) (with_mark t) new.marks new.begun)

-- a commit was begun and not finished: it stands by the same events, and an image may restore to the begun mark
pub record Begins {P D S : Type 0} (meaning : P → Meaning) (tells : Type 0) (reads : D → Image) (number : D → ℕ) (images : D → Image → Type 0) (since : D → ℕ → Image → Type 0) (old new : UnitValue P D S) : Type 0 where
  pub same : SameGiven old new
  pub core : new.core ≡ old.core
  pub marks : new.marks ≡ old.marks
  pub begun : (new.begun ≡ Some (length old.core.since)) × (old.broken ≡ false) × (new.broken ≡ true)
  pub history : (o : Outside) (t : History) → Stands meaning tells reads number images since o old t
      → Stands meaning tells reads number images since o new t
  pub moments : (o : Outside) (t : History) → Stands meaning tells reads number images since o old t → tells → (from : D)
      → LeavesOnly number images since from old.disk (FromMarks (given o old.core) t old.marks old.begun)
      → LeavesOnly number images since from new.disk (FromMarks (given o new.core) t new.marks new.begun)

-- a store's changelog is open and has as many records as counted, or more
pub record StoreOpen (reads : Image) (images : Image → Type 0) (file count : ℕ) (log : Log) : Type 0 where
  pub frames : List (List Record)
  pub is_open : IsOpenAt reads images file log frames
  pub enough : count ≤ length (joined frames)

-- the task's logs are open at this checkpoint, whatever is held
pub record OpenOnDisk (reads : Image) (images : Image → Type 0) (s : Setup) (logs : Logs) (mark : Option Checkpoint) : Type 0 where
  pub marks : MarkStands s reads images logs.marks mark
  pub stores : (i : ℕ) (d : Log) → i < length s.stores
      → StoreOpen reads images (store_file mark i) (count_at mark i) (slice_index_or logs.changelogs.items i d)
  pub outputs : AreOpen reads images (output_file 0) logs.outputs.items

-- What a unit keeps: while it isn't broken its logs are open, and the checkpoint file has as many records as the last mark's number
-- says; and there are events by which it stands.
pub record IsUnit {P D S : Type 0} (meaning : P → Meaning) (tells : Type 0) (reads : D → Image) (number : D → ℕ) (images : D → Image → Type 0) (since : D → ℕ → Image → Type 0) (logs : Logs) (u : UnitValue P D S) : Type 0 where
  pub set_up : IsSetUp u.core.setup
  pub changelogs_are : length logs.changelogs.items ≡ length u.core.setup.stores
  pub outputs_are : length logs.outputs.items ≡ length u.core.setup.outputs
  pub ends : u.core.ends ≡ length u.messages ∷ []
  pub sound : u.broken ≡ false → AreSound logs
  pub counted : u.broken ≡ false → count_of logs.marks ≡ id_of (last_mark u.marks)
  pub last : u.core.last ≡ id_of (last_mark u.marks)
  pub on_disk : u.broken ≡ false → tells
      → OpenOnDisk (reads u.disk) (images u.disk) u.core.setup logs (last_mark u.marks)
  pub outside : Outside
  pub history : History
  pub stands : Stands meaning tells reads number images since outside u history
