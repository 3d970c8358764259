-- What an append of frames leaves of a log and of the disk.
use Rattle.std.specs.Prelude.{ℕ, ◌≡◌, ◌≢◌, ◌+◌, ◌≤◌, ◌⊎◌, ◌↔◌, true, false, List, [], ◌++◌, length, Result, IfOk, IfErr, OnOk, OnErr}
use Rattle.samza_model.specs.declared.messages.Record.{Record}
use Rattle.samza_model.specs.Files.{Image}
use Rattle.disk_model.specs.declared.names.DiskName.{DiskName}
use Rattle.disk_model.specs.Images.{SameElsewhere, LeavesOnly}
use Rattle.log_frame.specs.Frame.{FrameView, AreFrames}
use Rattle.topic_log.specs.declared.faults.LogFault.{LogFault}
use Rattle.topic_log.specs.declared.faults.LogFault.TheVariants.{Device, Broken}
use Rattle.topic_log.specs.declared.logs.Log.{Log}
use Rattle.topic_log.specs.Opened.{file_of, count_of, size_of, is_broken, IsOpen, Appends, KeepsExtent}
use Rattle.topic_log.specs.Steps.{closed_frames, record_count}

-- What an append of these frames leaves, where it answers so. The disk's words come first, then the disk and the log, each before and
-- after.
pub record AppendedAs {D : Type 0} (tells : Type 0) (reads : D → Image) (number : D → ℕ) (images : D → Image → Type 0) (since : D → ℕ → Image → Type 0) (faults : D → ℕ) (name : D → DiskName)
    (old new : D) (log log' : Log) (frames : List FrameView) (result : Result ℕ LogFault) : Type 0 where
  -- the answer is the new number of records
  pub count : IfOk result (λ n. n ≡ count_of log')
  pub counted : IfOk result (λ n. n ≡ count_of log + record_count frames)
  pub file : file_of log' ≡ file_of log
  -- the log has the frames before, followed by these, in every image
  pub appended : OnOk result (tells → (before lists : List (List Record)) → IsOpen (reads old) (images old) log before → AreFrames frames lists
      → IsOpen (reads new) (images new) log' (before ++ lists))
  pub grown : OnOk result (size_of log' ≡ size_of log + length (closed_frames frames))
  -- no frames are no call of the disk
  pub idle : frames ≡ [] → new ≡ old
  pub elsewhere : OnOk result (tells → SameElsewhere (file_of log) (reads old) (reads new))
  -- a crash at any moment leaves the frames before, or those followed by all of these
  pub any_moment : tells → (before lists : List (List Record)) → IsOpen (reads old) (images old) log before → AreFrames frames lists
      → LeavesOnly number images since old new (Appends (file_of log) before lists)
  -- the logs of other files stay open
  pub others : tells → (other : Log) (had : List (List Record)) → file_of other ≢ file_of log → IsOpen (reads old) (images old) other had → IsOpen (reads new) (images new) other had
  pub sound : OnOk result (is_broken log' ≡ false)
  pub breaks : IfErr result (λ e. (is_broken log' ≡ true) ↔ ((e ≡ Broken) ⊎ (e ≡ Device)))
  -- a refusal, but for Device, changes nothing
  pub refused : IfErr result (λ e. e ≢ Device → (log' ≡ log) × (new ≡ old))
  pub extent : OnErr result (KeepsExtent log log')
  pub later : faults old ≤ faults new
  pub named : name new ≡ name old
