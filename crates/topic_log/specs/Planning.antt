-- What is known of an append before it is made.
use Rattle.std.specs.Prelude.{ℕ, ◌≡◌, ◌+◌, List, ◌++◌, length}
use Rattle.samza_model.specs.declared.messages.Record.{Record}
use Rattle.log_frame.specs.Frame.{FrameView, AreFrames}
use Rattle.topic_log.specs.declared.extents.Extent.{Extent}
use Rattle.topic_log.specs.declared.logs.Log.{Log}
use Rattle.topic_log.specs.Extents.{IsExtent}
use Rattle.topic_log.specs.Growth.{HasRoom}
use Rattle.topic_log.specs.Opened.{count_of, size_of, HasExtent}
use Rattle.topic_log.specs.Steps.{closed_frames, record_count}

-- how many records a log has that reaches so far
abbrev pub count_to : Extent → ℕ
count_to extent = extent.count

-- how many bytes its file has
abbrev pub size_to : Extent → ℕ
size_to extent = extent.gate + 1

-- The log has room for these frames, and reaches so far once they are appended.
pub record ReachesBy (log : Log) (frames : List FrameView) (extent : Extent) : Type 0 where
  pub room : HasRoom (size_of log) frames
  pub count : count_to extent ≡ count_of log + record_count frames
  pub size : size_to extent ≡ size_of log + length (closed_frames frames)
  pub has : (before lists : List (List Record)) → HasExtent log before → AreFrames frames lists → IsExtent extent (before ++ lists)
