-- Whether logs have room for frames, and how far they reach once these are appended.
use Rattle.std.specs.Prelude.{ℕ, ◌≡◌, ◌<◌, List, [], length, slice_index_or}
use Rattle.log_frame.specs.Frame.{FrameView}
use Rattle.topic_log.specs.declared.extents.Extent.{Extent}
use Rattle.topic_log.specs.declared.logs.Log.{Log}
use Rattle.topic_log.specs.Growth.{HasRoom, LacksRoom}
use Rattle.topic_log.specs.Opened.{size_of}
use Rattle.topic_log.specs.Planning.{ReachesBy}

-- each log has room for its frames
abbrev pub HaveRoom : List Log → List (List FrameView) → Type 0
HaveRoom logs frames = (i : ℕ) (d : Log) → i < length logs → HasRoom (size_of (slice_index_or logs i d)) (slice_index_or frames i [])

-- one of the logs has no room for its frames
pub record OneLacksRoom (logs : List Log) (frames : List (List FrameView)) : Type 0 where
  pub place : ℕ
  pub within : place < length logs
  pub lacks : (d : Log) → LacksRoom (size_of (slice_index_or logs place d)) (slice_index_or frames place [])

-- each log has room for its frames, and reaches so far once they are appended
pub record EachReaches (logs : List Log) (frames : List (List FrameView)) (extents : List Extent) : Type 0 where
  pub as_many : length extents ≡ length logs
  pub each : (i : ℕ) (d : Log) (e : Extent) → i < length logs → ReachesBy (slice_index_or logs i d) (slice_index_or frames i []) (slice_index_or extents i e)
