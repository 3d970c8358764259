-- When a log's file would pass its limit. Only a file to which something is appended passes it.
use Rattle.std.specs.Prelude.{ℕ, ◌≢◌, ◌<◌, ◌≤◌, ◌+◌, List, [], length}
use Rattle.samza_model.specs.declared.messages.Record.{Record}
use Rattle.samza_model.specs.Limits.{file_limit}
use Rattle.samza_model.specs.Logs.{spelled, HasFrames}
use Rattle.log_frame.specs.Cuts.{IsCut}
use Rattle.log_frame.specs.Frame.{FrameView}
use Rattle.topic_log.specs.Steps.{closed_frames}

-- The log's file passes the limit with these frames, of which there are some: it has a gate before each of the frames that it had
-- and of these, and one behind them.
pub record Passes (bytes : List ℕ) (frames : List (List Record)) : Type 0 where
  pub had : List (List Record)
  pub has : HasFrames bytes had
  pub some : frames ≢ []
  pub passes : file_limit < length (spelled had) + length (spelled frames) + 1

-- the file passes the limit with these records, in frames of at most so many
pub record PassesBy (bytes : List ℕ) (most : ℕ) (records : List Record) : Type 0 where
  pub frames : List (List Record)
  pub cut : IsCut most records frames
  pub passes : Passes bytes frames

-- a file of so many bytes passes the limit with these frames, of which there are some
pub record LacksRoom (size : ℕ) (frames : List FrameView) : Type 0 where
  pub some : frames ≢ []
  pub passes : file_limit < size + length (closed_frames frames)

-- it doesn't
abbrev pub HasRoom : ℕ → List FrameView → Type 0
HasRoom size frames = frames ≢ [] → size + length (closed_frames frames) ≤ file_limit
