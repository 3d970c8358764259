-- What a commit is going to append, and the checkpoint that it makes.
use Rattle.std.specs.Prelude.{ℕ, ◌≡◌, ◌<◌, ◌+◌, List, [], ◌∷◌, length, Some, slice_index_or}
use Rattle.samza_model.specs.declared.messages.Record.{Record}
use Rattle.samza_model.specs.declared.checkpoints.Checkpoint.{Checkpoint}
use Rattle.samza_model.specs.declared.checkpoints.InputMark.{InputMark}
use Rattle.samza_model.specs.declared.checkpoints.StoreMark.{StoreMark}
use Rattle.samza_model.specs.declared.setups.Setup.{Setup}
use Rattle.samza_model.specs.declared.setups.StoreSetup.{StoreSetup}
use Rattle.samza_model.specs.Checkpoint.{Spells}
use Rattle.samza_model.specs.Content.{Content, replayed, sent_at}
use Rattle.samza_model.specs.Limits.{frame_batch}
use Rattle.samza_model.specs.Logs.{joined}
use Rattle.samza_model.specs.Restored.{IsNamed, mark_names, next_at, setup_names}
use Rattle.kv_store.specs.Tracked.{Tracked, AgreesOnClean, unlogged_records}
use Rattle.log_frame.specs.Cuts.{IsCut}
use Rattle.log_frame.specs.Frame.{FrameView, IsFrame, AreFrames}
use Rattle.core_steps.specs.Held.{tracked_at}

-- how many records a frame of the i-th store's changelog has at most
abbrev pub batch_at : List StoreSetup → ℕ → ℕ
batch_at stores i = (slice_index_or stores i (record { name = []; cache = 1; batch = 1 })).batch

-- the i-th store's count
abbrev pub mark_at : List StoreMark → ℕ → ℕ
mark_at marks i = (slice_index_or marks i (record { name = []; count = 0 })).count

-- the p-th input's first uncovered offset
abbrev pub next_of_mark : List InputMark → ℕ → ℕ
next_of_mark marks p = (slice_index_or marks p (record { stream = []; partition = 0; next = 0 })).next

-- the frames are a store's unlogged records, which make its content from one that agrees at the clean keys
pub record LogsChanges (batch : ℕ) (t : Tracked) (frames : List FrameView) : Type 0 where
  pub lists : List (List Record)
  pub cut : IsCut batch (unlogged_records t) lists
  pub are : AreFrames frames lists
  pub replays : (logged : Content) → AgreesOnClean t logged → replayed logged (joined lists) ≡ t.content

-- the frames of a store whose changelog has so many records, and how many it has behind them
pub record PlansStore (batch : ℕ) (t : Tracked) (len : ℕ) (frames : List FrameView) (count : ℕ) : Type 0 where
  pub logs : LogsChanges batch t frames
  pub count_is : count ≡ len + length (unlogged_records t)

-- the frames of each store, and the next checkpoint's names and counts of the stores
pub record PlansStores (s : Setup) (lens : List ℕ) (stores : List Tracked) (frames : List (List FrameView)) (marks : List StoreMark) : Type 0 where
  pub frames_are : length frames ≡ length stores
  pub names_are : mark_names marks ≡ setup_names s.stores
  pub each : (i : ℕ) → i < length stores
      → PlansStore (batch_at s.stores i) (tracked_at stores i) (slice_index_or lens i 0) (slice_index_or frames i []) (mark_at marks i)

-- the frames are what an output was sent
pub record LogsSends (sent : List Record) (frames : List FrameView) : Type 0 where
  pub lists : List (List Record)
  pub cut : IsCut frame_batch sent lists
  pub are : AreFrames frames lists

-- the frames of each output
pub record PlansSends (unsent : List (List Record)) (frames : List (List FrameView)) : Type 0 where
  pub frames_are : length frames ≡ length unsent
  pub each : (j : ℕ) → j < length unsent → LogsSends (sent_at unsent j) (slice_index_or frames j [])

-- a checkpoint with the setup's names and this number, which covers of each input what is below its next offset, and its frame
pub record PlansMark (s : Setup) (nexts : List ℕ) (id : ℕ) (frame : FrameView) (mark : Checkpoint) : Type 0 where
  pub named : IsNamed s mark
  pub id_is : mark.id ≡ id
  pub next_is : (p : ℕ) → p < length nexts → next_at (Some mark) p ≡ Some (slice_index_or nexts p 0)
  pub spelled : (r : Record) × Spells mark r × IsFrame frame (r ∷ [])
