-- What a commit writes to a task's logs.
use Rattle.std.specs.Prelude.{ℕ, ◌≡◌, ◌≤◌, ◌⊎◌, false, List, [], ◌∷◌, ◌++◌, length}
use Rattle.samza_model.specs.declared.messages.Record.{Record}
use Rattle.samza_model.specs.declared.checkpoints.Checkpoint.{Checkpoint}
use Rattle.samza_model.specs.declared.setups.Setup.{Setup}
use Rattle.samza_model.specs.Files.{Image, checkpoint_file, changelog_file, output_file}
use Rattle.log_frame.specs.Frame.{FrameView, IsFrame}
use Rattle.topic_log.specs.declared.logs.Log.{Log}
use Rattle.topic_log.specs.Growth.{LacksRoom}
use Rattle.topic_log.specs.Opened.{is_broken, size_of}
use Rattle.topic_log.specs.Planning.{ReachesBy}
use Rattle.unit_logs.specs.Appending.{AreOpen, AreAppended}
use Rattle.core_steps.specs.Held.{Held}
use Rattle.unit_logs.specs.Planned.{PlansCommit}
use Rattle.unit_logs.specs.Room.{HaveRoom, OneLacksRoom, EachReaches}
use Rattle.restore_trim.specs.Standing.{IsOpenAt, AllSound}
use Rattle.unit_logs.specs.declared.writing.Logs.{Logs}
use Rattle.core_plans.specs.declared.planning.Frames.{Frames}
use Rattle.unit_logs.specs.declared.writing.Reach.{Reach}

-- no call on a log answered Device
pub record AreSound (logs : Logs) : Type 0 where
  pub marks : is_broken logs.marks ≡ false
  pub changelogs : AllSound logs.changelogs.items
  pub outputs : AllSound logs.outputs.items

-- the logs are open at their files
pub record StandOpen (reads : Image) (images : Image → Type 0) (logs : Logs) : Type 0 where
  pub marks : (frames : List (List Record)) × IsOpenAt reads images checkpoint_file logs.marks frames
  pub changelogs : AreOpen reads images (changelog_file 0) logs.changelogs.items
  pub outputs : AreOpen reads images (output_file 0) logs.outputs.items

-- one list of frames a log, and the changelogs' files lie below the outputs'
pub record IsPlanFor (logs : Logs) (plan : Frames) : Type 0 where
  pub changes : length plan.stores ≡ length logs.changelogs.items
  pub sends : length plan.outputs ≡ length logs.outputs.items
  pub few : length logs.changelogs.items ≤ 15

-- the changelogs have room, but the checkpoint file passes 2^40 bytes by the plan
pub record MarkLacksRoom (logs : Logs) (plan : Frames) : Type 0 where
  pub changelogs : HaveRoom logs.changelogs.items plan.stores
  pub lacks : LacksRoom (size_of logs.marks) (plan.checkpoint ∷ [])

-- one of the files passes 2^40 bytes by the plan; the checkpoint file is looked at last
abbrev pub IsNoRoomFor : Logs → Frames → Type 0
IsNoRoomFor logs plan = OneLacksRoom logs.outputs.items plan.outputs ⊎ (OneLacksRoom logs.changelogs.items plan.stores ⊎ MarkLacksRoom logs plan)

-- no file passes 2^40 bytes by the plan, and the logs reach so far once it is appended
pub record Reaches (logs : Logs) (plan : Frames) (reach : Reach) : Type 0 where
  pub marks : ReachesBy logs.marks (plan.checkpoint ∷ []) reach.mark
  pub changelogs : EachReaches logs.changelogs.items plan.stores reach.changes.items
  pub outputs : EachReaches logs.outputs.items plan.outputs reach.sends.items

-- one of the files passes 2^40 bytes by what a commit appends of what is held
pub record LacksRoomFor (s : Setup) (logs : Logs) (h : Held) (next : ℕ) : Type 0 where
  pub draft : Frames
  pub made : Checkpoint
  pub plans : PlansCommit s logs h next draft made
  pub none : IsNoRoomFor logs draft

-- the checkpoint file's log has one frame more
abbrev pub MarksAppended : Image → (Image → Type 0) → Image → (Image → Type 0) → Log → Log → FrameView → Type 0
MarksAppended reads images reads' images' log log' frame = (before : List (List Record)) (r : Record)
    → IsOpenAt reads images checkpoint_file log before → IsFrame frame (r ∷ []) → IsOpenAt reads' images' checkpoint_file log' (before ++ (r ∷ []) ∷ [])

-- each log has the frames that it had, followed by the plan's
pub record AreWritten (reads : Image) (images : Image → Type 0) (reads' : Image) (images' : Image → Type 0) (logs logs' : Logs) (plan : Frames) : Type 0 where
  pub marks : MarksAppended reads images reads' images' logs.marks logs'.marks plan.checkpoint
  pub changelogs : AreAppended reads images reads' images' (changelog_file 0) logs.changelogs.items logs'.changelogs.items plan.stores
  pub outputs : AreAppended reads images reads' images' (output_file 0) logs.outputs.items logs'.outputs.items plan.outputs
