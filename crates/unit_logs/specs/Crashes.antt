-- What a crash leaves of several logs while they are appended to.
use Rattle.std.specs.Prelude.{ℕ, ◌<◌, ◌+◌, ◌⊎◌, List, [], ◌∷◌, ◌++◌, length, slice_index_or}
use Rattle.samza_model.specs.declared.messages.Record.{Record}
use Rattle.samza_model.specs.Files.{Image, checkpoint_file, changelog_file, output_file}
use Rattle.samza_model.specs.Logs.{HasFrames}
use Rattle.log_frame.specs.Frame.{FrameView, IsFrame, AreFrames}
use Rattle.topic_log.specs.declared.logs.Log.{Log}
use Rattle.restore_trim.specs.Standing.{IsOpenAt, SameOutside, OthersStay}
use Rattle.unit_logs.specs.declared.writing.Logs.{Logs}
use Rattle.core_plans.specs.declared.planning.Frames.{Frames}

-- the i-th log is open at the i-th file from this one on, with the i-th frames
abbrev pub HaveFrames : Image → (Image → Type 0) → ℕ → List Log → (ℕ → List (List Record)) → Type 0
HaveFrames reads images first logs had = (i : ℕ) (d : Log) → i < length logs → IsOpenAt reads images (first + i) (slice_index_or logs i d) (had i)

-- the i-th of so many lists of frames is that of the i-th records
abbrev pub AreFramesOf : ℕ → List (List FrameView) → (ℕ → List (List Record)) → Type 0
AreFramesOf n frames more = (i : ℕ) → i < n → AreFrames (slice_index_or frames i []) (more i)

-- each of so many files from this one on has the frames that it had, or those followed by all of the new ones; the other files
-- are the same
pub record AppendsEach (first n : ℕ) (had more : ℕ → List (List Record)) (old new : Image) : Type 0 where
  pub each : (i : ℕ) → i < n → HasFrames (new (first + i)) (had i) ⊎ HasFrames (new (first + i)) (had i ++ more i)
  pub elsewhere : SameOutside first n old new

-- the frames of a task's logs: of the checkpoint file, of each changelog, and of each output
pub record TaskFrames : Type 0 where
  pub marks : List (List Record)
  pub changelogs : ℕ → List (List Record)
  pub outputs : ℕ → List (List Record)

-- the checkpoint's record of a plan, and the records of the frames of each changelog and of each output
pub record PlanRecords : Type 0 where
  pub mark : Record
  pub changes : ℕ → List (List Record)
  pub sends : ℕ → List (List Record)

-- the logs are open, with these frames
pub record StandWith (reads : Image) (images : Image → Type 0) (logs : Logs) (had : TaskFrames) : Type 0 where
  pub marks : IsOpenAt reads images checkpoint_file logs.marks had.marks
  pub changelogs : HaveFrames reads images (changelog_file 0) logs.changelogs.items had.changelogs
  pub outputs : HaveFrames reads images (output_file 0) logs.outputs.items had.outputs

-- the plan's frames are those of these records
pub record IsPlanOf (logs : Logs) (plan : Frames) (more : PlanRecords) : Type 0 where
  pub mark : IsFrame plan.checkpoint (more.mark ∷ [])
  pub changes : AreFramesOf (length logs.changelogs.items) plan.stores more.changes
  pub sends : AreFramesOf (length logs.outputs.items) plan.outputs more.sends

-- the checkpoint file has the frames that it had, and each other log those that it had, or those followed by all of the plan's
pub record HasPart (changelogs outputs : ℕ) (had : TaskFrames) (more : PlanRecords) (image : Image) : Type 0 where
  pub mark : HasFrames (image checkpoint_file) had.marks
  pub changes : (i : ℕ) → i < changelogs → HasFrames (image (changelog_file i)) (had.changelogs i) ⊎ HasFrames (image (changelog_file i)) (had.changelogs i ++ more.changes i)
  pub sends : (j : ℕ) → j < outputs → HasFrames (image (output_file j)) (had.outputs j) ⊎ HasFrames (image (output_file j)) (had.outputs j ++ more.sends j)

-- each log has the frames that it had, followed by all of the plan's
pub record HasAll (changelogs outputs : ℕ) (had : TaskFrames) (more : PlanRecords) (image : Image) : Type 0 where
  pub mark : HasFrames (image checkpoint_file) (had.marks ++ (more.mark ∷ []) ∷ [])
  pub changes : (i : ℕ) → i < changelogs → HasFrames (image (changelog_file i)) (had.changelogs i ++ more.changes i)
  pub sends : (j : ℕ) → j < outputs → HasFrames (image (output_file j)) (had.outputs j ++ more.sends j)

-- a crash in the writing of a plan leaves the files that are none of the task's, and the checkpoint file as it was or all of the plan
abbrev pub WriteLeaves : ℕ → ℕ → TaskFrames → PlanRecords → Image → Image → Type 0
WriteLeaves changelogs outputs had more old new =
    OthersStay changelogs outputs old new × (HasPart changelogs outputs had more new ⊎ HasAll changelogs outputs had more new)
