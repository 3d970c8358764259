-- Whether there is room for a unit's commit, and what it leaves of the files.
use Rattle.std.proofs.Common.{ℕ, ◌≡◌, List, length, false}
use Rattle.samza_model.specs.Content.{Content}
use Rattle.samza_model.specs.Restored.{Restores}
use Rattle.samza_model.specs.declared.checkpoints.Checkpoint.{Checkpoint}
use Rattle.samza_model.specs.Files.{Image}
use Rattle.samza_model.specs.Marks.{last_mark}
use Rattle.samza_model.specs.Meaning.{Meaning}
use Rattle.disk_model.specs.Images.{LeavesOnly}
use Rattle.restore_trim.specs.Standing.{OthersStay}
use Rattle.core_plans.specs.declared.planning.Frames.{Frames}
use Rattle.core_steps.specs.Cores.{IsCore}
use Rattle.core_steps.specs.Lanes.{lane_at}
use Rattle.unit_logs.specs.declared.writing.Logs.{Logs}
use Rattle.unit_logs.specs.declared.writing.Reach.{Reach}
use Rattle.unit_logs.specs.Crashes.{TaskFrames, PlanRecords, StandWith, IsPlanOf, WriteLeaves}
use Rattle.unit_logs.specs.Planned.{PlansCommit}
use Rattle.unit_logs.specs.Written.{AreWritten, LacksRoomFor, Reaches}
use Rattle.unit_logs.proofs.Laws.{commits, left_others, left_some, passes_limit, still, within_limit}
use Rattle.unit_steps.specs.Units.{UnitValue, IsUnit}
use Rattle.unit_steps.proofs.Laws.{on_disk_now}
use Rattle.event_unit.specs.Committing.{CommitPasses, CrashLeaves, IsCommitOf}

module _ {P D S : Type 0} (meaning : P → Meaning) (tells : Type 0) (reads : D → Image) (number : D → ℕ) (images : D → Image → Type 0) (since : D → ℕ → Image → Type 0)
    (u : UnitValue P D S) (logs : Logs) (inv : IsUnit meaning tells reads number images since logs u) (core : IsCore u.core) (sound : u.broken ≡ false) where
  pub passes : tells → LacksRoomFor u.core.setup logs u.core.held (lane_at u.core.lanes 0).low → CommitPasses u (reads u.disk)
  passes told lacks =
      passes_limit u.core.setup (reads u.disk) (images u.disk) logs lacks.draft (last_mark u.marks) (lane_at u.core.lanes 0).low lacks.made u.core.held
      (on_disk_now meaning tells reads number images since u logs inv core sound told) lacks.plans inv.changelogs_are inv.outputs_are core.sized lacks.none

  pub leaves_still : tells → ((c : Image) → since u.disk (number u.disk) c → images u.disk c) → (contents : List Content) → Restores u.core.setup (reads u.disk) (last_mark u.marks) contents
      → LeavesOnly number images since u.disk u.disk (CrashLeaves u (reads u.disk) contents)
  leaves_still told only contents before =
      still reads number images since u.disk u.core.setup logs (last_mark u.marks) (lane_at u.core.lanes 0).low u.core.held
      (on_disk_now meaning tells reads number images since u logs inv core sound told) inv.outputs_are only contents before

  module _ (plan : Frames) (made : Checkpoint) (p : PlansCommit u.core.setup logs u.core.held (lane_at u.core.lanes 0).low plan made) where
    pub has_room : (reach : Reach) → Reaches logs plan reach → tells → CommitPasses u (reads u.disk) → ⊥
    has_room reach reaches told =
        within_limit u.core.setup (reads u.disk) (images u.disk) logs plan (last_mark u.marks) (lane_at u.core.lanes 0).low made u.core.held
        (on_disk_now meaning tells reads number images since u logs inv core sound told) p inv.changelogs_are inv.outputs_are core.sized reach reaches

    pub leaves_others : (disk : D)
        → (tells → (had : TaskFrames) (more : PlanRecords) → StandWith (reads u.disk) (images u.disk) logs had → IsPlanOf logs plan more
        → LeavesOnly number images since u.disk disk (WriteLeaves (length logs.changelogs.items) (length logs.outputs.items) had more))
        → tells → LeavesOnly number images since u.disk disk (OthersStay (length u.core.setup.stores) (length u.core.setup.outputs))
    leaves_others disk any told =
        left_others reads number images since u.disk u.core.setup logs plan (last_mark u.marks) (lane_at u.core.lanes 0).low made u.core.held
        (on_disk_now meaning tells reads number images since u logs inv core sound told) p inv.changelogs_are inv.outputs_are core.sized disk (any told)

    pub leaves_some : (disk : D)
        → (tells → (had : TaskFrames) (more : PlanRecords) → StandWith (reads u.disk) (images u.disk) logs had → IsPlanOf logs plan more
        → LeavesOnly number images since u.disk disk (WriteLeaves (length logs.changelogs.items) (length logs.outputs.items) had more))
        → tells → (contents : List Content) → Restores u.core.setup (reads u.disk) (last_mark u.marks) contents → LeavesOnly number images since u.disk disk (CrashLeaves u (reads u.disk) contents)
    leaves_some disk any told contents before =
        left_some reads number images since u.disk u.core.setup logs plan (last_mark u.marks) (lane_at u.core.lanes 0).low made u.core.held
        (on_disk_now meaning tells reads number images since u logs inv core sound told) p inv.changelogs_are inv.outputs_are core.sized disk (any told) contents before

    pub is_commit : (disk : D) (logs' : Logs) → (tells → AreWritten (reads u.disk) (images u.disk) (reads disk) (images disk) logs logs' plan) → tells
        → (c : Image) → images disk c → IsCommitOf u (reads u.disk) c made
    is_commit disk logs' follows told c now =
        commits reads number images since u.disk u.core.setup logs plan (last_mark u.marks) (lane_at u.core.lanes 0).low made u.core.held
        (on_disk_now meaning tells reads number images since u logs inv core sound told) p inv.changelogs_are inv.outputs_are core.sized (reads disk) (images disk) logs' (follows told) c now
