-- When a unit commits, when its files are too full for it, and what it makes of them.
use Rattle.std.specs.Prelude.{ℕ, List, [], ◌∷◌, length, Option, Some, None, Bool, true, false}
use Rattle.core_steps.specs.Cores.{CoreValue}
use Rattle.core_steps.specs.Lanes.{lane_at}
use Rattle.unit_logs.specs.declared.faults.CommitFault.{CommitFault}
use Rattle.unit_logs.specs.declared.faults.CommitFault.TheVariants.{Failed, Broken, Windowing, Busy}
use Rattle.samza_model.specs.declared.turns.Failure.{Failure}
use Rattle.samza_model.specs.declared.acts.Answer.{Answer}
use Rattle.samza_model.specs.declared.flights.Flight.{Flight}
use Rattle.samza_model.specs.declared.checkpoints.Checkpoint.{Checkpoint}
use Rattle.samza_model.specs.Content.{Content}
use Rattle.samza_model.specs.Files.{Image}
use Rattle.samza_model.specs.Marks.{last_mark}
use Rattle.core_steps.specs.Held.{state_of}
use Rattle.unit_logs.specs.Commits.{IsCommitted, CommitLeaves}
use Rattle.unit_logs.specs.Growth.{PassesLimit}
use Rattle.unit_logs.specs.Unlogged.{unlogged_of}
use Rattle.unit_steps.specs.Units.{UnitValue}

-- callbacks are in flight, where none may be
abbrev pub busy_by : Bool → List Flight → Option CommitFault
busy_by true flights = None
busy_by false [] = None
busy_by false (f ∷ fs) = Some (Busy (length (f ∷ fs)))

abbrev pub window_by : Option (List Answer) → Option CommitFault → Option CommitFault
window_by (Some answers) rest = Some Windowing
window_by None rest = rest

abbrev pub broken_by : Bool → Option CommitFault → Option CommitFault
broken_by true rest = Some Broken
broken_by false rest = rest

abbrev pub failed_by : Option Failure → Option CommitFault → Option CommitFault
failed_by (Some f) rest = Some Failed
failed_by None rest = rest

-- Why no commit may begin, the first of these: a turn failed, an earlier commit answered Device, a window is open, callbacks are in
-- flight though commits await them.
abbrev pub commit_refusal : Bool → CoreValue → Option CommitFault
commit_refusal broken u =
    failed_by u.failed (broken_by broken (window_by u.window (busy_by u.setup.async_commit u.callbacks.flights)))

-- one of the files to which a commit would append something would pass 2^40 bytes by it
abbrev pub CommitPasses : {P D S : Type 0} → UnitValue P D S → Image → Type 0
CommitPasses u image = PassesLimit u.core.setup image (last_mark u.marks) (lane_at u.core.lanes 0).low (unlogged_of u.core.held.stores) u.core.held.unsent

-- the image has the checkpoint that a commit of this unit makes
abbrev pub IsCommitOf : {P D S : Type 0} → UnitValue P D S → Image → Image → Checkpoint → Type 0
IsCommitOf u before after made =
    IsCommitted u.core.setup before after (last_mark u.marks) (lane_at u.core.lanes 0).low (state_of u.core.held) (unlogged_of u.core.held.stores) made

-- what a crash in the unit's commit leaves of an image at its start
abbrev pub CrashLeaves : {P D S : Type 0} → UnitValue P D S → Image → List Content → Image → Image → Type 0
CrashLeaves u before contents old new =
    CommitLeaves u.core.setup before old new (last_mark u.marks) contents (lane_at u.core.lanes 0).low (state_of u.core.held) (unlogged_of u.core.held.stores)
