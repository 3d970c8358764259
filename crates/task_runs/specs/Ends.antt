-- How a run of a task ends.
use Rattle.std.specs.Prelude.{ℕ, ◌≡◌, ◌-◌, ◌⊎◌, List, length, Some, Result, Ok, Err, true, is_some}
use Rattle.samza_model.specs.declared.marks.KeptMark.{KeptMark}
use Rattle.samza_model.specs.Content.{State, sent_at}
use Rattle.samza_model.specs.Events.{first_failure, low, state_after}
use Rattle.samza_model.specs.Files.{Image}
use Rattle.samza_model.specs.Histories.{History, whole}
use Rattle.samza_model.specs.Lawful.{Given, end_at_input, start_at}
use Rattle.samza_model.specs.Marks.{last_mark}
use Rattle.samza_model.specs.Ran.{Finished}
use Rattle.samza_model.specs.Requests.{shutdown_asked}
use Rattle.samza_model.specs.Restored.{id_of}
use Rattle.unit_steps.specs.Growing.{FillFile, HaveGrown}
use Rattle.unit_steps.specs.Moments.{SameOfTask}
use Rattle.container_texts.specs.UnitReports.{ReportsTask}
use Rattle.container_texts.specs.declared.faults.RunFault.{RunFault}
use Rattle.container_texts.specs.declared.faults.RunFault.TheVariants.{Failed, Device, Limit, NoMemory}
use Rattle.container_texts.specs.declared.reports.TaskReport.{TaskReport}

-- how far the input is done: the first offset that isn't covered
abbrev pub done_to : Given → History → ℕ
done_to k t = low k.setup (start_at k 0) (whole t) 0

-- The report tells of these events: the last mark's number, how many messages were done, how far the input is done and where it ends, how
-- many keys each store has behind them, and how many records each output was sent by them.
abbrev pub ReportsRun : Given → History → List KeptMark → TaskReport → Type 0
ReportsRun k t marks report =
    ReportsTask k.setup (id_of (last_mark marks)) (done_to k t - start_at k 0) (done_to k t) (end_at_input k 0)
    (state_after k.state (whole t)).stores (λ j. length (sent_at (state_after k.state (whole t)).sent j)) report

-- no commit failed: the files grew by just the commits of these events, and each image has them as they read
pub record AreAllMade (k : Given) (t : History) (marks : List KeptMark) (after : Image) (images : Image → Type 0) : Type 0 where
  pub grown : HaveGrown k t.before t.parts marks after
  pub durable : (c : Image) → images c → SameOfTask (length k.setup.stores) (length k.setup.outputs) after c

-- it came to the input's end, or to where an act had asked for a shutdown, and this is its report
pub record Finishes (k : Given) (t : History) (marks : List KeptMark) (after : Image) (report : TaskReport) : Type 0 where
  pub finished : Finished k t after
  pub next : (done_to k t ≡ end_at_input k 0) ⊎ (is_some (shutdown_asked (whole t)) ≡ true)
  pub tells : ReportsRun k t marks report

-- it stopped before: a message failed, a file would pass 2^40 bytes by the next commit, a device failed, or memory was refused
abbrev pub WhyStopped : Given → History → List KeptMark → Image → RunFault → Type 0
WhyStopped k t marks after (Failed f) = first_failure (whole t) ≡ Some f
WhyStopped k t marks after Limit = FillFile k t marks after
WhyStopped k t marks after Device = Unit {0}
WhyStopped k t marks after NoMemory = Unit {0}
WhyStopped k t marks after e = ⊥

-- only where a device failed may a commit have been begun and not finished
abbrev pub MayBegin : Result TaskReport RunFault → Type 0
MayBegin (Err Device) = Unit {0}
MayBegin result = ⊥

-- what a run's answer tells of its events
abbrev pub TellsEvents : Given → History → List KeptMark → Image → Result TaskReport RunFault → Type 0
TellsEvents k t marks after (Ok report) = Finishes k t marks after report
TellsEvents k t marks after (Err e) = WhyStopped k t marks after e

-- how a run that answers this ended
pub record EndsAs (k : Given) (t : History) (marks : List KeptMark) (after : Image) (images : Image → Type 0) (result : Result TaskReport RunFault) : Type 0 where
  pub made : MayBegin result ⊎ AreAllMade k t marks after images
  pub tells : TellsEvents k t marks after result
