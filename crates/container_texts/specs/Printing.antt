-- What is printed: the report of a run that ended well, or the line of its fault.
use Rattle.std.specs.Prelude.{ℕ, ◌≡◌, ◌≢◌, ◌⊎◌, Bool, true, false, List, [], ◌∷◌, ◌++◌, codes}
use Rattle.samza_model.specs.declared.messages.Ssp.{Ssp}
use Rattle.samza_model.specs.declared.messages.TaskName.{TaskName}
use Rattle.samza_model.specs.Counters.{Rose}
use Rattle.edge_io.specs.Received.{TookPart}
use Rattle.container_texts.specs.declared.faults.RunFault.{RunFault}
use Rattle.container_texts.specs.declared.faults.RunFault.TheVariants.{Device, NoMemory}
use Rattle.container_texts.specs.declared.reports.TaskReport.{TaskReport}
use Rattle.container_texts.specs.FaultText.{fault_text}
use Rattle.container_texts.specs.ReportText.{report_text}
use Rattle.container_texts.specs.Statuses.{status_of}

-- the line of a fault, with its end
abbrev pub line_of : TaskName → List Ssp → RunFault → List ℕ
line_of task inputs e = fault_text task inputs e ++ 10 ∷ []

-- the line of a sink that failed
abbrev pub sink_line : List ℕ
sink_line = codes "sink failed" ++ 10 ∷ []

-- the report of container 0 with one task
abbrev pub report_of : TaskReport → List ℕ
report_of report = report_text 0 (report ∷ [])

-- a sink that tells its bytes received just this text
abbrev pub Received : Type 0 → List ℕ → List ℕ → List ℕ → Type 0
Received tells text before after = tells → after ≡ before ++ text

-- it received a front of it, or all of it
abbrev pub ReceivedPart : Type 0 → List ℕ → List ℕ → List ℕ → Type 0
ReceivedPart tells text before after = tells → TookPart text before after

-- a line was written on a sink, or a front of it, and then the sink's count of faults rose
pub record Tried (tells : Type 0) (line before after : List ℕ) (faults faults' : ℕ) : Type 0 where
  pub part : ReceivedPart tells line before after
  pub whole : Received tells line before after ⊎ Rose faults faults'

-- whether the fault is a device's
abbrev pub is_device : RunFault → Bool
is_device Device = true
is_device e = false

-- What was printed of a fault: its line, or with no memory for it the line of that, but never in place of a device's failure. A line
-- that isn't whole has status 7.
pub record Printed (tells : Type 0) (before after : List ℕ) (task : TaskName) (inputs : List Ssp) (fault : RunFault) (status : ℕ) : Type 0 where
  pub cause : RunFault
  pub cause_is : (cause ≡ fault) ⊎ ((cause ≡ NoMemory) × (fault ≢ Device))
  pub status_is : status ≢ 7 → status ≡ status_of cause
  pub whole : status ≢ 7 → Received tells (line_of task inputs cause) before after
  pub part : ReceivedPart tells (line_of task inputs cause) before after
