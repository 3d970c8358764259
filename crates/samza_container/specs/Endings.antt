-- How a command ends: well, for a cause, or unheard.
use Rattle.std.specs.Prelude.{ℕ, ◌≡◌, List, Ok, Err}
use Rattle.samza_model.specs.declared.messages.Ssp.{Ssp}
use Rattle.samza_model.specs.declared.messages.TaskName.{TaskName}
use Rattle.samza_model.specs.Counters.{Rose}
use Rattle.samza_model.specs.Files.{Image}
use Rattle.disk_model.specs.declared.names.DiskName.{DiskName}
use Rattle.disk_model.specs.Folders.{Folder}
use Rattle.container_texts.specs.declared.faults.RunFault.{RunFault}
use Rattle.container_texts.specs.declared.reports.TaskReport.{TaskReport}
use Rattle.container_texts.specs.Statuses.{status_of}
use Rattle.container_texts.specs.Printing.{line_of, report_of, Received, ReceivedPart}
use Rattle.samza_container.specs.Done.{FolderDone}
use Rattle.samza_container.specs.Naming.{IsCause}

-- no count of faults rose: the host's, and those of both sinks
pub record NothingFails {H W E : Type 0} (faults : H → ℕ) (faults' : W → ℕ) (faults'' : E → ℕ) (host host' : H) (out out' : W) (err err' : E) : Type 0 where
  pub of_host : Rose (faults host) (faults host') → ⊥
  pub of_out : Rose (faults' out) (faults' out') → ⊥
  pub of_err : Rose (faults'' err) (faults'' err') → ⊥

-- Well: the folder's task was run to its end, and `out` received the report of just that.
pub record EndsWell {H W : Type 0} (tells heard : Type 0) (folder : H → Folder) (images : H → DiskName → Image → Type 0) (since : H → DiskName → ℕ → Image → Type 0) (number : H → DiskName → ℕ) (received : W → List ℕ)
    (words : List (List ℕ)) (host host' : H) (out out' : W) : Type 0 where
  pub report : TaskReport
  pub done : tells → FolderDone folder images since number words host host' (Ok report)
  pub printed : Received heard (report_of report) (received out) (received out')

-- For a cause, which has this status and is that of the events that the task made, if it came to any; and `err` received its line.
pub record StopsFor {H E : Type 0} (tells heard : Type 0) (folder : H → Folder) (images : H → DiskName → Image → Type 0) (since : H → DiskName → ℕ → Image → Type 0) (number : H → DiskName → ℕ) (received : E → List ℕ)
    (words : List (List ℕ)) (host host' : H) (status : ℕ) (err err' : E) : Type 0 where
  pub cause : RunFault
  pub task : TaskName
  pub inputs : List Ssp
  pub status_is : status ≡ status_of cause
  pub is : IsCause tells words (folder host) task inputs cause
  pub done : tells → FolderDone folder images since number words host host' (Err cause)
  pub printed : Received heard (line_of task inputs cause) (received err) (received err')

-- Unheard behind a run, which is as one that ended well: `out` failed behind a front of the report, or all of it.
pub record CutsReport {H W : Type 0} (tells heard : Type 0) (folder : H → Folder) (images : H → DiskName → Image → Type 0) (since : H → DiskName → ℕ → Image → Type 0) (number : H → DiskName → ℕ) (received : W → List ℕ) (faults : W → ℕ)
    (words : List (List ℕ)) (host host' : H) (out out' : W) : Type 0 where
  pub report : TaskReport
  pub done : tells → FolderDone folder images since number words host host' (Ok report)
  pub part : ReceivedPart heard (report_of report) (received out) (received out')
  pub rose : Rose (faults out) (faults out')

-- Unheard behind a cause: `err` failed behind a front of its line, or all of it.
pub record CutsLine {H E : Type 0} (tells heard : Type 0) (folder : H → Folder) (images : H → DiskName → Image → Type 0) (since : H → DiskName → ℕ → Image → Type 0) (number : H → DiskName → ℕ) (received : E → List ℕ) (faults : E → ℕ)
    (words : List (List ℕ)) (host host' : H) (err err' : E) : Type 0 where
  pub cause : RunFault
  pub task : TaskName
  pub inputs : List Ssp
  pub is : IsCause tells words (folder host) task inputs cause
  pub done : tells → FolderDone folder images since number words host host' (Err cause)
  pub part : ReceivedPart heard (line_of task inputs cause) (received err) (received err')
  pub rose : Rose (faults err) (faults err')
