-- What the statuses tell of the faults that they come from.
use Rattle.std.proofs.Common.{ℕ, ◌≡◌, ◌≢◌, ◌⊎◌, List, Result, Err, inl, inr, sym, subst, ap, ◌∙◌, arith}
use Rattle.std.proofs.lemmas.Bool.{cases_eq}
use Rattle.samza_model.specs.declared.messages.Ssp.{Ssp}
use Rattle.samza_model.specs.declared.messages.TaskName.{TaskName}
use Rattle.samza_model.specs.declared.setups.Setup.{Setup}
use Rattle.samza_model.specs.declared.turns.Why.{Why}
use Rattle.samza_model.specs.declared.turns.Why.TheVariants.{Code, TooMany, Limits, Expired}
use Rattle.samza_model.specs.Files.{Image}
use Rattle.disk_model.specs.declared.names.DiskName.{DiskName}
use Rattle.disk_model.specs.Folders.{Folder}
use Rattle.restore_trim.specs.declared.faults.OpenFault.{OpenFault}
use Rattle.restore_trim.specs.declared.faults.OpenFault.TheVariants.{Device as OpenDevice, Damaged, Shape, Ahead, Limit as OpenLimit, NoMemory as OpenNoMemory}
use Rattle.container_texts.specs.declared.faults.RunFault.{RunFault}
use Rattle.container_texts.specs.declared.faults.RunFault.TheVariants.{Words, NoText, TextLimit, BadEscape, BadKey, NotBuilt, NoPartition, Device, NotOpened, Failed, Limit, NoMemory}
use Rattle.task_runs.specs.Tells.{TellsOf}
use Rattle.samza_container.specs.Causes.{IsOfFolder}
use Rattle.container_texts.specs.Statuses.{failure_status, open_status, status_of}
use Rattle.container_texts.specs.Printing.{Printed}
use Rattle.container_texts.specs.declared.reports.TaskReport.{TaskReport}
use Rattle.samza_container.specs.Done.{FolderDone}
use Rattle.samza_container.specs.Naming.{IsCause}
use Rattle.samza_container.proofs.Done.{refused_done}
use Rattle.samza_container.proofs.Naming.{no_memory}

failure_is : (why : Why) → failure_status why ≢ 2
failure_is (Code code) is = omega (arith, is)
failure_is TooMany is = omega (arith, is)
failure_is Limits is = omega (arith, is)
failure_is (Expired delivered now) is = omega (arith, is)

open_is : (o : OpenFault) → open_status o ≢ 2
open_is OpenDevice is = omega (arith, is)
open_is (Damaged input file at) is = omega (arith, is)
open_is Shape is = omega (arith, is)
open_is (Ahead input store wanted held) is = omega (arith, is)
open_is OpenLimit is = omega (arith, is)
open_is OpenNoMemory is = omega (arith, is)

-- a task's fault isn't the words'
pub task_status : (s : Setup) (e : RunFault) → TellsOf s e → status_of e ≢ 2
task_status s (Words place) of is = of
task_status s NoText of is = of
task_status s TextLimit of is = of
task_status s (BadEscape line) of is = of
task_status s (BadKey key what) of is = of
task_status s (NotBuilt key) of is = of
task_status s NoPartition of is = of
task_status s Device of is = omega (arith, is)
task_status s (NotOpened o) of is = open_is o is
task_status s (Failed f) of is = failure_is f.why is
task_status s Limit of is = omega (arith, is)
task_status s NoMemory of is = omega (arith, is)

-- nor is the folder's
pub folder_status : (e : RunFault) → IsOfFolder e → status_of e ≢ 2
folder_status (Words place) of is = of
folder_status NoText of is = omega (arith, is)
folder_status TextLimit of is = omega (arith, is)
folder_status (BadEscape line) of is = omega (arith, is)
folder_status (BadKey key what) of is = omega (arith, is)
folder_status (NotBuilt key) of is = omega (arith, is)
folder_status NoPartition of is = omega (arith, is)
folder_status Device of is = omega (arith, is)
folder_status (NotOpened o) of is = of
folder_status (Failed f) of is = of
folder_status Limit of is = of
folder_status NoMemory of is = omega (arith, is)

one_err : (e e' : RunFault) → ◌≡◌ {A = Result TaskReport RunFault} (Err e) (Err e') → e ≡ e'
one_err e e' is = cc is

-- the status that is answered of a fault
module _ (tells : Type 0) (before after : List ℕ) (task : TaskName) (inputs : List Ssp) (fault : RunFault) (result : ℕ) (p : Printed tells before after task inputs fault result) where
  -- it is 7, that of want of memory, or the fault's
  pub one_of : (result ≡ 7) ⊎ ((result ≡ 8) ⊎ ((result ≡ status_of fault) × (p.cause ≡ fault)))
  one_of = elim (cases_eq result 7) [
    | inl seven ↦ inl seven
    | inr other ↦ elim p.cause_is [
      | inl same ↦ inr (inr (p.status_is other ∙ ap status_of same, same))
      | inr memory ↦ inr (inl (p.status_is other ∙ ap status_of memory.0))
    ]
  ]

  -- what has no status of a printer's own is the fault's
  pub printed_as : result ≢ 7 → result ≢ 8 → result ≡ status_of fault
  printed_as seven eight = elim one_of [
    | inl is ↦ absurd (seven is)
    | inr (inl is) ↦ absurd (eight is)
    | inr (inr same) ↦ same.0
  ]

  pub printed_cause : (told : Type 0) (words : List (List ℕ)) (f : Folder) → IsCause told words f task inputs fault → IsCause told words f task inputs p.cause
  printed_cause told words f is = elim p.cause_is [
    | inl same ↦ subst (λ (e : RunFault). IsCause told words f task inputs e) (sym same) is
    | inr memory ↦ subst (λ (e : RunFault). IsCause told words f task inputs e) (sym memory.0) (no_memory told words f task inputs)
  ]

  -- what became of the folder's task
  pub printed_done : {H : Type 0} (folder : H → Folder) (images : H → DiskName → Image → Type 0) (since : H → DiskName → ℕ → Image → Type 0) (number : H → DiskName → ℕ) (old new : H) (words : List (List ℕ))
      → FolderDone folder images since number words old new (Err fault) → FolderDone folder images since number words old new (Err p.cause)
  printed_done folder images since number old new words done = elim p.cause_is [
    | inl same ↦ subst (λ (e : RunFault). FolderDone folder images since number words old new (Err e)) (sym same) done
    | inr memory ↦ subst (λ (e : RunFault). FolderDone folder images since number words old new (Err e)) (sym memory.0)
        (refused_done folder images since number old new words (Err fault) (λ is. memory.1 (one_err fault Device is)) done)
  ]
