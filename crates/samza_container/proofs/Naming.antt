-- Why a command stops before there is a task, and for its task's cause; and what that tells on every outside.
use Rattle.std.proofs.Common.{List, ℕ, Err, inl, inr}
use Rattle.samza_model.specs.declared.messages.Ssp.{Ssp}
use Rattle.samza_model.specs.declared.messages.TaskName.{TaskName}
use Rattle.samza_model.specs.declared.setups.Setup.{Setup}
use Rattle.disk_model.specs.Folders.{Folder}
use Rattle.samza_model.specs.Meaning.{Meaning}
use Rattle.unit_logs.specs.Standing.{IsSetUp}
use Rattle.container_texts.specs.declared.faults.RunFault.{RunFault}
use Rattle.container_texts.specs.declared.faults.RunFault.TheVariants.{Words, NoText, TextLimit, BadEscape, BadKey, NotBuilt, NoPartition, Device, NotOpened, Failed, Limit, NoMemory}
use Rattle.task_runs.specs.Tells.{TellsOf}
use Rattle.samza_container.specs.Causes.{IsOfFolder, IsReady, IsSetUpBy, NamesTask, WhyNotReady, WhyStopped, WhyUnfinished}
use Rattle.samza_container.specs.Configured.{input_disk, task_disk}
use Rattle.samza_container.specs.Done.{WhyNoTask}
use Rattle.samza_container.specs.Naming.{IsCause, IsNamedIn, IsOf, Told}

told_none : (words : List (List ℕ)) (task : TaskName) (inputs : List Ssp) (e : RunFault) → IsOfFolder e → Told words task inputs e
told_none words task inputs (Words place) of = absurd of
told_none words task inputs NoText of = tt
told_none words task inputs TextLimit of = tt
told_none words task inputs (BadEscape line) of = tt
told_none words task inputs (BadKey key what) of = tt
told_none words task inputs (NotBuilt key) of = tt
told_none words task inputs NoPartition of = tt
told_none words task inputs Device of = tt
told_none words task inputs (NotOpened o) of = absurd of
told_none words task inputs (Failed f) of = absurd of
told_none words task inputs Limit of = tt
told_none words task inputs NoMemory of = tt

named_none : (f : Folder) (task : TaskName) (inputs : List Ssp) (e : RunFault) → IsOfFolder e → IsNamedIn f task inputs e
named_none f task inputs (Words place) of = tt
named_none f task inputs NoText of = tt
named_none f task inputs TextLimit of = tt
named_none f task inputs (BadEscape line) of = tt
named_none f task inputs (BadKey key what) of = tt
named_none f task inputs (NotBuilt key) of = tt
named_none f task inputs NoPartition of = tt
named_none f task inputs Device of = tt
named_none f task inputs (NotOpened o) of = absurd of
named_none f task inputs (Failed f') of = absurd of
named_none f task inputs Limit of = tt
named_none f task inputs NoMemory of = tt

unready : (words : List (List ℕ)) (f : Folder) (e : RunFault) → IsOfFolder e → WhyNotReady f e → WhyStopped words f e
unready words f (Words place) of why = absurd of
unready words f NoText of why = inl why
unready words f TextLimit of why = inl why
unready words f (BadEscape line) of why = inl why
unready words f (BadKey key what) of why = inl why
unready words f (NotBuilt key) of why = inl why
unready words f NoPartition of why = inl why
unready words f Device of why = inl why
unready words f (NotOpened o) of why = inl why
unready words f (Failed f') of why = inl why
unready words f Limit of why = inl why
unready words f NoMemory of why = inl why

-- the folder came to no task
pub no_task : (words : List (List ℕ)) (f : Folder) (e : RunFault) → IsOfFolder e → WhyNotReady f e → WhyNoTask words f (Err e)
no_task words f (Words place) of why = absurd of
no_task words f NoText of why = why
no_task words f TextLimit of why = why
no_task words f (BadEscape line) of why = why
no_task words f (BadKey key what) of why = why
no_task words f (NotBuilt key) of why = why
no_task words f NoPartition of why = why
no_task words f Device of why = tt
no_task words f (NotOpened o) of why = why
no_task words f (Failed f') of why = why
no_task words f Limit of why = why
no_task words f NoMemory of why = tt

-- the folder isn't ready
pub of_folder : (tells : Type 0) (words : List (List ℕ)) (f : Folder) (task : TaskName) (inputs : List Ssp) (e : RunFault) → IsOfFolder e → (tells → WhyNotReady f e) → IsCause tells words f task inputs e
of_folder tells words f task inputs e of why = record {
  told = told_none words task inputs e of;
  why = λ told. unready words f e of (why told);
  named = λ told. named_none f task inputs e of;
}

told_task : (words : List (List ℕ)) (s : Setup) (task : TaskName) (inputs : List Ssp) (e : RunFault) → IsSetUp s → TellsOf s e → (NamesTask e → IsOf s task inputs) → Told words task inputs e
told_task words s task inputs (Words place) set_up tells named = absurd tells
told_task words s task inputs NoText set_up tells named = tt
told_task words s task inputs TextLimit set_up tells named = tt
told_task words s task inputs (BadEscape line) set_up tells named = tt
told_task words s task inputs (BadKey key what) set_up tells named = tt
told_task words s task inputs (NotBuilt key) set_up tells named = tt
told_task words s task inputs NoPartition set_up tells named = tt
told_task words s task inputs Device set_up tells named = tt
told_task words s task inputs (NotOpened o) set_up tells named = (s, set_up, named tt, tells)
told_task words s task inputs (Failed f) set_up tells named = (s, set_up, named tt, tells)
told_task words s task inputs Limit set_up tells named = tt
told_task words s task inputs NoMemory set_up tells named = tt

named_task : (f : Folder) (s : Setup) (task : TaskName) (inputs : List Ssp) (e : RunFault) → IsSetUpBy f s → (NamesTask e → IsOf s task inputs) → IsNamedIn f task inputs e
named_task f s task inputs (Words place) ready named = tt
named_task f s task inputs NoText ready named = tt
named_task f s task inputs TextLimit ready named = tt
named_task f s task inputs (BadEscape line) ready named = tt
named_task f s task inputs (BadKey key what) ready named = tt
named_task f s task inputs (NotBuilt key) ready named = tt
named_task f s task inputs NoPartition ready named = tt
named_task f s task inputs Device ready named = tt
named_task f s task inputs (NotOpened o) ready named = (s, ready, named tt)
named_task f s task inputs (Failed f') ready named = (s, ready, named tt)
named_task f s task inputs Limit ready named = tt
named_task f s task inputs NoMemory ready named = tt

stopped : (words : List (List ℕ)) (f : Folder) (job : Meaning) (s : Setup) (e : RunFault) → TellsOf s e → IsReady f job s → WhyUnfinished job s (f.disks (input_disk s) 0) (f.disks task_disk) e → WhyStopped words f e
stopped words f job s (Words place) tells is why = absurd tells
stopped words f job s NoText tells is why = absurd tells
stopped words f job s TextLimit tells is why = absurd tells
stopped words f job s (BadEscape line) tells is why = absurd tells
stopped words f job s (BadKey key what) tells is why = absurd tells
stopped words f job s (NotBuilt key) tells is why = absurd tells
stopped words f job s NoPartition tells is why = absurd tells
stopped words f job s Device tells is why = inr (job, s, is, why)
stopped words f job s (NotOpened o) tells is why = inr (job, s, is, why)
stopped words f job s (Failed f') tells is why = inr (job, s, is, why)
stopped words f job s Limit tells is why = inr (job, s, is, why)
stopped words f job s NoMemory tells is why = inr (job, s, is, why)

-- the folder's task isn't run to its end
pub of_task : (tells : Type 0) (words : List (List ℕ)) (f : Folder) (job : Meaning) (s : Setup) (task : TaskName) (inputs : List Ssp) (e : RunFault) → IsSetUp s → TellsOf s e → (NamesTask e → IsOf s task inputs)
    → (tells → IsReady f job s) → (tells → WhyUnfinished job s (f.disks (input_disk s) 0) (f.disks task_disk) e) → IsCause tells words f task inputs e
of_task tells words f job s task inputs e set_up of named ready why = record {
  told = told_task words s task inputs e set_up of named;
  why = λ told. stopped words f job s e of (ready told) (why told);
  named = λ told. named_task f s task inputs e (ready told).set_up named;
}

-- memory was refused
pub no_memory : (tells : Type 0) (words : List (List ℕ)) (f : Folder) (task : TaskName) (inputs : List Ssp) → IsCause tells words f task inputs NoMemory
no_memory tells words f task inputs = record { told = tt; why = λ told. inl tt; named = λ told. tt }
