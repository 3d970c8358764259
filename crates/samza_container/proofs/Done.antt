-- What became of a folder's task, by what it answered, and on a host.
use Rattle.std.proofs.Common.{ℕ, ◌≡◌, ◌⊎◌, List, Result, Ok, Err, inl, inr, refl, subst}
use Rattle.samza_model.specs.declared.marks.KeptMark.{KeptMark}
use Rattle.samza_model.specs.declared.setups.Setup.{Setup}
use Rattle.samza_model.specs.Files.{Image}
use Rattle.samza_model.specs.Histories.{History}
use Rattle.samza_model.specs.Lawful.{Given}
use Rattle.samza_model.specs.Meaning.{Meaning}
use Rattle.disk_model.specs.declared.hosts.HostFault.{HostFault}
use Rattle.disk_model.specs.declared.hosts.HostFault.TheVariants.{Device as HostDevice, NoMemory as HostNoMemory}
use Rattle.disk_model.specs.declared.names.DiskName.{DiskName}
use Rattle.disk_model.specs.Folders.{Folder}
use Rattle.disk_model.specs.Handles.{SameAt, SameDisk}
use Rattle.disk_model.proofs.Laws.{same_disk_refl, weaker}
use Rattle.restore_trim.specs.Crashes.{OpeningLeaves}
use Rattle.container_texts.specs.declared.faults.RunFault.{RunFault}
use Rattle.container_texts.specs.declared.faults.RunFault.TheVariants.{Words, NoText, TextLimit, BadEscape, BadKey, NotBuilt, NoPartition, Device, NotOpened, Failed, Limit, NoMemory}
use Rattle.container_texts.specs.declared.reports.TaskReport.{TaskReport}
use Rattle.task_runs.specs.Ends.{EndsAs, MayBegin}
use Rattle.task_runs.specs.Leaving.{TaskLeaves}
use Rattle.task_runs.specs.Runs.{given_of}
use Rattle.task_runs.specs.Tells.{TellsOf}
use Rattle.task_runs.specs.Worked.{Worked, WhyNotStarted}
use Rattle.samza_container.specs.Causes.{WhyUnfinished, host_fault}
use Rattle.samza_container.specs.Done.{FolderDone, TaskDone}
use Rattle.samza_container.proofs.Leaving.{given_back, same_then}

-- a host that can't hand a task out doesn't start it
pub not_handed : (s : Setup) (before : Image) (input : List ℕ) (e : HostFault) → WhyNotStarted s before input (Err (host_fault e))
not_handed s before input HostDevice = tt
not_handed s before input HostNoMemory = tt

-- a run that ended so, with fewer images
pub ends_fewer : (k : Given) (t : History) (marks : List KeptMark) (after : Image) (images images' : Image → Type 0) (result : Result TaskReport RunFault) → ((c : Image) → images' c → images c)
    → EndsAs k t marks after images result → EndsAs k t marks after images' result
ends_fewer k t marks after images images' result fewer e = record {
  made = elim e.made [ inl begun ↦ inl begun | inr all ↦ inr (record { grown = all.grown; durable = λ c now. all.durable c (fewer c now) }) ];
  tells = e.tells;
}

may_none : (result : Result TaskReport RunFault) → (result ≡ Err Device → ⊥) → MayBegin result → ⊥
may_none (Ok report) none may = may
may_none (Err (Words place)) none may = may
may_none (Err NoText) none may = may
may_none (Err TextLimit) none may = may
may_none (Err (BadEscape line)) none may = may
may_none (Err (BadKey key what)) none may = may
may_none (Err (NotBuilt key)) none may = may
may_none (Err NoPartition) none may = may
may_none (Err Device) none may = none refl
may_none (Err (NotOpened e)) none may = may
may_none (Err (Failed f)) none may = may
may_none (Err Limit) none may = may
may_none (Err NoMemory) none may = may

module _ {H : Type 0} (folder : H → Folder) (images : H → DiskName → Image → Type 0) (since : H → DiskName → ℕ → Image → Type 0) (number : H → DiskName → ℕ) (old new : H) where
  -- why the task isn't run to its end
  pub of_done : (n : DiskName) (job : Meaning) (s : Setup) (input : List ℕ) (e : RunFault) → TellsOf s e → TaskDone folder images since number old new n job s input (Err e) → WhyUnfinished job s input ((folder old).disks n) e
  of_done n job s input Device tells done = tt
  of_done n job s input NoMemory tells done = tt
  of_done n job s input (NotOpened o) tells done = elim done [ inl shut ↦ shut.0 | inr ran ↦ absurd ran.1.ended.tells ]
  of_done n job s input (Failed f) tells done = elim done [
    | inl shut ↦ absurd shut.0
    | inr ran ↦ record { after = (folder new).disks n; history = ran.0; ran = ran.1.ran; failed = ran.1.ended.tells }
  ]
  of_done n job s input Limit tells done = elim done [
    | inl shut ↦ absurd shut.0
    | inr ran ↦ elim ran.1.ended.made [
      | inl begun ↦ absurd begun
      | inr all ↦ record { after = (folder new).disks n; history = ran.0; ran = ran.1.ran; grown = all.grown; fills = ran.1.ended.tells }
    ]
  ]
  of_done n job s input (Words place) tells done = absurd tells
  of_done n job s input NoText tells done = absurd tells
  of_done n job s input TextLimit tells done = absurd tells
  of_done n job s input (BadEscape line) tells done = absurd tells
  of_done n job s input (BadKey key what) tells done = absurd tells
  of_done n job s input (NotBuilt key) tells done = absurd tells
  of_done n job s input NoPartition tells done = absurd tells

  -- where memory is refused behind what was answered, but for a device's failure, the same became of the task
  pub refused_done : (words : List (List ℕ)) (result : Result TaskReport RunFault) → (result ≡ Err Device → ⊥) → FolderDone folder images since number words old new result
      → FolderDone folder images since number words old new (Err NoMemory)
  refused_done words result none (inl no_task) = inl (tt, no_task.1)
  refused_done words result none (inr (job, s, ready, inl shut)) = inr (job, s, ready, inl (tt, shut.1))
  refused_done words result none (inr (job, s, ready, inr (t, w))) = inr (
    job,
    s,
    ready,
    inr (
      t,
      record {
        ran = w.ran;
        ended = record { made = elim w.ended.made [ inl begun ↦ absurd (may_none result none begun) | inr all ↦ inr all ]; tells = tt };
        moments = weaker _ _ _ old new _ _ w.moments
            (λ a c was p. elim p [
              | inl restored ↦ inl restored
              | inr q ↦ inr (q.0, elim q.1 [ inl mark ↦ inl mark | inr begun ↦ absurd (may_none result none begun.0) ])
            ]);
      },
    ),
  )

  pub ok_refused : (words : List (List ℕ)) (report : TaskReport) → FolderDone folder images since number words old new (Ok report) → FolderDone folder images since number words old new (Err NoMemory)
  ok_refused words report done = refused_done words (Ok report) (λ is. not_err is) done
    where
      not_err : ◌≡◌ {A = Result TaskReport RunFault} (Ok report) (Err Device) → ⊥
      not_err is = cc is

-- a run on a disk that was a host's, and is again a host's
pub hosted : {D H : Type 0} (number : D → ℕ) (images : D → Image → Type 0) (since : D → ℕ → Image → Type 0) (number' : H → ℕ) (images' : H → Image → Type 0) (since' : H → ℕ → Image → Type 0) (reads₀ reads₁ reads₂ reads₃ : Image)
    (lent back : D) (old new : H) (job : Meaning) (s : Setup) (input : List ℕ) (before after : Image) (result : Result TaskReport RunFault) (t : History)
    → SameDisk reads₀ (images' old) (since' old) (number' old) reads₁ (images lent) (since lent) (number lent)
    → SameDisk reads₂ (images back) (since back) (number back) reads₃ (images' new) (since' new) (number' new)
    → Worked number images since lent back job s input before after result t → Worked number' images' since' old new job s input before after result t
hosted number images since number' images' since' reads₀ reads₁ reads₂ reads₃ lent back old new job s input before after result t out home w = record {
  ran = w.ran;
  ended = ends_fewer (given_of job s input before after t w.ran) t w.ran.ran.marks after (images back) (images' new) result (λ c now. (home.images_are c).1 now) w.ended;
  moments = given_back number images since number' images' since' reads₀ reads₁ reads₂ reads₃ lent back old new (TaskLeaves result (given_of job s input before after t w.ran) t w.ran.ran.marks) out home w.moments;
}

-- a host that left its disks as they were, and then worked on the task
pub done_then : {H : Type 0} (folder : H → Folder) (images : H → DiskName → Image → Type 0) (since : H → DiskName → ℕ → Image → Type 0) (number : H → DiskName → ℕ) (old mid new : H) (n : DiskName)
    (job : Meaning) (s : Setup) (input : List ℕ) (result : Result TaskReport RunFault)
    → SameAt folder images since number old mid n → TaskDone folder images since number mid new n job s input result → TaskDone folder images since number old new n job s input result
done_then folder images since number old mid new n job s input result same (inl shut) =
    inl (subst (λ (b : Image). WhyNotStarted s b input result) same.disk.reads_are shut.0, same_then folder images since number old mid new n (OpeningLeaves s) same shut.1)
done_then folder images since number old mid new n job s input result same (inr (t, w)) =
    inr (
      t,
      subst (λ (b : Image). Worked (λ h. number h n) (λ h. images h n) (λ h. since h n) old new job s input b ((folder new).disks n) result t) same.disk.reads_are
          (hosted (λ h. number h n) (λ h. images h n) (λ h. since h n) (λ h. number h n) (λ h. images h n) (λ h. since h n) ((folder old).disks n) ((folder mid).disks n) ((folder new).disks n) ((folder new).disks n)
          mid new old new job s input ((folder mid).disks n) ((folder new).disks n) result t same.disk (same_disk_refl ((folder new).disks n) (images new n) (since new n) (number new n)) w),
    )
