-- A folder is run to its end, or there is a cause why not, and never both.
use Rattle.std.proofs.Common.{ℕ, ◌≡◌, ◌≢◌, ◌+◌, ◌⊎◌, List, [], ◌∷◌, drop, length, Option, Some, None, unwrap_or, Result, Ok, Err, inl, inr, refl, sym, subst, ap, ◌∙◌, arith}
use Rattle.std.proofs.lemmas.List.{take-append-drop}
use Rattle.std.proofs.lemmas.Option.{none-some}
use Rattle.samza_model.specs.declared.checkpoints.Checkpoint.{Checkpoint}
use Rattle.samza_model.specs.declared.messages.Ssp.{Ssp}
use Rattle.samza_model.specs.declared.messages.TaskName.{TaskName}
use Rattle.samza_model.specs.declared.setups.InputSetup.{InputSetup}
use Rattle.samza_model.specs.declared.setups.Setup.{Setup}
use Rattle.samza_model.specs.declared.turns.Failure.{Failure}
use Rattle.samza_model.specs.Events.{deliveries_of, low}
use Rattle.samza_model.specs.Files.{Image}
use Rattle.samza_model.specs.Histories.{History, whole}
use Rattle.samza_model.specs.Lawful.{Given, IsLawful, end_at_input, start_at}
use Rattle.samza_model.specs.Marks.{AreMarks}
use Rattle.samza_model.specs.Meaning.{Meaning}
use Rattle.samza_model.specs.Partition.{Partition, partition_of}
use Rattle.samza_model.proofs.Laws.{end_in}
use Rattle.samza_model.specs.Ran.{Finished, HasNoWindows, opening, starts_from}
use Rattle.samza_model.specs.Restored.{Restores}
use Rattle.history_laws.specs.Fails.{DoesOneByOne}
use Rattle.history_laws.proofs.Shared.{failure_or_end, low_idle, one_failure}
use Rattle.disk_model.specs.Folders.{Folder}
use Rattle.job_config.specs.declared.config.JobConfig.{JobConfig}
use Rattle.shipped_jobs.specs.Classes.{meaning_of}
use Rattle.topic_log.proofs.Laws.{log_unique}
use Rattle.restore_trim.specs.declared.faults.OpenFault.{OpenFault}
use Rattle.restore_trim.specs.Refused.{StoresOpen}
use Rattle.restore_trim.proofs.Shared.{restores_one}
use Rattle.unit_opening.specs.Opens.{Opens}
use Rattle.unit_opening.specs.Refused.{WhyNotOpened}
use Rattle.unit_opening.proofs.Shared.{not_kept_shut, one_cause}
use Rattle.unit_steps.specs.Growing.{FillFile, HaveGrown}
use Rattle.run_loop.specs.Messages.{IsOfMessages}
use Rattle.container_texts.specs.FaultText.{fault_text}
use Rattle.container_texts.specs.Statuses.{open_status, status_of}
use Rattle.container_texts.specs.Words.{IsCommand, IsRefusedAt}
use Rattle.container_texts.specs.declared.faults.RunFault.{RunFault}
use Rattle.container_texts.specs.declared.faults.RunFault.TheVariants.{Words, NoText, TextLimit, BadEscape, BadKey, NotBuilt, NoPartition, Device, NotOpened, Failed, Limit, NoMemory}
use Rattle.task_runs.specs.Ends.{done_to}
use Rattle.samza_container.specs.Runnable.{CanOpen, CanRun, given_to}
use Rattle.task_runs.specs.Runs.{TaskRan, given_of}
use Rattle.task_runs.proofs.Shared.{windowless_all}
use Rattle.samza_container.specs.Causes.{DoesOneByOne as DoesOneByOneIn, IsJobOf, IsReady, IsSetUpBy, Runnable, WhyNotReady, WhyStopped, WhyUnfinished}
use Rattle.samza_container.specs.Configured.{configured, set_up_by, input_disk, task_disk}
use Rattle.samza_container.specs.Runs.{FailsMessage, FillsFile}

pub not_words : (words : List (List ℕ)) (place : ℕ) → IsCommand words → IsRefusedAt words place → ⊥
not_words words place is why =
    elim why.here [
      | inl h ↦ h.1 (drop place words, subst IsCommand (sym (take-append-drop place words)) is)
      | inr h ↦ h.1 is
    ]

-- beside a device and memory, what isn't ready is said so
unready_said : (f : Folder) (e : RunFault) → status_of e ≢ 4 → status_of e ≢ 8 → WhyNotReady f e → set_up_by f ≡ Err e
unready_said f (Words place) device memory why = why
unready_said f NoText device memory why = why
unready_said f TextLimit device memory why = why
unready_said f (BadEscape line) device memory why = why
unready_said f (BadKey key what) device memory why = why
unready_said f (NotBuilt key) device memory why = why
unready_said f NoPartition device memory why = why
unready_said f Device device memory why = absurd (device refl)
unready_said f (NotOpened o) device memory why = why
unready_said f (Failed f') device memory why = why
unready_said f Limit device memory why = why
unready_said f NoMemory device memory why = absurd (memory refl)

not_both : (r : Result Setup RunFault) (s : Setup) (e : RunFault) → r ≡ Ok s → r ≡ Err e → ⊥
not_both r s e ok err = let both : ◌≡◌ {A = Result Setup RunFault} (Ok s) (Err e) = sym ok ∙ err in cc

one_setup : (r : Result Setup RunFault) (s t : Setup) → r ≡ Ok s → r ≡ Ok t → s ≡ t
one_setup r s t is is' = let both : ◌≡◌ {A = Result Setup RunFault} (Ok s) (Ok t) = sym is ∙ is' in cc both

one_fault : (r : Result Setup RunFault) (e e' : RunFault) → r ≡ Err e → r ≡ Err e' → e ≡ e'
one_fault r e e' is is' = let both : ◌≡◌ {A = Result Setup RunFault} (Err e) (Err e') = sym is ∙ is' in cc both

not_unready : (f : Folder) (s : Setup) (e : RunFault) → IsSetUpBy f s → status_of e ≢ 4 → status_of e ≢ 8 → WhyNotReady f e → ⊥
not_unready f s e ready device memory why = not_both (set_up_by f) s e ready (unready_said f e device memory why)

can_opens : (job : Meaning) (s : Setup) (input : List ℕ) (before : Image) → CanOpen job s input before → Opens s before input
can_opens job s input before o = record {
  mark = o.opened.mark;
  hold = record { contents = o.opened.stores; restores = o.opened.restores; stores = o.opens };
  messages = o.messages;
  has_messages = o.has_messages;
  within = omega (arith, o.within, end_in o.messages);
}

-- how a run was opened
abbrev opening_of : (job : Meaning) (s : Setup) (input : List ℕ) (before after : Image) (t : History) → TaskRan job s input before after t → CanOpen job s input before
opening_of job s input before after t r = record {
  messages = r.messages;
  has_messages = r.has_messages;
  opened = record { mark = r.ran.opened.mark; stores = r.ran.opened.stores; restores = subst (λ (b : Image). Restores s b r.ran.opened.mark r.ran.opened.stores) r.begins r.ran.opened.restores };
  opens = subst (λ (b : Image). StoresOpen b r.ran.opened.mark (length s.stores)) r.begins r.opens;
  within = r.within;
}

-- a task is opened in one way
same_given : (job : Meaning) (s : Setup) (input : List ℕ) (before after : Image) (t : History) (r : TaskRan job s input before after t) (o : CanOpen job s input before)
    → given_of job s input before after t r ≡ given_to job s input before o
same_given job s input before after t r o =
    let a = opening_of job s input before after t r in
    let one = restores_one s before a.opened.mark o.opened.mark a.opened.stores o.opened.stores a.opened.restores o.opened.restores in
    let same : r.messages ≡ o.messages = log_unique input r.messages o.messages r.has_messages o.has_messages in
    λ i. opening job s (partition_of (same i) ∷ []) (one.0 i) (one.1 i)

module _ (job : Meaning) (s : Setup) (input : List ℕ) (before : Image) where
  not_failed : (f : Failure) → CanRun job s input before → FailsMessage job s input before f → ⊥
  not_failed f can fails =
      let r = fails.ran in
      let t = fails.history in
      let lawful = subst (λ (k : Given). IsLawful k (whole t)) (same_given job s input before fails.after t r can.can_open) r.ran.lawful in
      none-some f (sym (can.sound t r.begins r.of_messages lawful) ∙ fails.failed)

  not_full : CanRun job s input before → FillsFile job s input before → ⊥
  not_full can fills =
      let r = fills.ran in
      let t = fills.history in
      let same = same_given job s input before fills.after t r can.can_open in
      can.room t r.ran.marks fills.after r.begins r.of_messages (subst (λ (k : Given). IsLawful k (whole t)) same r.ran.lawful) (subst (λ (k : Given). AreMarks k t.parts r.ran.marks) same r.ran.are_marks)
      (subst (λ (k : Given). HaveGrown k t.before t.parts r.ran.marks fills.after) same fills.grown) (subst (λ (k : Given). FillFile k t r.ran.marks fills.after) same fills.fills)

  -- with one callback at a time a run fails in one way, and none comes to the input's end then
  module _ (one : length s.inputs ≡ 1) (alone : s.concurrency ≡ 1) (untimed : s.timeout_ms ≡ None) (f : Failure) (fails : FailsMessage job s input before f) where
    abbrev Part : Partition
    Part = partition_of fails.ran.messages

    abbrev K : Given
    K = given_of job s input before fails.after fails.history fails.ran

    alone_here : DoesOneByOne job K Part
    alone_here = record { of_job = refl; input = as_many fails.ran.ran.opened.mark s.inputs one; partition = refl; alone = alone; untimed = untimed }
      where
        as_many : (mark : Option Checkpoint) (inputs : List InputSetup) → length inputs ≡ 1 → length (starts_from mark 0 inputs (Part ∷ [])) ≡ 1
        as_many mark [] is = is
        as_many mark (i ∷ []) is = refl
        as_many mark (i ∷ j ∷ is) more = absurd (omega (arith, more))

    no_window : (t : History) → IsOfMessages t → HasNoWindows None (whole t)
    no_window t of = windowless_all None (whole t) of

    same_failure : (f' : Failure) → FailsMessage job s input before f' → (f.place ≡ f'.place) × (f.why ≡ f'.why)
    same_failure f' fails' =
        let r' = fails'.ran in
        let t = fails.history in
        let t' = fails'.history in
        let lawful' = subst (λ (k : Given). IsLawful k (whole t')) (same_given job s input before fails'.after t' r' (opening_of job s input before fails.after t fails.ran)) r'.ran.lawful in
        let is = one_failure job K Part (whole t) (whole t') f f' alone_here (no_window t fails.ran.of_messages) fails.ran.ran.lawful fails.failed (no_window t' r'.of_messages) lawful' fails'.failed in
        (is.0, is.1)

    pub ended_or_fails : (after : Image) (t' : History) (r' : TaskRan job s input before after t') → Finished (given_of job s input before after t' r') t' after
        → done_to (given_of job s input before after t' r') t' ≡ end_at_input (given_of job s input before after t' r') 0 → ⊥
    ended_or_fails after t' r' finished at_end =
        let t = fails.history in
        let k' = given_of job s input before after t' r' in
        let same = same_given job s input before after t' r' (opening_of job s input before fails.after t fails.ran) in
        let lawful' = subst (λ (k : Given). IsLawful k (whole t')) same r'.ran.lawful in
        let low : low k'.setup (start_at k' 0) (whole t') 0 ≡ start_at k' 0 + deliveries_of 0 (whole t') = low_idle k' (whole t') 0 r'.ran.lawful finished.idle finished.sound in
        let first : start_at k' 0 ≡ start_at K 0 = ap (λ (k : Given). start_at k 0) same in
        let last : end_at_input k' 0 ≡ end_at_input K 0 = ap (λ (k : Given). end_at_input k 0) same in
        failure_or_end job K Part (whole t) (whole t') f alone_here (no_window t fails.ran.of_messages) fails.ran.ran.lawful fails.failed (no_window t' r'.of_messages) lawful' finished.idle finished.sound
        (omega (arith, low, at_end, first, last))

not_shut : (s : Setup) (input : List ℕ) (before : Image) (o : OpenFault) → open_status o ≢ 4 → open_status o ≢ 8 → Opens s before input → WhyNotOpened (Unit {0}) (Unit {0}) s before input o → ⊥
not_shut s input before o device memory opens why =
    not_kept_shut (Unit {0}) (Unit {0}) s before input o tt tt (λ same. device (ap open_status same)) (λ same. memory (ap open_status same)) opens why

-- a task has one cause not to be opened
one_shut : (s : Setup) (input : List ℕ) (before : Image) (o o' : OpenFault) → open_status o ≢ 4 → open_status o ≢ 8 → open_status o' ≢ 4 → open_status o' ≢ 8
    → WhyNotOpened (Unit {0}) (Unit {0}) s before input o → WhyNotOpened (Unit {0}) (Unit {0}) s before input o' → o ≡ o'
one_shut s input before o o' device memory device' memory' why why' =
    one_cause (Unit {0}) (Unit {0}) s before input o o' tt tt
    (λ same. device (ap open_status same)) (λ same. memory (ap open_status same)) (λ same. device' (ap open_status same)) (λ same. memory' (ap open_status same)) why why'

not_unfinished : (job : Meaning) (s : Setup) (input : List ℕ) (before : Image) (e : RunFault) → CanRun job s input before
    → status_of e ≢ 4 → status_of e ≢ 8 → WhyUnfinished job s input before e → ⊥
not_unfinished job s input before (Words place) can device memory why = why
not_unfinished job s input before NoText can device memory why = why
not_unfinished job s input before TextLimit can device memory why = why
not_unfinished job s input before (BadEscape line) can device memory why = why
not_unfinished job s input before (BadKey key what) can device memory why = why
not_unfinished job s input before (NotBuilt key) can device memory why = why
not_unfinished job s input before NoPartition can device memory why = why
not_unfinished job s input before Device can device memory why = device refl
not_unfinished job s input before (NotOpened o) can device memory why = not_shut s input before o device memory (can_opens job s input before can.can_open) why
not_unfinished job s input before (Failed f) can device memory why = not_failed job s input before f can why
not_unfinished job s input before Limit can device memory why = not_full job s input before can why
not_unfinished job s input before NoMemory can device memory why = memory refl

-- how a task isn't run to its end, with the fault that tells it
data Ending (job : Meaning) (s : Setup) (input : List ℕ) (before : Image) (e : RunFault) : Type 0 where
  shut : (o : OpenFault) → open_status o ≢ 4 → open_status o ≢ 8 → e ≡ NotOpened o → WhyNotOpened (Unit {0}) (Unit {0}) s before input o → Ending job s input before e
  failing : (f : Failure) → e ≡ Failed f → FailsMessage job s input before f → Ending job s input before e
  full : e ≡ Limit → FillsFile job s input before → Ending job s input before e

module _ (job : Meaning) (s : Setup) (input : List ℕ) (before : Image) where
  ending : (e : RunFault) → status_of e ≢ 4 → status_of e ≢ 8 → WhyUnfinished job s input before e → Ending job s input before e
  ending (Words place) device memory why = absurd why
  ending NoText device memory why = absurd why
  ending TextLimit device memory why = absurd why
  ending (BadEscape line) device memory why = absurd why
  ending (BadKey key what) device memory why = absurd why
  ending (NotBuilt key) device memory why = absurd why
  ending NoPartition device memory why = absurd why
  ending Device device memory why = absurd (device refl)
  ending (NotOpened o) device memory why = shut o device memory refl why
  ending (Failed f) device memory why = failing f refl why
  ending Limit device memory why = full refl why
  ending NoMemory device memory why = absurd (memory refl)

  shut_or_run : (o : OpenFault) → open_status o ≢ 4 → open_status o ≢ 8 → WhyNotOpened (Unit {0}) (Unit {0}) s before input o → (after : Image) (t : History) → TaskRan job s input before after t → ⊥
  shut_or_run o device memory why after t r = not_shut s input before o device memory (can_opens job s input before (opening_of job s input before after t r)) why

  -- and with one callback at a time it has one line, but for a file that grows too large
  module _ (one : length s.inputs ≡ 1) (alone : s.concurrency ≡ 1) (untimed : s.timeout_ms ≡ None) (task : TaskName) (inputs : List Ssp) where
    same_text : (f f' : Failure) → (f.place ≡ f'.place) × (f.why ≡ f'.why) → fault_text task inputs (Failed f) ≡ fault_text task inputs (Failed f')
    same_text f f' same = λ i. fault_text task inputs (Failed (record { turn = f.turn; place = same.0 i; why = same.1 i }))

    one_ending : (a b : RunFault) → a ≢ Limit → b ≢ Limit → Ending job s input before a → Ending job s input before b → fault_text task inputs a ≡ fault_text task inputs b
    one_ending a b small small' (shut o device memory is why) (shut o' device' memory' is' why') =
        ap (fault_text task inputs) (is ∙ ap NotOpened (one_shut s input before o o' device memory device' memory' why why') ∙ sym is')
    one_ending a b small small' (shut o device memory is why) (failing f is' fails) = absurd (shut_or_run o device memory why fails.after fails.history fails.ran)
    one_ending a b small small' (failing f is fails) (shut o device memory is' why) = absurd (shut_or_run o device memory why fails.after fails.history fails.ran)
    one_ending a b small small' (failing f is fails) (failing f' is' fails') =
        ap (fault_text task inputs) is ∙ same_text f f' (same_failure job s input before one alone untimed f fails f' fails') ∙ sym (ap (fault_text task inputs) is')
    one_ending a b small small' (full is fills) end = absurd (small is)
    one_ending a b small small' (shut o device memory is why) (full is' fills) = absurd (small' is')
    one_ending a b small small' (failing f is fails) (full is' fills) = absurd (small' is')

-- why a folder whose words are a command isn't run to its end
WhyPastWords : Folder → RunFault → Type 0
WhyPastWords f e = WhyNotReady f e ⊎ ((job : Meaning) × (s : Setup) × IsReady f job s × WhyUnfinished job s (f.disks (input_disk s) 0) (f.disks task_disk) e)

past_words : (words : List (List ℕ)) (f : Folder) (e : RunFault) → IsCommand words → WhyStopped words f e → WhyPastWords f e
unfolding WhyPastWords
past_words words f (Words place) is why = absurd (not_words words place is why)
past_words words f NoText is why = why
past_words words f TextLimit is why = why
past_words words f (BadEscape line) is why = why
past_words words f (BadKey key what) is why = why
past_words words f (NotBuilt key) is why = why
past_words words f NoPartition is why = why
past_words words f Device is why = why
past_words words f (NotOpened o) is why = why
past_words words f (Failed f') is why = why
past_words words f Limit is why = why
past_words words f NoMemory is why = why

one_config : (r : Result JobConfig RunFault) (c d : JobConfig) → r ≡ Ok c → r ≡ Ok d → c ≡ d
one_config r c d is is' = let both : ◌≡◌ {A = Result JobConfig RunFault} (Ok c) (Ok d) = sym is ∙ is' in cc both

some_one : (o : Option Meaning) (a b : Meaning) → o ≡ Some a → o ≡ Some b → a ≡ b
some_one None a b is is' = absurd (cc is)
some_one (Some x) a b is is' = ap (λ (o : Option Meaning). unwrap_or o x) (sym is ∙ is')

-- a folder asks for one job
one_job : (f : Folder) (a b : Meaning) → IsJobOf f a → IsJobOf f b → a ≡ b
one_job f a b p q = some_one (meaning_of p.0.class) a b p.2 (ap (λ (c : JobConfig). meaning_of c.class) (one_config (configured f.text) p.0 q.0 p.1 q.1) ∙ q.2)

-- the same task isn't run to its end
same_task : (f : Folder) (e : RunFault) (job job' : Meaning) (s t : Setup) → job ≡ job' → s ≡ t → WhyUnfinished job s (f.disks (input_disk s) 0) (f.disks task_disk) e → WhyUnfinished job' t (f.disks (input_disk t) 0) (f.disks task_disk) e
same_task f e job job' s t same is why =
    subst (λ (j : Meaning). WhyUnfinished j t (f.disks (input_disk t) 0) (f.disks task_disk) e) same
    (subst (λ (x : Setup). WhyUnfinished job x (f.disks (input_disk x) 0) (f.disks task_disk) e) is why)

ready_one : (f : Folder) (e : RunFault) (job job' : Meaning) (s t : Setup) → IsReady f job s → IsReady f job' t → WhyUnfinished job s (f.disks (input_disk s) 0) (f.disks task_disk) e → WhyUnfinished job' t (f.disks (input_disk t) 0) (f.disks task_disk) e
ready_one f e job job' s t a b = same_task f e job job' s t (one_job f job job' a.job_is b.job_is) (one_setup (set_up_by f) s t a.set_up b.set_up)

module _ (f : Folder) (alone : DoesOneByOneIn f) (e e' : RunFault) (device : status_of e ≢ 4) (memory : status_of e ≢ 8) (device' : status_of e' ≢ 4) (memory' : status_of e' ≢ 8) (small : e ≢ Limit) (small' : e' ≢ Limit)
    (task : TaskName) (inputs : List Ssp) where
  one_past_words : WhyPastWords f e → WhyPastWords f e' → fault_text task inputs e ≡ fault_text task inputs e'
  unfolding WhyPastWords
  one_past_words (inl why) (inl why') = ap (fault_text task inputs) (one_fault (set_up_by f) e e' (unready_said f e device memory why) (unready_said f e' device' memory' why'))
  one_past_words (inl why) (inr why') = absurd (not_unready f why'.1 e why'.2.set_up device memory why)
  one_past_words (inr why) (inl why') = absurd (not_unready f why.1 e' why.2.set_up device' memory' why')
  one_past_words (inr why) (inr why') =
      let job = why.0 in
      let s = why.1 in
      let one = alone s why.2.set_up in
      one_ending job s (f.disks (input_disk s) 0) (f.disks task_disk) one.0 one.1 one.2 task inputs e e' small small'
      (ending job s (f.disks (input_disk s) 0) (f.disks task_disk) e device memory why.3)
      (ending job s (f.disks (input_disk s) 0) (f.disks task_disk) e' device' memory' (ready_one f e' why'.0 job why'.1 s why'.2 why.2 why'.3))

  -- a folder stops with one line
  pub one_stop : (words : List (List ℕ)) → IsCommand words → WhyStopped words f e → WhyStopped words f e' → fault_text task inputs e ≡ fault_text task inputs e'
  one_stop words is why why' = one_past_words (past_words words f e is why) (past_words words f e' is why')

-- a folder that can be run to its end has no cause to stop
pub not_stopped : (words : List (List ℕ)) (f : Folder) (e : RunFault) → IsCommand words → Runnable f → status_of e ≢ 4 → status_of e ≢ 8 → WhyStopped words f e → ⊥
unfolding WhyPastWords
not_stopped words f e is can device memory why =
    elim (past_words words f e is why) [
      | inl unready ↦ not_unready f can.1 e can.2.set_up device memory unready
      | inr unfinished ↦
          let s = can.1 in
          not_unfinished can.0 s (f.disks (input_disk s) 0) (f.disks task_disk) e can.3 device memory
          (ready_one f e unfinished.0 can.0 unfinished.1 s unfinished.2 can.2 unfinished.3)
    ]
