-- What a unit keeps, over its calls.
use Rattle.std.proofs.Common.{ℕ, ◌≡◌, ◌≤◌, ◌<◌, ◌+◌, ◌-◌, List, [], ◌∷◌, length, get_or, Option, Some, None, Bool, true, false, refl, sym, ◌∙◌, ap, subst, arith, slice_get}
use Rattle.std.specs.Prelude.{IfSome}
use Rattle.samza_model.specs.declared.messages.Record.{Record}
use Rattle.samza_model.specs.declared.setups.Setup.{Setup}
use Rattle.samza_model.specs.Files.{Image, changelog_file, checkpoint_file, output_file}
use Rattle.samza_model.specs.Meaning.{Meaning}
use Rattle.samza_model.specs.Partition.{Partition, partition_of, message}
use Rattle.samza_model.proofs.Laws.{message_in}
use Rattle.samza_model.specs.declared.events.Event.{Event}
use Rattle.samza_model.specs.Lawful.{part_at}
use Rattle.core_steps.specs.Cores.{CoreValue, Outside, given, IsCore, IsBody, next_at}
use Rattle.unit_logs.specs.declared.writing.Logs.{Logs}
use Rattle.unit_logs.specs.Standing.{IsSetUp}
use Rattle.samza_model.specs.Histories.{with_event}
use Rattle.samza_model.specs.Marks.{last_mark}
use Rattle.topic_log.specs.declared.logs.Log.{Log}
use Rattle.restore_trim.specs.Standing.{IsOpenAt}
use Rattle.unit_steps.specs.Moments.{SameOfTask}
use Rattle.unit_steps.specs.Units.{UnitValue, Stands, Adds, Keeps, IsUnit, OpenOnDisk}
use Rattle.unit_steps.proofs.Adding.{with_core}

-- the body is the partition's, where that is the unit's messages
pub body_is : (messages : List Record) (o : Outside) (u : CoreValue) (offset : ℕ) (m : Record) → slice_get messages offset ≡ Some m → o.parts ≡ Some (partition_of messages) ∷ [] → IsBody 0 offset m o u
body_is messages o u offset m at parts =
    let here : part_at (given o u) 0 ≡ Some (partition_of messages) = ap (λ (ps : List (Option Partition)). part_at (record { job = o.job; setup = u.setup; parts = ps; starts = u.starts; ends = u.ends; state = o.state }) 0) parts in
    subst (λ (p : Option Partition). IfSome p (λ part. message part offset ≡ Some m)) (sym here) (message_in messages offset ∙ at)

-- one input
pub one_start : (u : CoreValue) → IsCore u → IsSetUp u.setup → length u.starts ≡ 1
one_start u core set_up = sym core.inputs ∙ set_up.one_input

module _ {P D S : Type 0} (meaning : P → Meaning) (tells : Type 0) (reads : D → Image) (number : D → ℕ) (images : D → Image → Type 0) (since : D → ℕ → Image → Type 0) where
  pub keeps_unit : (logs : Logs) (old : UnitValue P D S) (core : CoreValue) (e : Event) → IsUnit meaning tells reads number images since logs old
      → Adds meaning tells reads number images since old (with_core old core) e → IsUnit meaning tells reads number images since logs (with_core old core)
  keeps_unit logs old core e inv a =
      let same : old.core.setup ≡ core.setup = sym (ap (λ k. k.setup) (a.same.core inv.outside)) in
      record {
        set_up = subst (λ (s : Setup). IsSetUp s) same inv.set_up;
        changelogs_are = subst (λ (s : Setup). length logs.changelogs.items ≡ length s.stores) same inv.changelogs_are;
        outputs_are = subst (λ (s : Setup). length logs.outputs.items ≡ length s.outputs) same inv.outputs_are;
        ends = sym (ap (λ k. k.ends) (sym (a.same.core inv.outside))) ∙ inv.ends;
        sound = inv.sound;
        counted = inv.counted;
        last = a.last ∙ inv.last;
        on_disk = λ b told. subst (λ (s : Setup). OpenOnDisk (reads old.disk) (images old.disk) s logs (last_mark old.marks)) same (inv.on_disk b told);
        outside = inv.outside;
        history = with_event e inv.history;
        stands = a.history inv.outside inv.history inv.stands;
      }

  pub stays_unit : (logs : Logs) (old : UnitValue P D S) (core : CoreValue) → IsUnit meaning tells reads number images since logs old
      → Keeps meaning tells reads number images since old (with_core old core) → IsUnit meaning tells reads number images since logs (with_core old core)
  stays_unit logs old core inv k =
      let same : old.core.setup ≡ core.setup = sym (ap (λ g. g.setup) (k.same.core inv.outside)) in
      record {
        set_up = subst (λ (s : Setup). IsSetUp s) same inv.set_up;
        changelogs_are = subst (λ (s : Setup). length logs.changelogs.items ≡ length s.stores) same inv.changelogs_are;
        outputs_are = subst (λ (s : Setup). length logs.outputs.items ≡ length s.outputs) same inv.outputs_are;
        ends = ap (λ g. g.ends) (k.same.core inv.outside) ∙ inv.ends;
        sound = inv.sound;
        counted = inv.counted;
        last = k.last ∙ inv.last;
        on_disk = λ b told. subst (λ (s : Setup). OpenOnDisk (reads old.disk) (images old.disk) s logs (last_mark old.marks)) same (inv.on_disk b told);
        outside = inv.outside;
        history = inv.history;
        stands = k.history inv.outside inv.history inv.stands;
      }

-- in each image a log that is open has its file as it reads
durable_at : (reads : Image) (images : Image → Type 0) (file : ℕ) (log : Log) (frames : List (List Record)) → IsOpenAt reads images file log frames → (c : Image) → images c → c file ≡ reads file
durable_at reads images file log frames o c now = subst (λ (f : ℕ). c f ≡ reads f) o.file_is (o.is_open.durable c now)

-- while no commit answered Device, each image has the task's files as they read
pub same_of_task : {P D S : Type 0} (meaning : P → Meaning) (tells : Type 0) (reads : D → Image) (number : D → ℕ) (images : D → Image → Type 0) (since : D → ℕ → Image → Type 0) (logs : Logs) (u : UnitValue P D S)
    → IsUnit meaning tells reads number images since logs u → u.broken ≡ false → tells → (c : Image) → images u.disk c → SameOfTask (length u.core.setup.stores) (length u.core.setup.outputs) (reads u.disk) c
same_of_task meaning tells reads number images since logs u inv sound told c now =
    let on = inv.on_disk sound told in
    let at = durable_at (reads u.disk) (images u.disk) in
    record {
      checkpoints = at checkpoint_file logs.marks on.marks.frames on.marks.is_open c now;
      changelogs = λ i lt.
          let o = on.stores i logs.marks lt in
          at (changelog_file i) (get_or logs.changelogs.items i logs.marks) o.frames o.is_open c now;
      logs = λ j lt.
          let o = on.outputs j logs.marks (omega (arith, lt, inv.outputs_are)) in
          at (output_file j) (get_or logs.outputs.items j logs.marks) o.0 o.1 c now;
    }
