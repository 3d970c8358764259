-- A unit that was just opened, from what the opening of its task says.
use Rattle.std.proofs.Common.{ℕ, ◌≡◌, ◌<◌, ◌↔◌, zero, suc, List, [], ◌∷◌, length, map, Option, Some, None, false, refl, sym, ◌∙◌, ap, subst}
use Rattle.samza_model.specs.declared.messages.Record.{Record}
use Rattle.samza_model.specs.declared.checkpoints.Checkpoint.{Checkpoint}
use Rattle.samza_model.specs.declared.marks.KeptMark.{KeptMark}
use Rattle.samza_model.specs.declared.setups.Setup.{Setup}
use Rattle.samza_model.specs.Content.{Content, State, sent_at, store_at}
use Rattle.samza_model.specs.Files.{Image}
use Rattle.samza_model.specs.Lawful.{Given}
use Rattle.samza_model.specs.Logs.{HasFrames, HasLog}
use Rattle.samza_model.specs.Meaning.{Meaning}
use Rattle.samza_model.specs.Partition.{partition_of}
use Rattle.samza_model.specs.Ran.{fresh}
use Rattle.samza_model.specs.Restored.{Restores, id_of}
use Rattle.core_steps.specs.Cores.{CoreValue, Outside, given, Stands as CoreStands}
use Rattle.topic_log.specs.Opened.{count_of}
use Rattle.unit_logs.specs.declared.writing.Logs.{Logs}
use Rattle.unit_logs.specs.Standing.{IsSetUp, OnDisk}
use Rattle.unit_logs.specs.Written.{AreSound}
use Rattle.unit_opening.specs.Opened.{SameFrames, LogsStay, AreWhole}
use Rattle.unit_steps.specs.Units.{UnitValue, IsUnit, OpenOnDisk, Stands, opened_history}
use Rattle.unit_steps.proofs.Laws.{OpensAt, open_whatever, opened_stands}

nothing_sent : {X : Type 0} (outputs : List X) (j : ℕ) → sent_at (map (λ _. []) outputs) j ≡ []
nothing_sent [] j = refl
nothing_sent (o ∷ os) zero = refl
nothing_sent (o ∷ os) (suc j) = nothing_sent os j

same_log : (before after : Image) (file : ℕ) (had : List Record) → SameFrames before after file → HasLog (before file) had → HasLog (after file) had
same_log before after file had same log = record { frames = log.frames; has = (same log.frames).0 log.has; records_are = log.records_are }

-- what the opening of a task hands back
pub record Handed {D : Type 0} (tells : Type 0) (reads : D → Image) (images : D → Image → Type 0) (s : Setup) (tables : List Content) (before : Image) (disk : D) (mark : Option Checkpoint) : Type 0 where
  pub restored : tells → Restores s before mark tables
  pub durable : tells → (c : Image) → images disk c → Restores s c mark tables
  pub stay : tells → (c : Image) → images disk c → LogsStay s mark before c
  pub whole : tells → AreWhole s (reads disk) tables

opens_at : {D : Type 0} (tells : Type 0) (reads : D → Image) (images : D → Image → Type 0) (k : Given) (s : Setup) (tables : List Content) (before : Image) (disk : D) (mark : Option Checkpoint)
    → k.setup ≡ s → k.state ≡ fresh s tables → Handed tells reads images s tables before disk mark → (told : tells) → images disk (reads disk) → OpensAt reads images k before disk mark
opens_at tells reads images k s tables before disk mark setup state h told here =
    let stores : tables ≡ k.state.stores = ap (λ (x : State). x.stores) (sym state) in
    record {
      restored = subst (λ (x : Setup). Restores x before mark k.state.stores) (sym setup) (subst (λ (cs : List Content). Restores s before mark cs) stores (h.restored told));
      durable = λ c now. subst (λ (x : Setup). Restores x c mark k.state.stores) (sym setup) (subst (λ (cs : List Content). Restores s c mark cs) stores (h.durable told c now));
      outputs = λ c now j had lt log. same_log before c _ had ((h.stay told c now).outputs j (subst (λ (x : Setup). j < length x.outputs) setup lt)) log;
      marks = λ had log. same_log before (reads disk) _ had (h.stay told (reads disk) here).marks log;
      all = λ i records lt log. h.whole told i records (subst (λ (x : Setup). i < length x.stores) setup lt) log ∙ ap (λ (cs : List Content). store_at cs i) stores;
      none = λ j. ap (λ (x : State). sent_at x.sent j) state ∙ nothing_sent s.outputs j;
      stay = subst (λ (x : Setup). LogsStay x mark before (reads disk)) (sym setup) (h.stay told (reads disk) here);
    }

module _ {P D S : Type 0} (meaning : P → Meaning) (tells : Type 0) (reads : D → Image) (number : D → ℕ) (images : D → Image → Type 0) (since : D → ℕ → Image → Type 0)
    (job : P) (shelf : S) (messages : List Record) (core : CoreValue) (disk : D) (mark : Option Checkpoint) (before : Image) (s : Setup) (tables : List Content)
    (setup : core.setup ≡ s) (begun : (o : Outside) → o.state ≡ fresh s tables → CoreStands o core [] 0) (journal : core.since ≡ [])
    (handed : Handed tells reads images s tables before disk mark) (here : tells → images disk (reads disk)) (only : tells → (c : Image) → since disk (number disk) c → images disk c) where
  abbrev Mark : KeptMark
  Mark = record { checkpoint = mark; at = number disk }

  abbrev pub Opened : UnitValue P D S
  Opened = record { job = job; shelf = shelf; messages = messages; core = core; disk = disk; marks = Mark ∷ []; begun = None; broken = false }

  pub stands_opened : (o : Outside) → o.job ≡ Some (meaning job) → o.parts ≡ Some (partition_of messages) ∷ [] → o.state ≡ fresh s tables
      → Stands meaning tells reads number images since o Opened (opened_history before)
  stands_opened o of_job parts state =
      opened_stands meaning tells reads number images since o job shelf messages core disk Mark before of_job parts (begun o state) journal
      (λ told. opens_at tells reads images (given o core) s tables before disk mark setup state handed told (here told)) here refl only

  pub opened_unit : (logs : Logs) → IsSetUp s → length logs.changelogs.items ≡ length s.stores → length logs.outputs.items ≡ length s.outputs → core.ends ≡ length messages ∷ []
      → AreSound logs → count_of logs.marks ≡ id_of mark → core.last ≡ id_of mark → (tells → OnDisk (reads disk) (images disk) s logs mark core.held)
      → IsUnit meaning tells reads number images since logs Opened
  opened_unit logs set_up changelogs outputs ends sound counted last on =
      let o : Outside = record { job = Some (meaning job); parts = Some (partition_of messages) ∷ []; state = fresh s tables } in
      record {
        set_up = subst (λ (x : Setup). IsSetUp x) (sym setup) set_up;
        changelogs_are = changelogs ∙ ap (λ (x : Setup). length x.stores) (sym setup);
        outputs_are = outputs ∙ ap (λ (x : Setup). length x.outputs) (sym setup);
        ends = ends;
        sound = λ _. sound;
        counted = λ _. counted;
        last = last;
        on_disk = λ _ told. subst (λ (x : Setup). OpenOnDisk (reads disk) (images disk) x logs mark) (sym setup) (open_whatever (reads disk) (images disk) s logs mark core.held (on told));
        outside = o;
        history = opened_history before;
        stands = stands_opened o refl refl refl;
      }
