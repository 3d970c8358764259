-- A unit that was just opened stands by no events.
use Rattle.std.proofs.Common.{ℕ, ◌≡◌, ◌≤◌, ◌<◌, ◌+◌, ◌⊎◌, inl, inr, zero, suc, List, [], ◌∷◌, ◌++◌, length, append-nil, drop, Option, Some, None, Bool, true, false, refl, sym, ◌∙◌, ap, subst, arith, rules, slice_get}
use Rattle.std.proofs.lemmas.Option.{same_Some}
use Rattle.samza_model.specs.declared.messages.Record.{Record}
use Rattle.samza_model.specs.declared.checkpoints.Checkpoint.{Checkpoint}
use Rattle.samza_model.specs.Content.{Content, State, foldrec, sent_at, store_at}
use Rattle.samza_model.specs.Files.{Image, checkpoint_file, changelog_file, output_file}
use Rattle.samza_model.specs.Logs.{HasLog}
use Rattle.samza_model.specs.Meaning.{Meaning}
use Rattle.samza_model.specs.Partition.{partition_of}
use Rattle.samza_model.specs.Restored.{Restores, HoldsContent, count_at}
use Rattle.samza_model.specs.Events.{state_after}
use Rattle.samza_model.specs.Lawful.{Given}
use Rattle.core_steps.specs.Cores.{CoreValue, Outside, given, Stands as CoreStands}
use Rattle.samza_model.specs.declared.marks.KeptMark.{KeptMark}
use Rattle.samza_model.specs.Histories.{History, all_of}
use Rattle.samza_model.specs.Marks.{Files, FromMark, RestoresTo, BeginsWith, ImagesStand}
use Rattle.unit_opening.specs.Opened.{LogsStay}
use Rattle.unit_steps.specs.Units.{UnitValue, Stands}

-- what an opening must say of the disk: each image restores to what was restored before it, and its outputs' logs have what they had
pub record OpensAt {D : Type 0} (reads : D → Image) (images : D → Image → Type 0) (k : Given) (before : Image) (disk : D) (mark : Option Checkpoint) : Type 0 where
  pub restored : Restores k.setup before mark k.state.stores
  pub durable : (c : Image) → images disk c → Restores k.setup c mark k.state.stores
  pub outputs : (c : Image) → images disk c → (j : ℕ) (had : List Record) → j < length k.setup.outputs → HasLog (before (output_file j)) had → HasLog (c (output_file j)) had
  pub marks : (had : List Record) → HasLog (before checkpoint_file) had → HasLog (reads disk checkpoint_file) had
  pub all : (i : ℕ) (records : List Record) → i < length k.setup.stores → HasLog (reads disk (changelog_file i)) records → foldrec records ≡ store_at k.state.stores i
  pub none : (j : ℕ) → sent_at k.state.sent j ≡ []
  pub stay : LogsStay k.setup mark before (reads disk)

module _ {D : Type 0} (reads : D → Image) (number : D → ℕ) (images : D → Image → Type 0) (since : D → ℕ → Image → Type 0) (k : Given) (before : Image) (disk : D) (m : KeptMark) (at : OpensAt reads images k before disk m.checkpoint) (here : images disk (reads disk)) where
  abbrev First : History
  First = record { before = before; since = []; parts = [] }

  same_log : (c : Image) (j : ℕ) (had : List Record) → HasLog (c (output_file j)) had → HasLog (c (output_file j)) (had ++ sent_at k.state.sent j)
  same_log c j had log = subst (λ (l : List Record). HasLog (c (output_file j)) l) (sym (ap (λ (l : List Record). had ++ l) (at.none j) ∙ append-nil had)) log

  pub opened_files : Files k First (m ∷ []) (reads disk)
  unfolding state_after
  opened_files = record {
    hold = record {
      log = λ had log. ([], refl, subst (λ (l : List Record). HasLog (reads disk checkpoint_file) l) (sym (append-nil had)) (at.marks had log));
      contents = contents;
    };
    all = at.all;
    sends = λ j had lt log. same_log (reads disk) j had (at.outputs (reads disk) here j had lt log);
  }
    where
      contents : (n i : ℕ) (x : KeptMark) → slice_get (m ∷ []) n ≡ Some x → i < length k.setup.stores → HoldsContent (reads disk (changelog_file i)) (count_at x.checkpoint i) (store_at (state_after k.state (all_of (drop n First.parts))).stores i)
      contents zero i x e lt = subst (λ (y : KeptMark). HoldsContent (reads disk (changelog_file i)) (count_at y.checkpoint i) (store_at k.state.stores i)) (same_Some m x e) ((at.durable (reads disk) here).each_store i lt)
      contents (suc n) i x e lt = absurd (past e)
        where
          past : None ≡ Some x → ⊥
          past q = search rules

  to : (c : Image) → images disk c → RestoresTo k before c m.checkpoint []
  unfolding state_after
  to c now = record {
    restores = at.durable c now;
    sends = λ j had lt log. record { more = []; has = subst (λ (l : List Record). HasLog (c (output_file j)) l) (sym (append-nil (had ++ sent_at k.state.sent j))) (same_log c j had (at.outputs c now j had lt log)) };
  }

  pub opened_images : m.at ≡ number disk → ((c : Image) → since disk (number disk) c → images disk c) → ImagesStand number images since disk k First (m ∷ []) None
  opened_images now only = record {
    each = λ n x e.
        (omega (arith, at_is n x e), λ c left. inl (record { place = 0; mark = m; newer = omega arith; is = refl; to = to c (only c (subst (λ q. since disk q c) (at_is n x e) left)) }));
    here = λ c is. inl (record { place = 0; mark = m; newer = omega arith; is = refl; to = to c is });
  }
    where
      at_is : (n : ℕ) (x : KeptMark) → slice_get (m ∷ []) n ≡ Some x → x.at ≡ number disk
      at_is zero x e = ap (λ (y : KeptMark). y.at) (sym (same_Some m x e)) ∙ now
      at_is (suc n) x e = absurd (past e)
        where
          past : None ≡ Some x → ⊥
          past q = search rules

-- a unit that was just opened, with the mark that it was restored to, stands by no events
pub opened_stands : {P D S : Type 0} (meaning : P → Meaning) (tells : Type 0) (reads : D → Image) (number : D → ℕ) (images : D → Image → Type 0) (since : D → ℕ → Image → Type 0)
    (o : Outside) (job : P) (shelf : S) (messages : List Record) (core : CoreValue) (disk : D) (m : KeptMark) (before : Image)
    → o.job ≡ Some (meaning job) → o.parts ≡ Some (partition_of messages) ∷ [] → CoreStands o core [] 0 → core.since ≡ []
    → (tells → OpensAt reads images (given o core) before disk m.checkpoint) → (tells → images disk (reads disk)) → m.at ≡ number disk → (tells → (c : Image) → since disk (number disk) c → images disk c)
    → Stands meaning tells reads number images since o (record { job = job; shelf = shelf; messages = messages; core = core; disk = disk; marks = m ∷ []; begun = None; broken = false }) (record { before = before; since = []; parts = [] })
opened_stands meaning tells reads number images since o job shelf messages core disk m before of_job parts stands journal at here now only = record {
  job = of_job;
  parts = parts;
  opened = λ told x e. subst (λ (y : KeptMark). Restores core.setup before y.checkpoint o.state.stores) (same_Some m x e) (at told).restored;
  core = stands;
  journal = journal;
  marks = refl;
  files = λ _ told. opened_files reads number images since (given o core) before disk m (at told) (here told);
  grown = λ _ told. (at told).stay;
  crash = λ told. opened_images reads number images since (given o core) before disk m (at told) (here told) now (only told);
  begun = tt;
  sound = λ _. refl;
  left = tt;
  prompt = λ _. (tt, tt);
}
