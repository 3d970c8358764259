-- A unit runs on by an event, and by a commit; and one run follows another.
use Rattle.std.proofs.Common.{ℕ, ◌≡◌, ◌≤◌, false, List, [], length, Option, None, refl, sym, ◌∙◌, ap, subst, arith, true≢false}
use Rattle.samza_model.specs.declared.checkpoints.Checkpoint.{Checkpoint}
use Rattle.samza_model.specs.declared.marks.KeptMark.{KeptMark}
use Rattle.samza_model.specs.declared.setups.Setup.{Setup}
use Rattle.samza_model.specs.declared.events.Event.{Event}
use Rattle.samza_model.specs.declared.events.Event.TheVariants.{Deliver, Did, Complete, Failed, WindowDid, WindowEnded}
use Rattle.samza_model.specs.Files.{Image}
use Rattle.samza_model.specs.Histories.{with_event, with_mark}
use Rattle.samza_model.specs.Lawful.{Given}
use Rattle.samza_model.specs.Meaning.{Meaning}
use Rattle.samza_model.specs.Ran.{is_of_window}
use Rattle.disk_model.specs.declared.names.DiskName.{DiskName}
use Rattle.disk_model.specs.Images.{LeavesOnly}
use Rattle.disk_model.proofs.Laws.{followed, started, weaker}
use Rattle.restore_trim.specs.Standing.{OthersStay}
use Rattle.core_steps.specs.Cores.{Outside, given}
use Rattle.unit_steps.specs.Moments.{FromMarks}
use Rattle.unit_steps.specs.Units.{UnitValue, Adds, Begins, Marks, SameGiven}
use Rattle.unit_steps.proofs.Laws.{from_marks_more}
use Rattle.run_loop.specs.Messages.{IsOfMessage}
use Rattle.run_loop.specs.Runs.{Runs}

abbrev pub nobody : Outside
nobody = record { job = None; parts = []; state = record { stores = []; sent = [] } }

pub setup_same : {P D S : Type 0} (old new : UnitValue P D S) → SameGiven old new → new.core.setup ≡ old.core.setup
setup_same old new same = ap (λ (k : Given). k.setup) (same.core nobody)

-- an event of a message is none of a window's
pub of_message_of_none : (e : Event) → IsOfMessage e → is_of_window e ≡ false
of_message_of_none (Deliver n p o m t) is = refl
of_message_of_none (Did n i act answer) is = refl
of_message_of_none (Complete n) is = refl
of_message_of_none (Failed f) is = is.0
of_message_of_none (WindowDid i act answer) is = absurd is
of_message_of_none WindowEnded is = absurd is

module _ {P D S : Type 0} (meaning : P → Meaning) (tells : Type 0) (reads : D → Image) (number : D → ℕ) (images : D → Image → Type 0) (since : D → ℕ → Image → Type 0) (name : D → DiskName) (faults : D → ℕ)
    (only : (disk : D) (c : Image) → tells → since disk (number disk) c → images disk c) where
  abbrev Others : UnitValue P D S → Image → Image → Type 0
  Others u = OthersStay (length u.core.setup.stores) (length u.core.setup.outputs)

  still : (u : UnitValue P D S) → tells → LeavesOnly number images since u.disk u.disk (Others u)
  still u told = started number images since u.disk (Others u) (λ c left. only u.disk c told left) (λ c now. (c, now, λ f other. refl))

  -- nothing is done
  pub stays : (u : UnitValue P D S) → Runs meaning tells reads number images since name faults u u
  stays u = record {
    same = record { job = refl; shelf = refl; messages = refl; core = λ o. refl };
    window = refl;
    history = λ o t s. (t, record { before = refl; of_messages = λ of. of }, s, λ told from all. all);
    unbroken = λ b. b;
    others = λ b told f other. refl;
    any_moment = λ told. still u told;
    named = refl;
    later = omega arith;
  }

  -- one event of a message more
  pub runs_event : (old new : UnitValue P D S) (e : Event) → Adds meaning tells reads number images since old new e → IsOfMessage e → Runs meaning tells reads number images since name faults old new
  runs_event old new e a of = record {
    same = a.same;
    window = a.window (of_message_of_none e of);
    history = λ o t s. (
      with_event e t,
      record { before = refl; of_messages = λ all. (of, all) },
      a.history o t s,
      λ told from all.
          subst (λ (k : Given). LeavesOnly number images since from new.disk (FromMarks k (with_event e t) new.marks new.begun)) (sym (a.same.core o))
          (subst (λ (d : D). LeavesOnly number images since from d (FromMarks (given o old.core) (with_event e t) new.marks new.begun)) (sym a.disk)
          (subst (λ (ms : List KeptMark). LeavesOnly number images since from old.disk (FromMarks (given o old.core) (with_event e t) ms new.begun)) (sym a.marks.0)
          (subst (λ (b : Option ℕ). LeavesOnly number images since from old.disk (FromMarks (given o old.core) (with_event e t) old.marks b)) (sym a.marks.1)
          (weaker number images since from old.disk (FromMarks (given o old.core) t old.marks old.begun) (FromMarks (given o old.core) (with_event e t) old.marks old.begun) all
          (λ x y was is. from_marks_more (given o old.core) e t old.marks old.begun x y s.begun is))))),
    );
    unbroken = λ b. sym a.marks.2 ∙ b;
    others = λ b told f other. ap (λ (d : D). reads d f) a.disk;
    any_moment = λ told. subst (λ (d : D). LeavesOnly number images since old.disk d (Others old)) (sym a.disk) (still old told);
    named = ap name a.disk;
    later = subst (λ (d : D). faults old.disk ≤ faults d) (sym a.disk) (omega arith);
  }

  -- a mark more
  pub runs_mark : (old new : UnitValue P D S) (made : Checkpoint) → Marks meaning tells reads number images since old new made
      → (tells → Others old (reads old.disk) (reads new.disk)) → (tells → LeavesOnly number images since old.disk new.disk (Others old)) → name new.disk ≡ name old.disk → faults old.disk ≤ faults new.disk
      → Runs meaning tells reads number images since name faults old new
  runs_mark old new made m others any same_name later = record {
    same = m.same;
    window = m.window;
    history = λ o t s. (with_mark t, record { before = refl; of_messages = λ all. all }, m.history o t s, λ told from all. m.moments o t s told from all);
    unbroken = λ b. m.sound.0;
    others = λ b told. others told;
    any_moment = any;
    named = same_name;
    later = later;
  }

  -- a commit that wasn't finished
  pub runs_begun : (old new : UnitValue P D S) → Begins meaning tells reads number images since old new
      → (tells → LeavesOnly number images since old.disk new.disk (Others old)) → name new.disk ≡ name old.disk → faults old.disk ≤ faults new.disk
      → Runs meaning tells reads number images since name faults old new
  runs_begun old new b any same_name later = record {
    same = b.same;
    window = ap (λ c. c.window) b.core;
    history = λ o t s. (t, record { before = refl; of_messages = λ all. all }, b.history o t s, λ told from all. b.moments o t s told from all);
    unbroken = λ un. absurd (true≢false (sym b.begun.2 ∙ un));
    others = λ un told. absurd (true≢false (sym b.begun.2 ∙ un));
    any_moment = any;
    named = same_name;
    later = later;
  }

  -- a run behind a run
  pub runs_on : ((disk : D) (k : ℕ) (c : Image) → tells → k ≤ number disk → images disk c → since disk k c)
      → (old mid new : UnitValue P D S) → Runs meaning tells reads number images since name faults old mid → Runs meaning tells reads number images since name faults mid new
      → Runs meaning tells reads number images since name faults old new
  runs_on counts old mid new one two =
      let same : mid.core.setup ≡ old.core.setup = setup_same old mid one.same in
      record {
        same = record {
          job = two.same.job ∙ one.same.job;
          shelf = two.same.shelf ∙ one.same.shelf;
          messages = two.same.messages ∙ one.same.messages;
          core = λ o. two.same.core o ∙ one.same.core o;
        };
        window = two.window ∙ one.window;
        history = λ o t s.
            let a = one.history o t s in
            let b = two.history o a.0 a.2 in
            (b.0, record { before = b.1.before ∙ a.1.before; of_messages = λ all. b.1.of_messages (a.1.of_messages all) }, b.2, λ told from all. b.3 told from (a.3 told from all));
        unbroken = λ b. one.unbroken (two.unbroken b);
        others = λ b told.
            let later = subst (λ (s : Setup). OthersStay (length s.stores) (length s.outputs) (reads mid.disk) (reads new.disk)) same (two.others b told) in
            λ f other. later f other ∙ one.others (two.unbroken b) told f other;
        any_moment = λ told.
            followed number images since old.disk mid.disk new.disk (Others old) (Others old) (Others old) (λ k c le now. counts mid.disk k c told le now) (one.any_moment told)
            (subst (λ (s : Setup). LeavesOnly number images since mid.disk new.disk (OthersStay (length s.stores) (length s.outputs))) same (two.any_moment told))
            (λ a b c p q f other. q f other ∙ p f other) (λ a b p. p);
        named = two.named ∙ one.named;
        later = omega (arith, one.later, two.later);
      }
