-- A unit that stands by some events stands by one more.
use Rattle.std.proofs.Common.{ℕ, ◌≡◌, ◌≤◌, ◌<◌, ◌+◌, ◌-◌, ◌⊎◌, inl, inr, zero, suc, List, [], ◌∷◌, ◌++◌, length, length-append, drop, Option, Some, None, false, refl, sym, ◌∙◌, ap, subst, arith}
use Rattle.std.specs.Prelude.{IfSome}
use Rattle.samza_model.specs.Files.{Image}
use Rattle.samza_model.specs.Meaning.{Meaning}
use Rattle.samza_model.specs.declared.events.Event.{Event}
use Rattle.samza_model.specs.declared.events.Event.TheVariants.{Deliver, Did, Complete, Failed, WindowDid, WindowEnded}
use Rattle.samza_model.specs.Events.{older, low}
use Rattle.samza_model.specs.Lawful.{Given, start_at}
use Rattle.samza_model.specs.Partition.{partition_of}
use Rattle.samza_model.specs.Restored.{next_at, Restores}
use Rattle.core_steps.specs.Cores.{CoreValue, Outside, given, Adds as CoreAdds, Keeps as CoreKeeps, Stands as CoreStands}
use Rattle.core_steps.proofs.Laws.{older_more}
use Rattle.samza_model.specs.declared.marks.KeptMark.{KeptMark}
use Rattle.samza_model.specs.Histories.{History, all_of, whole, marked, marked_at, with_event}
use Rattle.samza_model.specs.Requests.{IsPrompt}
use Rattle.unit_steps.specs.Following.{MayFollow}
use Rattle.samza_model.specs.Marks.{AreMarks, Files, FromMark, FromBegun, IsMark, MayBegun, RestoresTo, ImagesStand, last_mark}
use Rattle.unit_steps.specs.Growing.{HaveGrown}
use Rattle.unit_steps.specs.Leaving.{HoldAll, IsLeft}
use Rattle.unit_steps.specs.Moments.{FromMarks}
use Rattle.unit_steps.specs.Units.{UnitValue, Stands, Adds, Keeps, SameGiven}

-- the unit with another core
abbrev pub with_core : {P D S : Type 0} → UnitValue P D S → CoreValue → UnitValue P D S
with_core u c = record { job = u.job; shelf = u.shelf; messages = u.messages; core = c; disk = u.disk; marks = u.marks; begun = u.begun; broken = u.broken }

begun_same : (b : ℕ) (e : Event) (t : History) → b ≤ length t.since → marked_at b (with_event e t) ≡ marked_at b t
begun_same b e t le = ap (λ (l : List Event). l ++ all_of t.parts) (older_more b t.since e le)

files_more : (k : Given) (e : Event) (t : History) (marks : List KeptMark) (c : Image) → Files k t marks c → Files k (with_event e t) marks c
files_more k e t marks c f = record { hold = record { log = f.hold.log; contents = f.hold.contents }; all = f.all; sends = f.sends }

from_more : (k : Given) (e : Event) (t : History) (marks : List KeptMark) (n : ℕ) (c : Image) → FromMark k t marks n c → FromMark k (with_event e t) marks n c
from_more k e t marks n c f = record { place = f.place; mark = f.mark; newer = f.newer; is = f.is; to = f.to }

begun_more : (k : Given) (e : Event) (t : History) (marks : List KeptMark) (begun : Option ℕ) (c : Image) → IfSome begun (λ b. b ≤ length t.since) → MayBegun k t marks begun c → MayBegun k (with_event e t) marks begun c
begun_more k e t marks None c within f = f
begun_more k e t marks (Some b) c within f =
    let same = begun_same b e t within in
    record {
      made = f.made;
      id = f.id;
      next = λ p lt. subst (λ (h : List Event). next_at (Some f.made) p ≡ Some (low k.setup (start_at k p) h p)) (sym same) (f.next p lt);
      to = subst (λ (h : List Event). RestoresTo k t.before c (Some f.made) h) (sym same) f.to;
    }

pub from_marks_more : (k : Given) (e : Event) (t : History) (marks : List KeptMark) (begun : Option ℕ) (a c : Image) → IfSome begun (λ b. b ≤ length t.since) → FromMarks k t marks begun a c → FromMarks k (with_event e t) marks begun a c
from_marks_more k e t marks begun a c within f = record {
  from = elim f.from [ inl from ↦ inl (from_more k e t marks (length t.parts) c from) | inr b ↦ inr (begun_more k e t marks begun c within b) ];
  others = f.others;
}

left_more : (k : Given) (e : Event) (t : History) (marks : List KeptMark) (c : Image) (b : ℕ) → b ≤ length t.since → IsLeft k t marks b c → IsLeft k (with_event e t) marks b c
left_more k e t marks c b within left = elim left [
  | inl all ↦ inl (record { hold = record { log = all.hold.log; contents = all.hold.contents }; sends = all.sends })
  | inr more ↦ inr (record {
    mark = more.mark;
    is_mark = subst (λ (h : List Event). IsMark k h (last_mark marks) more.mark.checkpoint) (sym (begun_same b e t within)) more.is_mark;
    hold = subst (λ (l : List Event). HoldAll k (record { before = t.before; since = []; parts = l ∷ t.parts }) (more.mark ∷ marks) c) (sym (older_more b t.since e within)) more.hold;
  })
]

lefts_more : (tells : Type 0) (k : Given) (e : Event) (t : History) (marks : List KeptMark) (c : Image) (begun : Option ℕ) → IfSome begun (λ b. b ≤ length t.since)
    → IfSome begun (λ b. tells → IsLeft k t marks b c) → IfSome begun (λ b. tells → IsLeft k (with_event e t) marks b c)
lefts_more tells k e t marks c None within left = tt
lefts_more tells k e t marks c (Some b) within left = λ told. left_more k e t marks c b within (left told)

within_more : (begun : Option ℕ) (n : ℕ) → IfSome begun (λ b. b ≤ n) → IfSome begun (λ b. b ≤ suc n)
within_more None n le = tt
within_more (Some b) n le = omega (arith, le)

pub prompt_more : (e : Event) (h : List Event) → MayFollow e h → IsPrompt h → IsPrompt (e ∷ h)
prompt_more (Deliver n p o m t) h may is = (may, is)
prompt_more (Did n i act answer) h may is = is
prompt_more (Complete n) h may is = is
prompt_more (Failed f) h may is = is
prompt_more (WindowDid i act answer) h may is = is
prompt_more WindowEnded h may is = is

module _ {D : Type 0} (number : D → ℕ) (images : D → Image → Type 0) (since : D → ℕ → Image → Type 0) where
  images_more : (disk : D) (k : Given) (e : Event) (t : History) (marks : List KeptMark) (begun : Option ℕ) → IfSome begun (λ b. b ≤ length t.since)
      → ImagesStand number images since disk k t marks begun → ImagesStand number images since disk k (with_event e t) marks begun
  images_more disk k e t marks begun within s = record {
    each = λ n m is.
        let was = s.each n m is in
        (was.0, λ c left. elim (was.1 c left) [ inl from ↦ inl (from_more k e t marks n c from) | inr b ↦ inr (begun_more k e t marks begun c within b) ]);
    here = λ c now. elim (s.here c now) [ inl from ↦ inl (from_more k e t marks 0 c from) | inr b ↦ inr (begun_more k e t marks begun c within b) ];
  }

module _ {P D S : Type 0} (meaning : P → Meaning) (tells : Type 0) (reads : D → Image) (number : D → ℕ) (images : D → Image → Type 0) (since : D → ℕ → Image → Type 0) where
  pub adds : (old : UnitValue P D S) (core : CoreValue) (e : Event) (may : Outside → CoreValue → Type 0) → CoreAdds may old.core core e
      → ((o : Outside) → o.job ≡ Some (meaning old.job) → o.parts ≡ Some (partition_of old.messages) ∷ [] → may o old.core)
      → (old.core.setup.async_commit ≡ false → MayFollow e old.core.since)
      → Adds meaning tells reads number images since old (with_core old core) e
  adds old core e may a holds follows = record {
    same = record { job = refl; shelf = refl; messages = refl; core = a.same };
    times = a.times;
    last = a.last;
    window = a.window;
    disk = refl;
    marks = (refl, refl, refl);
    history = λ o t s.
        let same = a.same o in
        record {
          job = s.job;
          parts = s.parts;
          opened = λ told m at. subst (λ (k : Given). Restores k.setup t.before m.checkpoint o.state.stores) (sym same) (s.opened told m at);
          core = a.history o (whole t) (length (marked t)) (holds o s.job s.parts) s.core;
          journal = a.journal ∙ ap (λ (l : List Event). e ∷ l) s.journal;
          marks = subst (λ (k : Given). AreMarks k t.parts old.marks) (sym same) s.marks;
          files = λ b told. subst (λ (k : Given). Files k (with_event e t) old.marks (reads old.disk)) (sym same) (files_more (given o old.core) e t old.marks (reads old.disk) (s.files b told));
          grown = λ b told. subst (λ (k : Given). HaveGrown k t.before t.parts old.marks (reads old.disk)) (sym same) (s.grown b told);
          crash = λ told. subst (λ (k : Given). ImagesStand number images since old.disk k (with_event e t) old.marks old.begun) (sym same) (images_more number images since old.disk (given o old.core) e t old.marks old.begun s.begun (s.crash told));
          begun = within_more old.begun (length t.since) s.begun;
          sound = s.sound;
          left = subst (λ (k : Given). IfSome old.begun (λ b. tells → IsLeft k (with_event e t) old.marks b (reads old.disk))) (sym same) (lefts_more tells (given o old.core) e t old.marks (reads old.disk) old.begun s.begun s.left);
          prompt = λ sync.
              let before = ap (λ (k : Given). k.setup.async_commit) (sym same) ∙ sync in
              (prompt_more e t.since (subst (λ (l : List Event). MayFollow e l) s.journal (follows before)) (s.prompt before).0, (s.prompt before).1);
        };
  }

  pub keeps : (old : UnitValue P D S) (core : CoreValue) → CoreKeeps old.core core → Keeps meaning tells reads number images since old (with_core old core)
  keeps old core k = record {
    same = record { job = refl; shelf = refl; messages = refl; core = k.same };
    last = k.last;
    disk = refl;
    marks = (refl, refl, refl);
    history = λ o t s.
        let same = k.same o in
        record {
          job = s.job;
          parts = s.parts;
          opened = λ told m at. subst (λ (g : Given). Restores g.setup t.before m.checkpoint o.state.stores) (sym same) (s.opened told m at);
          core = k.history o (whole t) (length (marked t)) s.core;
          journal = k.journal ∙ s.journal;
          marks = subst (λ (g : Given). AreMarks g t.parts old.marks) (sym same) s.marks;
          files = λ b told. subst (λ (g : Given). Files g t old.marks (reads old.disk)) (sym same) (s.files b told);
          grown = λ b told. subst (λ (g : Given). HaveGrown g t.before t.parts old.marks (reads old.disk)) (sym same) (s.grown b told);
          crash = λ told. subst (λ (g : Given). ImagesStand number images since old.disk g t old.marks old.begun) (sym same) (s.crash told);
          begun = s.begun;
          sound = s.sound;
          left = subst (λ (g : Given). IfSome old.begun (λ b. tells → IsLeft g t old.marks b (reads old.disk))) (sym same) s.left;
          prompt = λ sync. s.prompt (ap (λ (g : Given). g.setup.async_commit) (sym same) ∙ sync);
        };
  }
