-- What the events by which a unit stands say of it, before and after a step.
use Rattle.std.proofs.Common.{zero, suc, ℕ, ◌+◌, ◌-◌, ◌*◌, ◌≡◌, ◌<◌, ◌≤◌, false, List, [], ◌∷◌, length, get_or, is_some, Option, Some, None, refl, sym, ◌∙◌, ap, arith, true≢false}
use Rattle.std.proofs.lemmas.Bool.{lt-leb}
use Rattle.samza_model.specs.declared.checkpoints.Checkpoint.{Checkpoint}
use Rattle.samza_model.specs.declared.marks.KeptMark.{KeptMark}
use Rattle.samza_model.specs.declared.setups.Setup.{Setup}
use Rattle.samza_model.specs.declared.events.Event.{Event}
use Rattle.samza_model.specs.declared.flights.Flight.{Flight}
use Rattle.samza_model.specs.Events.{deliveries_of, flights}
use Rattle.samza_model.specs.Files.{Image}
use Rattle.samza_model.specs.Histories.{whole}
use Rattle.samza_model.specs.Lawful.{Given}
use Rattle.samza_model.specs.Marks.{AreMarks}
use Rattle.samza_model.specs.Meaning.{Meaning}
use Rattle.window_timer.specs.Times.{commit_made}
use Rattle.window_timer.specs.Intervals.{passed_since}
use Rattle.window_timer.specs.declared.times.Times.{Times}
use Rattle.core_steps.specs.Cores.{CoreValue, IsCore, Outside, given, next_at, Stands as CoreStands}
use Rattle.core_steps.specs.Times.{is_due}
use Rattle.unit_logs.specs.Standing.{IsSetUp}
use Rattle.unit_steps.specs.Units.{UnitValue, Marks, SameGiven}
use Rattle.run_loop.specs.Measures.{acts_left, turns_left}
use Rattle.run_loop.specs.Runs.{IsGoing, IsMarked, IsStanding}
use Rattle.run_loop.specs.Stops.{IsSettled, WhyStopped}
use Rattle.run_loop.specs.declared.stops.Stop.{Stop}
use Rattle.run_loop.specs.declared.stops.Stop.TheVariants.{Ended, Asked, Failed as Stop_Failed, Device, Limit, NoMemory}
use Rattle.run_loop.proofs.Running.{nobody}

-- one input
pub one_input : (u : CoreValue) → IsCore u → IsSetUp u.setup → 0 < length u.starts
one_input u core set_up = omega (arith, core.inputs, set_up.one_input)

module _ (o : Outside) (u v : CoreValue) (same : given o v ≡ given o u) where
  setup_is : v.setup ≡ u.setup
  setup_is = ap (λ (k : Given). k.setup) same

  pub ends_are : get_or v.ends 0 0 ≡ get_or u.ends 0 0
  ends_are = ap (λ (k : Given). get_or k.ends 0 0) same

  starts_are : get_or v.starts 0 0 ≡ get_or u.starts 0 0
  starts_are = ap (λ (k : Given). get_or k.starts 0 0) same

  inputs_are : length v.starts ≡ length u.starts
  inputs_are = ap (λ (k : Given). length k.starts) same

  -- the offset behind all that were delivered, by how many more there were
  pub next_more : (h g : List Event) (a b n : ℕ) → 0 < length u.starts → CoreStands o u h a → CoreStands o v g b → deliveries_of 0 g ≡ deliveries_of 0 h + n → next_at v 0 ≡ next_at u 0 + n
  next_more h g a b n one old new more =
      let before = (old.lanes 0 one).next in
      let after = (new.lanes 0 (omega (arith, one, inputs_are))).next in
      omega (arith, before, after, starts_are, more)

  -- the callbacks in flight, by the events
  pub flies_as : (h g : List Event) (a b : ℕ) → CoreStands o u h a → CoreStands o v g b → v.callbacks.flights ≡ flights u.setup g
  flies_as h g a b old new = new.flies ∙ ap (λ (s : Setup). flights s g) setup_is

-- no commit is due behind one that was made now
rested : (s : Option ℕ) (t : Times) → t.commit.interval ≡ s → (s ≡ Some 0 → ⊥) → is_due [] (commit_made t) ≡ false
rested s t is some = ap (λ (i : Option ℕ). passed_since i t.moment t.moment) is ∙ never s some
  where
    never : (i : Option ℕ) → (i ≡ Some 0 → ⊥) → passed_since i t.moment t.moment ≡ false
    never None nay = refl
    never (Some zero) nay = absurd (nay refl)
    never (Some (suc every)) nay = lt-leb (suc every) (t.moment - t.moment) (omega arith)

-- a unit has the opening's mark
some_mark : (k : Given) (parts : List (List Event)) (marks : List KeptMark) → AreMarks k parts marks → 0 < length marks
some_mark k [] [] are = absurd are
some_mark k (p ∷ ps) [] are = absurd are
some_mark k [] (m ∷ ms) are = omega arith
some_mark k (p ∷ ps) (m ∷ ms) are = omega arith

module _ {P D S : Type 0} (meaning : P → Meaning) (tells : Type 0) (reads : D → Image) (number : D → ℕ) (images : D → Image → Type 0) (since : D → ℕ → Image → Type 0) (old new : UnitValue P D S)
    (st : IsStanding meaning tells reads number images since old) where
  -- what a mark leaves as it was
  pub marked : (made : Checkpoint) → IsGoing old → Marks meaning tells reads number images since old new made → IsMarked old new
  marked made going m =
      let o = st.outside in
      let t = st.history in
      let before = st.stands.core in
      let after = (m.history o t st.stands).core in
      let same = m.same.core o in
      record {
        going = record {
          sound = after.failed ∙ sym before.failed ∙ going.sound;
          unbroken = m.sound.1;
          closed = m.window ∙ going.closed;
        };
        since = m.journal;
        more = omega (arith, ap length m.marks, some_mark (given o old.core) t.parts old.marks st.stands.marks);
        due = ap (λ (l : List Event). is_due l new.core.times) m.journal ∙ ap (λ (x : Times). is_due [] x) m.times ∙ rested old.core.setup.commit_ms old.core.times st.core.timed.commit st.core.runnable.commits;
        flies = flies_as o old.core new.core same (whole t) (whole t) _ _ before after ∙ sym before.flies;
        next =
            let more = next_more o old.core new.core same (whole t) (whole t) _ _ 0 (one_input old.core st.core st.set_up) before after (omega arith) in
            omega (arith, more);
        asked = after.asked ∙ sym before.asked;
      }

-- the end of the input is as it was
pub same_end : {P D S : Type 0} (old new : UnitValue P D S) → SameGiven old new → get_or new.core.ends 0 0 ≡ get_or old.core.ends 0 0
same_end old new same = ends_are nobody old.core new.core (same.core nobody)

-- a mark takes no turn
pub left_marked : {P D S : Type 0} (old new : UnitValue P D S) → SameGiven old new → IsMarked old new → turns_left new.core ≡ turns_left old.core
left_marked old new same m =
    let end = same_end old new same in
    omega (arith, ap (λ (x : ℕ). 1025 * (x - next_at new.core 0)) end, ap (λ (x : ℕ). 1025 * (get_or old.core.ends 0 0 - x)) m.next, ap acts_left m.flies)

none_asked : {A : Type 0} (o : Option A) → is_some o ≡ false → o ≡ None
none_asked None is = refl
none_asked (Some x) is = absurd (true≢false is)

-- behind the last commit, where nobody asked
pub ended : {P D S : Type 0} (old new : UnitValue P D S) → SameGiven old new → IsMarked old new → old.core.callbacks.flights ≡ [] → is_some old.core.asked ≡ false → next_at old.core 0 ≡ get_or old.core.ends 0 0
    → IsSettled new × (next_at new.core 0 ≡ get_or new.core.ends 0 0) × (new.core.asked ≡ None)
ended old new same m idle nobody_asked at_end =
    (record { going = m.going; idle = m.flies ∙ idle; marked = m.since; committed = m.more }, m.next ∙ at_end ∙ sym (same_end old new same), m.asked ∙ none_asked old.core.asked nobody_asked)

-- why a run ended that began behind another
pub why_from : {P D S : Type 0} (tells : Type 0) (reads : D → Image) (faults : D → ℕ) (old mid new : UnitValue P D S) → faults old.disk ≤ faults mid.disk
    → (s : Stop) → WhyStopped tells reads faults mid new s → WhyStopped tells reads faults old new s
why_from tells reads faults old mid new later Ended why = why
why_from tells reads faults old mid new later Asked why = why
why_from tells reads faults old mid new later (Stop_Failed unit) why = why
why_from tells reads faults old mid new later Device why = record { rose = omega (arith, later, why.rose); begun = why.begun; sound = why.sound }
why_from tells reads faults old mid new later Limit why = why
why_from tells reads faults old mid new later NoMemory why = why

-- no callback is in flight
pub nothing : (fs : List Flight) → length fs ≤ 0 → fs ≡ []
nothing [] none = refl
nothing (f ∷ fs) none = absurd (omega (arith, none))
