-- A unit that goes on with nothing in flight, to which nothing may be delivered, is at its input's end.
use Rattle.std.proofs.Common.{ℕ, ◌≡◌, ◌<◌, ◌==◌, ◌&&◌, Bool, true, false, not, is_some, nat_le, if◌then◌else◌, [], length, get_or, Option, Some, None, refl, sym, ◌∙◌, ap, subst, arith}
use Rattle.std.proofs.lemmas.Bool.{leb-false, leb-true, lt-leb, ne_eqb}
use Rattle.std.proofs.lemmas.Option.{none-some}
use Rattle.samza_model.specs.Events.{deliveries_of, is_covered}
use Rattle.samza_model.specs.Files.{Image}
use Rattle.samza_model.specs.Histories.{whole}
use Rattle.samza_model.specs.Lawful.{start_at}
use Rattle.samza_model.specs.Meaning.{Meaning}
use Rattle.history_laws.proofs.Shared.{low_idle}
use Rattle.core_steps.specs.Cores.{CoreValue, IsCore, given, next_at}
use Rattle.core_steps.specs.Lanes.{lane_at}
use Rattle.core_steps.specs.Times.{is_due}
use Rattle.core_steps.proofs.Laws.{low_is}
use Rattle.task_core.specs.declared.faults.DeliverFault.{DeliverFault}
use Rattle.task_core.specs.declared.faults.DeliverFault.TheVariants.{Failed, Broken, Windowing, Ended}
use Rattle.event_unit.specs.Delivering.{unit_refusal}
use Rattle.unit_steps.specs.Units.{UnitValue}
use Rattle.run_loop.specs.Runs.{IsGoing, IsStanding}
use Rattle.run_loop.proofs.Standing.{one_input}

-- what is accepted is no end's
not_ended : (failed broken window ended : Bool) (rest : Option DeliverFault)
    → (if failed then Some Failed else if broken then Some Broken else if failed then Some Failed else if window then Some Windowing else if ended then Some Ended else rest) ≡ None → ended ≡ false
not_ended true broken window ended rest is = absurd (none-some Failed (sym is))
not_ended false true window ended rest is = absurd (none-some Broken (sym is))
not_ended false false true ended rest is = absurd (none-some Windowing (sym is))
not_ended false false false true rest is = absurd (none-some Ended (sym is))
not_ended false false false false rest is = refl

-- where a message may be delivered, there is one
pub more_to_deliver : (broken : Bool) (u : CoreValue) → unit_refusal broken u 0 ≡ None → next_at u 0 < get_or u.ends 0 0
more_to_deliver broken u is =
    leb-false (get_or u.ends 0 0) (next_at u 0) (not_ended (is_some u.failed) broken (is_some u.window) (nat_le (get_or u.ends 0 0) (next_at u 0)) _ is)

-- nothing but the end refuses a message
only_end : (u : CoreValue) → IsCore u → 0 < length u.starts → u.failed ≡ None → u.window ≡ None → u.callbacks.flights ≡ [] → length (lane_at u.lanes 0).done ≡ 0 → is_due u.since u.times ≡ false
    → (unit_refusal false u 0 ≡ None → ⊥) → next_at u 0 ≡ get_or u.ends 0 0
only_end u core one sound closed idle low due refused =
    (elim (nat_le (get_or u.ends 0 0) (next_at u 0)) as (λ b. nat_le (get_or u.ends 0 0) (next_at u 0) ≡ b → next_at u 0 ≡ get_or u.ends 0 0) [
      | true ↦ λ at_end. omega (arith, leb-true (get_or u.ends 0 0) (next_at u 0) at_end, core.within 0 one)
      | false ↦ λ more. absurd (refused (accepted more))
    ]) refl
  where
    full : nat_le u.setup.concurrency (length u.callbacks.flights) ≡ false
    full = lt-leb u.setup.concurrency (length u.callbacks.flights) (omega (arith, core.runnable.concurrency, ap length idle))

    spanned : (length (lane_at u.lanes 0).done == (lane_at u.lanes 0).span) ≡ false
    spanned = ne_eqb (length (lane_at u.lanes 0).done) (lane_at u.lanes 0).span (λ e. absurd (omega (arith, low, e, core.spans 0 one, core.runnable.span)))

    and_false : (b c : Bool) → c ≡ false → (b && c) ≡ false
    and_false true c is = is
    and_false false c is = refl

    accepted : nat_le (get_or u.ends 0 0) (next_at u 0) ≡ false → unit_refusal false u 0 ≡ None
    accepted more =
        rw sound
        (rw closed
        (rw more
        (rw full
        (rw spanned
        (rw (and_false (not u.setup.async_commit) (is_due u.since u.times) due) refl)))))

module _ {P D S : Type 0} (meaning : P → Meaning) (tells : Type 0) (reads : D → Image) (number : D → ℕ) (images : D → Image → Type 0) (since : D → ℕ → Image → Type 0) (u : UnitValue P D S)
    (st : IsStanding meaning tells reads number images since u) (going : IsGoing u) (idle : u.core.callbacks.flights ≡ []) where
  -- all that was delivered is covered
  none_open : length (lane_at u.core.lanes 0).done ≡ 0
  none_open =
      let s = st.stands.core in
      let k = given st.outside u.core in
      let h = whole st.history in
      let lane = s.lanes 0 (one_input u.core st.core st.set_up) in
      let low = low_is (λ x. is_covered u.core.setup 0 x h) (start_at k 0) (deliveries_of 0 h) (lane_at u.core.lanes 0) lane in
      let all = low_idle k h 0 s.lawful (sym s.flies ∙ idle) (sym s.failed ∙ going.sound) in
      omega (arith, low, all, lane.next)

  pub at_end : is_due u.core.since u.core.times ≡ false → (unit_refusal u.broken u.core 0 ≡ None → ⊥) → next_at u.core 0 ≡ get_or u.core.ends 0 0
  at_end due refused =
      only_end u.core st.core (one_input u.core st.core st.set_up) going.sound going.closed idle none_open due
      (λ e. refused (subst (λ (b : Bool). unit_refusal b u.core 0 ≡ None) (sym going.unbroken) e))
