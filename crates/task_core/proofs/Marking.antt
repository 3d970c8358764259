-- The checkpoint of a plan is a mark of the events by which the core stands.
use Rattle.std.proofs.Common.{ℕ, ◌≡◌, ◌∙◌, ◌+◌, ◌<◌, ◌&&◌, List, [], ◌∷◌, length, Option, Some, None, Bool, true, false, not, is_some, if◌then◌else◌, map, refl, sym, ap, subst, arith, rules, true≢false}
use Rattle.std.proofs.lemmas.List.{get_or-map, length-map}
use Rattle.std.proofs.lemmas.Option.{none-some}
use Rattle.std.specs.Prelude.{nat_lt}
use Rattle.samza_model.specs.declared.acts.Answer.{Answer}
use Rattle.samza_model.specs.declared.checkpoints.Checkpoint.{Checkpoint}
use Rattle.samza_model.specs.declared.flights.Flight.{Flight}
use Rattle.samza_model.specs.declared.setups.Setup.{Setup}
use Rattle.samza_model.specs.declared.turns.Failure.{Failure}
use Rattle.samza_model.specs.Events.{deliveries_of, is_covered}
use Rattle.samza_model.specs.Lawful.{start_at}
use Rattle.samza_model.specs.Restored.{next_at}
use Rattle.log_frame.specs.Frame.{FrameView}
use Rattle.offset_window.specs.Windows.{Window}
use Rattle.core_plans.specs.Plans.{PlansMark}
use Rattle.core_steps.specs.Cores.{CoreValue, IsWindow, given}
use Rattle.core_steps.specs.Lanes.{lane_at}
use Rattle.core_steps.proofs.Laws.{low_is}
use Rattle.task_core.specs.declared.faults.PlanFault.{PlanFault}
use Rattle.task_core.specs.declared.faults.PlanFault.TheVariants.{Failed, Windowing, Busy}
use Rattle.task_core.specs.declared.plans.Plan.{Plan}
use Rattle.task_core.specs.Plans.{IsPlan, MarksNow, commit_refusal, is_busy}

-- a mark made of the windows' lows has them as its next offsets
pub next_is_low : (s : Setup) (lanes : List Window) (id : ℕ) (frame : FrameView) (mark : Checkpoint) → PlansMark s (map (λ w. w.low) lanes) id frame mark
    → (p : ℕ) → p < length lanes → next_at (Some mark) p ≡ Some (lane_at lanes p).low
next_is_low s lanes id frame mark plans p lt =
    let low : Window → ℕ = λ w. w.low in
    plans.next_is p (subst (λ n. p < n) (sym (length-map lanes low)) lt)
    ∙ ap Some (get_or-map low lanes p (record { low = 0; done = []; span = 0 }) 0 lt)

-- a core that may commit
record MayCommit (u : CoreValue) : Type 0 where
  sound : u.failed ≡ None
  closed : u.window ≡ None
  idle : u.setup.async_commit ≡ false → u.callbacks.flights ≡ []

above_none : (n : ℕ) → nat_lt 0 n ≡ false → n ≡ 0
above_none n is = search (arith, rules)

none_flies : (allowed : Bool) (fs : List Flight) → not allowed && nat_lt 0 (length fs) ≡ false → allowed ≡ false → fs ≡ []
none_flies allowed [] free is = refl
none_flies true (f ∷ fs) free is = absurd (true≢false is)
none_flies false (f ∷ fs) free is = absurd (omega (arith, above_none (length (f ∷ fs)) free))

-- nothing is refused where none of the three is
free : (f : Option Failure) (w : Option (List Answer)) (busy : Bool) (e : PlanFault)
    → (if is_some f then Some Failed else if is_some w then Some Windowing else if busy then Some e else None) ≡ None → (f ≡ None) × (w ≡ None) × (busy ≡ false)
free None None false e is = (refl, refl, refl)
free None None true e is = absurd (none-some e (sym is))
free None (Some answers) busy e is = absurd (none-some Windowing (sym is))
free (Some failure) w busy e is = absurd (none-some Failed (sym is))

may_commit : (u : CoreValue) → commit_refusal u ≡ None → MayCommit u
may_commit u none =
    let parts = free u.failed u.window (is_busy u) (Busy (length u.callbacks.flights)) none in
    record { sound = parts.0; closed = parts.1; idle = none_flies u.setup.async_commit u.callbacks.flights parts.2 }

pub marks_now : (u : CoreValue) (lens : List ℕ) (plan : Plan) → IsPlan u lens plan → commit_refusal u ≡ None → MarksNow u plan.mark
marks_now u lens plan is none o h a before s last =
    let may = may_commit u none in
    record {
      checkpoint = plan.mark;
      is = refl;
      named = is.named;
      id = is.id ∙ ap (λ n. n + 1) (sym last);
      next = λ p lt. is.next p lt ∙ ap Some (sym (low_is (λ x. is_covered u.setup p x h) (start_at (given o u) p) (deliveries_of p h) (lane_at u.lanes p) (s.lanes p lt)));
      sound = sym s.failed ∙ may.sound;
      closed = (subst (IsWindow h) may.closed s.window).0;
      idle = λ sync. sym s.flies ∙ may.idle sync;
    }
