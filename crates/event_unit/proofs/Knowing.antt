-- The turn of a question that isn't unknown.
use Rattle.std.proofs.Common.{ℕ, ◌≡◌, ◌⊎◌, inl, inr, List, Option, Some, None, Result, Ok, Err, refl}
use Rattle.std.specs.Option.{option_map}
use Rattle.samza_model.specs.declared.acts.Answer.{Answer}
use Rattle.samza_model.specs.declared.flights.Flight.{Flight}
use Rattle.samza_model.specs.declared.turns.Turn.{Turn}
use Rattle.samza_model.specs.declared.turns.Turn.TheVariants.{Call, Window}
use Rattle.samza_model.specs.Events.{flight_of}
use Rattle.core_steps.specs.Cores.{CoreValue}
use Rattle.task_core.specs.declared.questions.Question.{Question}
use Rattle.task_core.specs.Questions.{call_question, window_question, question_of}

-- a callback that isn't unknown is in flight
pub known : (o : Option Flight) → (o ≡ None → ⊥) → (f : Flight) × (o ≡ Some f)
known None never = absurd (never refl)
known (Some f) never = (f, refl)

pub ok_alone : {T E : Type 0} (x : T) (e : E) → Ok x ≡ Err e → ⊥
ok_alone x e is = cc

none_is_some : {X : Type 0} (x : X) → None ≡ Some x → ⊥
none_is_some x is = cc

asked_of : {X : Type 0} (make : X → Question) (o : Option X) (q : Question) → option_map make o ≡ Some q → (x : X) × (o ≡ Some x)
asked_of make None q is = absurd (none_is_some q is)
asked_of make (Some x) q is = (x, refl)

-- a turn that has a question is a callback in flight, or a window that is open
pub turn_of : (u : CoreValue) (t : Turn) (q : Question) → question_of u t ≡ Some q
    → ((n : ℕ) × (f : Flight) × (t ≡ Call n) × (flight_of n u.callbacks.flights ≡ Some f)) ⊎ ((answers : List Answer) × (t ≡ Window) × (u.window ≡ Some answers))
turn_of u (Call n) q is = let a = asked_of (call_question n) (flight_of n u.callbacks.flights) q is in inl (n, a.0, refl, a.1)
turn_of u Window q is = let a = asked_of window_question u.window q is in inr (a.0, refl, a.1)
