-- What takes an answer back.
use Rattle.std.proofs.Common.{ℕ, ◌-◌, ◌≡◌, List, [], ◌∷◌, ◌++◌, length, take, refl, ◌∙◌, ap, arith, length-append, inl, inr, eq-eqb}
use Rattle.std.proofs.lemmas.Bool.{cases_eq, ne_eqb}
use Rattle.samza_model.specs.declared.acts.Answer.{Answer}
use Rattle.samza_model.specs.declared.flights.Flight.{Flight}
use Rattle.samza_model.specs.Events.{answered, with_answer}
use Rattle.callback_manager.specs.Callbacks.{unanswered, with_less_answers}

pub without_last : {X : Type 0} (xs : List X) (x : X) → take (length (xs ++ x ∷ []) - 1) (xs ++ x ∷ []) ≡ xs
without_last xs x = ap (λ n. take n (xs ++ x ∷ [])) (shorter xs x) ∙ front xs x
  where
    shorter : {X : Type 0} (ys : List X) (y : X) → length (ys ++ y ∷ []) - 1 ≡ length ys
    shorter ys y = omega (arith, length-append ys (y ∷ []))

    front : {X : Type 0} (ys : List X) (y : X) → take (length ys) (ys ++ y ∷ []) ≡ ys
    front [] y = refl
    front (z ∷ ys) y = ap (λ l. z ∷ l) (front ys y)

same_flight : (a : Answer) (f : Flight) → with_less_answers (with_answer a f) ≡ f
same_flight a f = λ i. record { number = f.number; input = f.input; envelope = f.envelope; delivered = f.delivered; answers = without_last f.answers a i }

pub unanswered_answered : (n : ℕ) (a : Answer) (fs : List Flight) → unanswered n (answered n a fs) ≡ fs
unanswered_answered n a [] = refl
unanswered_answered n a (f ∷ fs) =
    elim (cases_eq f.number n) [
      | inl q ↦ rw (eq-eqb f.number n q, eq-eqb f.number n q) (λ i. same_flight a f i ∷ fs)
      | inr ne ↦ rw (ne_eqb f.number n ne, ne_eqb f.number n ne) (λ i. f ∷ unanswered_answered n a fs i)
    ]
