-- Messages in order, by how the first one ends.
use Rattle.std.proofs.Common.{◌≡◌, List, [], ◌∷◌, ◌++◌, Option, Some, None, ◌∙◌, ap, refl, sym}
use Rattle.samza_model.specs.declared.messages.Envelope.{Envelope}
use Rattle.samza_model.specs.declared.setups.Setup.{Setup}
use Rattle.samza_model.specs.declared.turns.Why.{Why}
use Rattle.samza_model.specs.Content.{State}
use Rattle.samza_model.specs.Runs.{End, Run, runs, folds}
use Rattle.samza_model.specs.Meaning.{Meaning}

module _ (job : Meaning) (s : Setup) (es : List Envelope) where
  -- what is left behind a message that ended so
  behind : State → End → Option State
  behind state None = folds job s es state
  behind state (Some why) = None

  by_end : (state : State) (x : End) → elim x [ None ↦ folds job s es state | Some why ↦ None ] ≡ behind state x
  unfolding behind
  by_end state None = refl
  by_end state (Some why) = refl

  one_message : (e : Envelope) (state : State) → folds job s (e ∷ es) state ≡ behind (runs job s e state).state (runs job s e state).end
  unfolding folds
  one_message e state = by_end (runs job s e state).state (runs job s e state).end

  pub fold_goes_on : (e : Envelope) (state left : State) → runs job s e state ≡ record { state = left; end = None } → folds job s (e ∷ es) state ≡ folds job s es left
  unfolding behind
  fold_goes_on e state left is = one_message e state ∙ ap (λ (r : Run). behind r.state r.end) is

  pub fold_stops : (e : Envelope) (state left : State) (why : Why) → runs job s e state ≡ record { state = left; end = Some why } → folds job s (e ∷ es) state ≡ None
  unfolding behind
  fold_stops e state left why is = one_message e state ∙ ap (λ (r : Run). behind r.state r.end) is

pub fold_of_none : (job : Meaning) (s : Setup) (state : State) → folds job s [] state ≡ Some state
unfolding folds
fold_of_none job s state = refl

-- one message more, at the end
pub fold_more : (job : Meaning) (s : Setup) (es : List Envelope) (e : Envelope) (state between left : State) → folds job s es state ≡ Some between → runs job s e between ≡ record { state = left; end = None }
    → folds job s (es ++ e ∷ []) state ≡ Some left
unfolding folds
fold_more job s [] e state between left before ran =
    fold_goes_on job s [] e state left (ap (λ (c : State). runs job s e c) (some_is before) ∙ ran) ∙ fold_of_none job s left
  where
    some_is : {c d : State} → Some c ≡ Some d → c ≡ d
    some_is is = cc
fold_more job s (x ∷ es) e state between left before ran = by_end (λ first. fold_more job s es e (runs job s x state).state between left first ran) (runs job s x state).end refl
  where
    then : State
    then = (runs job s x state).state

    with_end : End → Run
    with_end y = record { state = then; end = y }

    not_none : {A : Type 0} → None ≡ Some between → A
    not_none is = absurd cc

    by_end : (folds job s es then ≡ Some between → folds job s (es ++ e ∷ []) then ≡ Some left) → (y : End) → (runs job s x state).end ≡ y → folds job s (x ∷ (es ++ e ∷ [])) state ≡ Some left
    by_end more None is =
        fold_goes_on job s (es ++ e ∷ []) x state then (ap with_end is)
        ∙ more (sym (fold_goes_on job s es x state then (ap with_end is)) ∙ before)
    by_end more (Some why) is = not_none (sym (fold_stops job s es x state then why (ap with_end is)) ∙ before)
