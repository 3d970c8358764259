-- A job on one message alone, and on messages in order.
use Rattle.std.specs.Prelude.{ℕ, zero, suc, List, [], ◌∷◌, ◌++◌, Option, Some, None, unwrap_or, if◌then◌else◌}
use Rattle.samza_model.specs.declared.messages.Envelope.{Envelope}
use Rattle.samza_model.specs.declared.acts.Act.{Act}
use Rattle.samza_model.specs.declared.acts.Act.TheVariants.{Done, Fail}
use Rattle.samza_model.specs.declared.acts.Answer.{Answer}
use Rattle.samza_model.specs.declared.turns.Why.{Why}
use Rattle.samza_model.specs.declared.turns.Why.TheVariants.{Code, TooMany, Limits}
use Rattle.samza_model.specs.declared.setups.Setup.{Setup}
use Rattle.samza_model.specs.Content.{State, changed, answer_of}
use Rattle.samza_model.specs.Limits.{act_fits}
use Rattle.samza_model.specs.Meaning.{Meaning}

-- how a turn ends: done (None), or failed
abbrev pub End : Type 0
End = Option Why

-- how the turn ends at this act; None where it goes on
abbrev pub end_at : Setup → Act → Option End
end_at s Done = Some None
end_at s (Fail code) = Some (Some (Code code))
end_at s act = if act_fits s act then None else Some (Some Limits)

-- what a turn leaves, and how it ended
pub record Run : Type 0 where
  pub state : State
  pub end : End

-- the job from here on, where so many more acts may be answered
unfoldable pub run_on : Meaning → Setup → Envelope → ℕ → State → List Answer → Run
run_on job s e zero state answers = record { state = state; end = unwrap_or (end_at s (job.act e answers)) (Some TooMany) }
run_on job s e (suc left) state answers =
    elim (end_at s (job.act e answers)) [
      | None ↦ run_on job s e left (changed state (job.act e answers)) (answers ++ answer_of state (job.act e answers) ∷ [])
      | Some end ↦ record { state = state; end = end }
    ]

-- the job on one message: each act is answered from the state that the earlier ones left, at most 1,023 of them
abbrev pub runs : Meaning → Setup → Envelope → State → Run
runs job s e state = run_on job s e 1023 state []

-- the job on messages in order, each from the state that the one before left; None where one of them isn't done
unfoldable pub folds : Meaning → Setup → List Envelope → State → Option State
folds job s [] state = Some state
folds job s (e ∷ es) state =
    elim (runs job s e state).end [
      | None ↦ folds job s es (runs job s e state).state
      | Some why ↦ None
    ]
