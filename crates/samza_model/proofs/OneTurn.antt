-- A job's turn, by how it goes on at its next act.
use Rattle.std.proofs.Common.{ℕ, zero, suc, ◌≡◌, ◌≢◌, ◌-◌, List, [], ◌∷◌, ◌++◌, Option, Some, None, unwrap_or, sym, ◌∙◌, ap, refl, arith}
use Rattle.samza_model.specs.declared.messages.Envelope.{Envelope}
use Rattle.samza_model.specs.declared.acts.Act.{Act}
use Rattle.samza_model.specs.declared.acts.Answer.{Answer}
use Rattle.samza_model.specs.declared.turns.Why.TheVariants.{TooMany}
use Rattle.samza_model.specs.declared.setups.Setup.{Setup}
use Rattle.samza_model.specs.Content.{State, changed, answer_of}
use Rattle.samza_model.specs.Runs.{End, Run, end_at, run_on}
use Rattle.samza_model.specs.Meaning.{Meaning}

module _ (job : Meaning) (s : Setup) (e : Envelope) (state : State) (answers : List Answer) where
  -- what is left behind an act, by how the turn ends there
  behind : ℕ → Act → Option End → Run
  behind left act None = run_on job s e left (changed state act) (answers ++ answer_of state act ∷ [])
  behind left act (Some end) = record { state = state; end = end }

  by_end : (left : ℕ) (x : Option End)
      → elim x [ None ↦ run_on job s e left (changed state (job.act e answers)) (answers ++ answer_of state (job.act e answers) ∷ []) | Some end ↦ record { state = state; end = end } ] ≡ behind left (job.act e answers) x
  unfolding behind
  by_end left None = refl
  by_end left (Some end) = refl

  one_act : (left : ℕ) → run_on job s e (suc left) state answers ≡ behind left (job.act e answers) (end_at s (job.act e answers))
  unfolding run_on
  one_act left = by_end left (end_at s (job.act e answers))

  at_act : (left : ℕ) (act : Act) (x : Option End) → act ≡ job.act e answers → end_at s act ≡ x → run_on job s e (suc left) state answers ≡ behind left act x
  at_act left act x is at =
      one_act left ∙ ap (λ (a : Act). behind left a (end_at s a)) (sym is) ∙ ap (λ (y : Option End). behind left act y) at

  last_act : (act : Act) (x : Option End) → act ≡ job.act e answers → end_at s act ≡ x
      → run_on job s e 0 state answers ≡ record { state = state; end = unwrap_or x (Some TooMany) }
  unfolding run_on
  last_act act x is at =
      ap (λ (a : Act). record { state = state; end = unwrap_or (end_at s a) (Some TooMany) }) (sym is) ∙ ap (λ (y : Option End). record { state = state; end = unwrap_or y (Some TooMany) }) at

  pub turn_ends : (left : ℕ) (act : Act) (end : End) → act ≡ job.act e answers → end_at s act ≡ Some end → run_on job s e left state answers ≡ record { state = state; end = end }
  unfolding behind
  turn_ends zero act end is at = last_act act (Some end) is at
  turn_ends (suc left) act end is at = at_act left act (Some end) is at

  pub turn_is_over : (left : ℕ) (act : Act) → act ≡ job.act e answers → end_at s act ≡ None → left ≡ 0 → run_on job s e left state answers ≡ record { state = state; end = Some TooMany }
  turn_is_over left act is at none = ap (λ (n : ℕ). run_on job s e n state answers) none ∙ last_act act None is at

  pub turn_goes_on : (left : ℕ) (act : Act) → act ≡ job.act e answers → end_at s act ≡ None → left ≢ 0
      → run_on job s e left state answers ≡ run_on job s e (left - 1) (changed state act) (answers ++ answer_of state act ∷ [])
  unfolding behind
  turn_goes_on left act is at some =
      let again : left ≡ suc (left - 1) = omega arith in
      ap (λ (n : ℕ). run_on job s e n state answers) again ∙ at_act (left - 1) act None is at
