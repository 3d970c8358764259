-- An act that fails its turn.
use Rattle.std.proofs.Common.{ℕ, ◌≡◌, ◌∙◌, List, length, Option, Some, ap, sym, subst}
use Rattle.samza_model.specs.declared.acts.Act.{Act}
use Rattle.samza_model.specs.declared.acts.Answer.{Answer}
use Rattle.samza_model.specs.declared.events.Event.TheVariants.{Failed}
use Rattle.samza_model.specs.declared.flights.Flight.{Flight}
use Rattle.samza_model.specs.declared.turns.Why.{Why}
use Rattle.samza_model.specs.Lawful.{call_event, window_event, course, failure_of, window_failure}
use Rattle.samza_model.specs.Runs.{End}
use Rattle.core_steps.specs.Cores.{CoreValue, Adds, IsCallAct, IsWinAct}
use Rattle.core_steps.specs.Held.{state_of}
use Rattle.task_core.specs.Acting.{ActsOn, ActsInWindow}

pub failed_acts : (u v : CoreValue) (made : ℕ) (f : Flight) (act : Act) (why : Why) → made ≡ length f.answers → Some (Some why) ≡ course u.setup made act
    → (course u.setup (length f.answers) act ≡ Some (Some why) → Adds (IsCallAct f act) u v (Failed (failure_of f why))) → ActsOn u v f act
failed_acts u v made f act why made_is ends adds =
    let is : course u.setup (length f.answers) act ≡ Some (Some why) = ap (λ k. course u.setup k act) (sym made_is) ∙ sym ends in
    subst (λ (end : Option End). Adds (IsCallAct f act) u v (call_event f (state_of u.held) act end)) (sym is) (adds is)

pub window_fails : (u v : CoreValue) (made : ℕ) (answers : List Answer) (act : Act) (why : Why) → made ≡ length answers → Some (Some why) ≡ course u.setup made act
    → (course u.setup (length answers) act ≡ Some (Some why) → Adds (IsWinAct answers act) u v (Failed (window_failure why))) → ActsInWindow u v answers act
window_fails u v made answers act why made_is ends adds =
    let is : course u.setup (length answers) act ≡ Some (Some why) = ap (λ k. course u.setup k act) (sym made_is) ∙ sym ends in
    subst (λ (end : Option End). Adds (IsWinAct answers act) u v (window_event answers (state_of u.held) act end)) (sym is) (adds is)
