-- An act of a callback, as the unit's event.
use Rattle.std.proofs.Common.{ℕ, ◌≡◌, List, length, Option, Some, None, false, refl, sym, subst}
use Rattle.samza_model.specs.declared.acts.Act.{Act}
use Rattle.samza_model.specs.declared.events.Event.{Event}
use Rattle.samza_model.specs.declared.flights.Flight.{Flight}
use Rattle.samza_model.specs.Content.{State}
use Rattle.samza_model.specs.Files.{Image}
use Rattle.samza_model.specs.declared.acts.Answer.{Answer}
use Rattle.samza_model.specs.Lawful.{IsAct, IsWindowAct, call_event, course, window_event}
use Rattle.samza_model.specs.Meaning.{Meaning}
use Rattle.samza_model.specs.Runs.{End}
use Rattle.core_steps.specs.Held.{state_of}
use Rattle.core_steps.specs.Cores.{CoreValue, Adds as CoreAdds, IsCallAct, IsWinAct}
use Rattle.unit_steps.specs.Following.{MayFollow}
use Rattle.unit_steps.specs.Units.{UnitValue, Adds}
use Rattle.unit_steps.proofs.Adding.{adds, with_core}

-- no act delivers a message
acts_follow : (f : Flight) (state : State) (act : Act) (end : Option End) (h : List Event) → MayFollow (call_event f state act end) h
acts_follow f state act None h = tt
acts_follow f state act (Some None) h = tt
acts_follow f state act (Some (Some why)) h = tt

pub acted : {P D S : Type 0} (meaning : P → Meaning) (tells : Type 0) (reads : D → Image) (number : D → ℕ) (images : D → Image → Type 0) (since : D → ℕ → Image → Type 0)
    (old : UnitValue P D S) (core : CoreValue) (f : Flight) (act : Act) → act ≡ (meaning old.job).act f.envelope f.answers
    → CoreAdds (IsCallAct f act) old.core core (call_event f (state_of old.core.held) act (course old.core.setup (length f.answers) act))
    → Adds meaning tells reads number images since old (with_core old core) (call_event f (state_of old.core.held) act (course old.core.setup (length f.answers) act))
acted meaning tells reads number images since old core f act of_job a =
    adds meaning tells reads number images since old core _ (IsCallAct f act) a
    (λ o job parts. subst (λ (j : Option Meaning). IsAct j f.envelope f.answers act) (sym job) of_job)
    (λ _. acts_follow f (state_of old.core.held) act (course old.core.setup (length f.answers) act) old.core.since)

acts_in_window_follow : (answers : List Answer) (state : State) (act : Act) (end : Option End) (h : List Event) → MayFollow (window_event answers state act end) h
acts_in_window_follow answers state act None h = tt
acts_in_window_follow answers state act (Some None) h = tt
acts_in_window_follow answers state act (Some (Some why)) h = tt

pub acted_in_window : {P D S : Type 0} (meaning : P → Meaning) (tells : Type 0) (reads : D → Image) (number : D → ℕ) (images : D → Image → Type 0) (since : D → ℕ → Image → Type 0)
    (old : UnitValue P D S) (core : CoreValue) (answers : List Answer) (act : Act) → act ≡ (meaning old.job).window answers
    → CoreAdds (IsWinAct answers act) old.core core (window_event answers (state_of old.core.held) act (course old.core.setup (length answers) act))
    → Adds meaning tells reads number images since old (with_core old core) (window_event answers (state_of old.core.held) act (course old.core.setup (length answers) act))
acted_in_window meaning tells reads number images since old core answers act of_job a =
    adds meaning tells reads number images since old core _ (IsWinAct answers act) a
    (λ o job parts. subst (λ (j : Option Meaning). IsWindowAct j answers act) (sym job) of_job)
    (λ _. acts_in_window_follow answers (state_of old.core.held) act (course old.core.setup (length answers) act) old.core.since)
