-- From what the parts of a core are after a window's call to what the core is.
use Rattle.std.proofs.Common.{true≢false, ◌≡◌, ◌∷◌, ◌++◌, [], List, length, Option, Some, None, refl, sym, ◌∙◌, subst, is_some, true, false, rules}
use Rattle.samza_model.specs.declared.acts.Act.{Act}
use Rattle.samza_model.specs.declared.acts.Act.TheVariants.{Done}
use Rattle.samza_model.specs.declared.acts.Answer.{Answer}
use Rattle.samza_model.specs.declared.acts.Scope.{Scope}
use Rattle.samza_model.specs.declared.events.Event.TheVariants.{WindowDid, WindowEnded, Failed}
use Rattle.samza_model.specs.declared.turns.Failure.{Failure}
use Rattle.samza_model.specs.declared.turns.Why.{Why}
use Rattle.samza_model.specs.Content.{answer_of}
use Rattle.samza_model.specs.Journals.{Trimmed}
use Rattle.samza_model.specs.Lawful.{course, window_failure}
use Rattle.core_steps.specs.Held.{Held, state_of, held_after}
use Rattle.core_steps.specs.Cores.{CoreValue, asked_behind, IsCore, Adds, Keeps, IsWinAct, window_act_event, after_window_act, after_window_end, after_window_failure, after_open_window}
use Rattle.core_steps.proofs.Steps.{window_act_stands, window_end_stands, window_failure_stands, open_window_stands}
use Rattle.core_steps.proofs.CoreKept.{window_act_core, window_end_core, window_failure_core, open_window_core}

pub answers_of : (o : Option (List Answer)) → is_some o ≡ true → (answers : List Answer) × (o ≡ Some answers)
answers_of None e = absurd (clash e)
  where
    clash : false ≡ true → ⊥
    clash q = search rules
answers_of (Some answers) e = (answers, refl)

-- the core with these parts
abbrev pub with_window : CoreValue → Option (List Answer) → Held → Trimmed → Option Scope → Option Failure → CoreValue
with_window u window held journal asked failed =
    record {
      setup = u.setup;
      starts = u.starts;
      ends = u.ends;
      lanes = u.lanes;
      callbacks = u.callbacks;
      held = held;
      failed = failed;
      window = window;
      since = journal.since;
      kept = journal.kept;
      times = u.times;
      asked = asked;
      last = u.last;
    }

pub window_act_is : (u : CoreValue) (answers : List Answer) (a : Answer) (act : Act) (window : Option (List Answer)) (held : Held) (journal : Trimmed) (asked : Option Scope)
    → a ≡ answer_of (state_of u.held) act → window ≡ Some (answers ++ a ∷ []) → held ≡ held_after u.held act
    → journal ≡ record { since = WindowDid (length answers) act a ∷ u.since; kept = u.kept } → asked ≡ asked_behind u act
    → with_window u window held journal asked u.failed ≡ after_window_act u answers act
window_act_is u answers a act window held journal asked answer answered made noted asked_is =
    (λ i. with_window u (answered i) (made i) (noted i) (asked_is i) u.failed)
    ∙ (λ i. with_window u (Some (answers ++ answer i ∷ [])) (held_after u.held act) (record { since = WindowDid (length answers) act (answer i) ∷ u.since; kept = u.kept }) (asked_behind u act) u.failed)

pub window_acted_core : (u v : CoreValue) (answers : List Answer) (act : Act) → IsCore u → u.window ≡ Some answers → v ≡ after_window_act u answers act → IsCore v
window_acted_core u v answers act core at is = subst IsCore (sym is) (window_act_core u answers act core at)

pub window_act_adds : (u v : CoreValue) (answers : List Answer) (act : Act) → IsCore u → u.window ≡ Some answers → course u.setup (length answers) act ≡ None → v ≡ after_window_act u answers act
    → Adds (IsWinAct answers act) u v (window_act_event u answers act)
window_act_adds u v answers act core at goes is = subst (λ w. Adds (IsWinAct answers act) u w (window_act_event u answers act)) (sym is) (record {
  same = λ o. refl;
  times = refl;
  last = refl;
  journal = refl;
  window = λ e. absurd (true≢false e);
  history = λ o h a of_job s. window_act_stands u answers act core at goes o h a of_job s;
})

-- a window ends

pub window_end_is : (u : CoreValue) (journal : Trimmed) → journal ≡ record { since = WindowEnded ∷ u.since; kept = u.kept }
    → with_window u None u.held journal u.asked u.failed ≡ after_window_end u
window_end_is u journal noted = λ i. with_window u None u.held (noted i) u.asked u.failed

pub window_ended_core : (u v : CoreValue) → IsCore u → v ≡ after_window_end u → IsCore v
window_ended_core u v core is = subst IsCore (sym is) (window_end_core u core)

pub window_end_adds : (u v : CoreValue) (answers : List Answer) → IsCore u → u.window ≡ Some answers → v ≡ after_window_end u → Adds (IsWinAct answers Done) u v WindowEnded
window_end_adds u v answers core at is = subst (λ w. Adds (IsWinAct answers Done) u w WindowEnded) (sym is) (record {
  same = λ o. refl;
  times = refl;
  last = refl;
  journal = refl;
  window = λ e. absurd (true≢false e);
  history = λ o h a of_job s. window_end_stands u answers Done core at refl o h a of_job s;
})

-- a window fails

pub window_failure_is : (u : CoreValue) (why : Why) (journal : Trimmed) → journal ≡ record { since = Failed (window_failure why) ∷ u.since; kept = u.kept }
    → with_window u None u.held journal u.asked (Some (window_failure why)) ≡ after_window_failure u why
window_failure_is u why journal noted = λ i. with_window u None u.held (noted i) u.asked (Some (window_failure why))

pub window_failed_core : (u v : CoreValue) (why : Why) → IsCore u → v ≡ after_window_failure u why → IsCore v
window_failed_core u v why core is = subst IsCore (sym is) (window_failure_core u why core)

pub window_failure_adds : (u v : CoreValue) (answers : List Answer) (act : Act) (why : Why) → IsCore u → u.window ≡ Some answers → course u.setup (length answers) act ≡ Some (Some why) → v ≡ after_window_failure u why
    → Adds (IsWinAct answers act) u v (Failed (window_failure why))
window_failure_adds u v answers act why core at ends is = subst (λ w. Adds (IsWinAct answers act) u w (Failed (window_failure why))) (sym is) (record {
  same = λ o. refl;
  times = refl;
  last = refl;
  journal = refl;
  window = λ e. absurd (true≢false e);
  history = λ o h a of_job s. window_failure_stands u answers act why core at ends o h a of_job s;
})

-- a window is opened

pub opened_core : (u v : CoreValue) → IsCore u → u.callbacks.flights ≡ [] → u.failed ≡ None → v ≡ after_open_window u → IsCore v
opened_core u v core none sound is = subst IsCore (sym is) (open_window_core u core none sound)

pub opened_keeps : (u v : CoreValue) → u.window ≡ None → u.failed ≡ None → v ≡ after_open_window u → Keeps u v
opened_keeps u v closed sound is = subst (Keeps u) (sym is) (record {
  same = λ o. refl;
  last = refl;
  journal = refl;
  history = λ o h a s. open_window_stands u closed sound o h a s;
})
