-- While a window is open, nothing failed and nothing is in flight.
use Rattle.std.proofs.Common.{◌≡◌, ◌∙◌, List, [], length, Option, Some, None, IfSome, is_some, true, false, ap, sym, refl, rules}
use Rattle.samza_model.specs.declared.acts.Answer.{Answer}
use Rattle.core_steps.specs.Cores.{CoreValue, IsCore, IsIdle}

clash : false ≡ true → ⊥
clash q = search rules

idle_of : (u : CoreValue) (window : Option (List Answer)) → IfSome window (IsIdle u) → is_some window ≡ true → (u.callbacks.flights ≡ []) × (u.failed ≡ None)
idle_of u None idle opened = absurd (clash opened)
idle_of u (Some answers) idle opened = idle

pub closed_of : (u : CoreValue) → IsCore u → is_some u.failed ≡ true → is_some u.window ≡ false
closed_of u core failed = by_window u.window refl
  where
    by_window : (window : Option (List Answer)) → window ≡ u.window → is_some window ≡ false
    by_window None is = refl
    by_window (Some answers) is = absurd (clash (ap is_some (sym (idle_of u u.window core.idle (sym (ap is_some is))).1) ∙ failed))

pub none_in_flight : (u : CoreValue) → IsCore u → is_some u.window ≡ true → length u.callbacks.flights ≡ 0
none_in_flight u core opened = ap length (idle_of u u.window core.idle opened).0
