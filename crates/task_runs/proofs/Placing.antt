-- Where a run's message failed, and why: on every outside.
use Rattle.std.proofs.Common.{ℕ, ◌≡◌, List, [], ◌∷◌, length, Option, Some, None, false, inl, inr, sym, ◌∙◌, ap, subst}
use Rattle.std.specs.List.{AllByRecursion}
use Rattle.std.proofs.lemmas.Option.{none-some, same_Some}
use Rattle.samza_model.specs.declared.turns.Failure.{Failure}
use Rattle.samza_model.specs.declared.events.Event.{Event}
use Rattle.samza_model.specs.declared.events.Event.TheVariants.{Deliver, Did, Complete, Failed, WindowDid, WindowEnded}
use Rattle.samza_model.specs.Events.{earlier, first_failure}
use Rattle.samza_model.specs.Files.{Image}
use Rattle.samza_model.specs.Histories.{History, whole}
use Rattle.samza_model.specs.Lawful.{Given}
use Rattle.samza_model.specs.Meaning.{Meaning}
use Rattle.samza_model.specs.Ran.{HasNoWindows, is_window}
use Rattle.disk_model.specs.declared.names.DiskName.{DiskName}
use Rattle.history_laws.specs.Fails.{IsNotExpired}
use Rattle.history_laws.proofs.Shared.{failure_placed}
use Rattle.core_steps.specs.Cores.{Outside, given}
use Rattle.unit_steps.specs.Units.{UnitValue, Stands}
use Rattle.run_loop.specs.Messages.{IsOfMessage, IsOfMessages}
use Rattle.run_loop.specs.Runs.{Runs}
use Rattle.run_loop.proofs.Laws.{of_message_of_none}

-- events of messages alone are none of a window's
pub windowless_all : (window : Option ℕ) (h : List Event) → AllByRecursion IsOfMessage h → HasNoWindows window h
windowless_all None [] of = tt
windowless_all None (e ∷ h) of = (of_message_of_none e of.0, windowless_all None h of.1)
windowless_all (Some every) h of = tt

abbrev IsOfCall : Failure → Type 0
IsOfCall f = (is_window f.turn ≡ false) × IsNotExpired f.why

-- the first failure among events of messages is a callback's, of which no time ran out
failure_in : (h : List Event) (f : Failure) → AllByRecursion IsOfMessage h → first_failure h ≡ Some f → IsOfCall f
unfolding first_failure
failure_in [] f of is = absurd (none-some f is)
failure_in (Deliver n p o m t ∷ h) f of is = failure_in h f of.1 is
failure_in (Did n i act answer ∷ h) f of is = failure_in h f of.1 is
failure_in (Complete n ∷ h) f of is = failure_in h f of.1 is
failure_in (Failed g ∷ h) f of is = by (first_failure h) (λ e. failure_in h f of.1 e) is
  where
    by : (x : Option Failure) → (x ≡ Some f → IsOfCall f) → earlier x g ≡ Some f → IsOfCall f
    by None before e = subst IsOfCall (same_Some g f e) of.0
    by (Some x) before e = before e
failure_in (WindowDid i act answer ∷ h) f of is = absurd of.0
failure_in (WindowEnded ∷ h) f of is = absurd of.0

-- the failure of a unit that ran on messages, behind events of messages alone
pub failure_tells : {P D S : Type 0} (meaning : P → Meaning) (tells : Type 0) (reads : D → Image) (number : D → ℕ) (images : D → Image → Type 0) (since : D → ℕ → Image → Type 0) (name : D → DiskName) (faults : D → ℕ)
    (old new : UnitValue P D S) (o : Outside) (t : History) → Stands meaning tells reads number images since o old t → IsOfMessages t
    → Runs meaning tells reads number images since name faults old new → length new.core.starts ≡ 1 → (f : Failure) → new.core.failed ≡ Some f
    → ((offset : ℕ) × (f.place ≡ Some (0, offset))) × IsNotExpired f.why
failure_tells meaning tells reads number images since name faults old new o t stands of r one f failed =
    let h = r.history o t stands in
    let is : first_failure (whole h.0) ≡ Some f = sym h.2.core.failed ∙ failed in
    let call = failure_in (whole h.0) f (h.1.of_messages of) is in
    (failure_placed (given o new.core) one (whole h.0) f h.2.core.lawful is call.0, call.1)
