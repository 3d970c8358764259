use Rattle.std.proofs.Common.{length, ◌∙◌, None, sym, ap, subst, arith}
use Rattle.std.specs.Option.{option_map}
use Rattle.std.proofs.lemmas.List.{get_or_read}
use Rattle.samza_model.specs.Events.{flight_of, without}
use Rattle.slab.specs.Slab.{get, Updates}
use Rattle.callback_manager.specs.declared.callbacks.Ticket.{Ticket}
use Rattle.callback_manager.specs.Callbacks.{CallbacksValue, entry_of}
use Rattle.callback_manager.specs.Tickets.{place_in, flights_in, AreRising, IsKept}
use Rattle.callback_manager.proofs.Kept.{no_ticket, is_place, entry_is, none_flies, removed, without_none}
use Rattle.callback_manager.proofs.Rising.{rising_removed, removed_few}
use Rattle.callback_manager.proofs.callbacks.Callbacks.end.Goals as goal

pub remove-ticket-requires : goal.remove-ticket-requires
remove-ticket-requires c =
    let p = ap (place_in c.args.number) (sym c.as_slice.ensures.value) ∙ sym c.find.ensures ∙ c.in-Some.is in
    omega (arith, (is_place c.self.inside.entries c.args.number c.self.inside.tickets.items c.in-Some.place c.self.invariant.kept p).within, c.as_slice.ensures.len, ap length c.as_slice.ensures.value)

pub invariant_of-self : goal.invariant_of-self
invariant_of-self c =
    let u = c.self.inside in
    let p = ap (place_in c.args.number) (sym c.as_slice.ensures.value) ∙ sym c.find.ensures ∙ c.in-Some.is in
    let at = is_place u.entries c.args.number u.tickets.items c.in-Some.place c.self.invariant.kept p in
    let ticket = get_or_read u.tickets.items c.in-Some.place c.remove-ticket.result at.within c.remove-ticket.ensures.value no_ticket in
    let updates = subst (λ (t : Ticket). Updates u.entries c.try_remove.new.self t.key None) ticket c.try_remove.ensures.updates in
    record {
      kept = subst (IsKept c.try_remove.new.self) (sym c.remove-ticket.ensures.items) (removed u.entries c.try_remove.new.self c.args.number u.tickets.items c.in-Some.place c.self.invariant.kept p updates).kept;
      rising = subst (AreRising 0 u.next) (sym c.remove-ticket.ensures.items) (rising_removed 0 u.next u.tickets.items c.in-Some.place c.self.invariant.rising);
      few = omega (arith, c.self.invariant.few, ap length c.remove-ticket.ensures.items, removed_few u.tickets.items c.in-Some.place);
      fits = c.self.invariant.fits;
    }

pub returns-in-Some-clause-entry : goal.returns-in-Some-clause-entry
returns-in-Some-clause-entry c =
    let p = ap (place_in c.args.number) (sym c.as_slice.ensures.value) ∙ sym c.find.ensures ∙ c.in-Some.is in
    let at = is_place c.self.inside.entries c.args.number c.self.inside.tickets.items c.in-Some.place c.self.invariant.kept p in
    let ticket = get_or_read c.self.inside.tickets.items c.in-Some.place c.remove-ticket.result at.within c.remove-ticket.ensures.value no_ticket in
    c.try_remove.ensures.value ∙ ap (λ (t : Ticket). get c.self.inside.entries t.key) ticket
    ∙ entry_is c.self.inside.entries c.args.number c.self.inside.tickets.items c.in-Some.place c.self.invariant.kept p
    ∙ ap (λ (v : CallbacksValue). option_map entry_of (flight_of c.args.number v.flights)) c.self.view_is

pub returns-in-Some-clause-new : goal.returns-in-Some-clause-new
returns-in-Some-clause-new c =
    let u = c.self.inside in
    let p = ap (place_in c.args.number) (sym c.as_slice.ensures.value) ∙ sym c.find.ensures ∙ c.in-Some.is in
    let at = is_place u.entries c.args.number u.tickets.items c.in-Some.place c.self.invariant.kept p in
    let ticket = get_or_read u.tickets.items c.in-Some.place c.remove-ticket.result at.within c.remove-ticket.ensures.value no_ticket in
    let updates = subst (λ (t : Ticket). Updates u.entries c.try_remove.new.self t.key None) ticket c.try_remove.ensures.updates in
    let fs = ap (flights_in c.try_remove.new.self) c.remove-ticket.ensures.items ∙ (removed u.entries c.try_remove.new.self c.args.number u.tickets.items c.in-Some.place c.self.invariant.kept p updates).flights in
    (λ i. record { flights = fs i; next = u.next; limit = u.limit })
    ∙ ap (λ (v : CallbacksValue). record { flights = without c.args.number v.flights; next = v.next; limit = v.limit }) c.self.view_is

pub returns-in-None-clause-entry : goal.returns-in-None-clause-entry
returns-in-None-clause-entry c =
    let p = ap (place_in c.args.number) (sym c.as_slice.ensures.value) ∙ sym c.find.ensures ∙ c.in-None.is in
    ap (option_map entry_of) (sym (none_flies c.self.inside.entries c.args.number c.self.inside.tickets.items p))
    ∙ ap (λ (v : CallbacksValue). option_map entry_of (flight_of c.args.number v.flights)) c.self.view_is

pub returns-in-None-clause-new : goal.returns-in-None-clause-new
returns-in-None-clause-new c =
    let p = ap (place_in c.args.number) (sym c.as_slice.ensures.value) ∙ sym c.find.ensures ∙ c.in-None.is in
    let none = ap (λ (v : CallbacksValue). flight_of c.args.number v.flights) (sym c.self.view_is) ∙ none_flies c.self.inside.entries c.args.number c.self.inside.tickets.items p in
    λ i. record { flights = without_none c.args.number c.args.self.now.flights none i; next = c.args.self.now.next; limit = c.args.self.now.limit }
