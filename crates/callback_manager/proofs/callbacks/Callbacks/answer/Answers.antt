use Rattle.std.proofs.Common.{length, ◌∙◌, sym, ap, subst, refl, arith}
use Rattle.std.proofs.lemmas.List.{get_or_read}
use Rattle.samza_model.specs.Events.{flight_of, with_answer, answered}
use Rattle.callback_manager.specs.declared.callbacks.Ticket.{Ticket}
use Rattle.callback_manager.specs.Callbacks.{CallbacksValue}
use Rattle.callback_manager.specs.Tickets.{place_in, flights_in, more, IsKept}
use Rattle.callback_manager.proofs.Kept.{no_ticket, is_place, none_flies, changed_kept, changed_flights, answered_is, answered_none, on_ok, either}
use Rattle.callback_manager.proofs.callbacks.Callbacks.answer.Goals as goal

pub index-requires : goal.index-requires
index-requires c =
    let p = ap (place_in c.args.number) (sym c.as_slice.ensures.value) ∙ sym c.find.ensures ∙ c.in-Some.is in
    omega (arith, (is_place c.self.inside.entries c.args.number c.self.inside.tickets.items c.in-Some.place c.self.invariant.kept p).within, c.as_slice.ensures.len, ap length c.as_slice.ensures.value)

pub invariant_of-self : goal.invariant_of-self
invariant_of-self c =
    let u = c.self.inside in
    let p = ap (place_in c.args.number) (sym c.as_slice.ensures.value) ∙ sym c.find.ensures ∙ c.in-Some.is in
    let at = is_place u.entries c.args.number u.tickets.items c.in-Some.place c.self.invariant.kept p in
    let key = ap (λ (t : Ticket). t.key) (get_or_read u.tickets.items c.in-Some.place c.index.result.now at.within c.index.ensures no_ticket) in
    let kept = either c.push_answer.result _ _ (IsKept c.push_answer.new.entries u.tickets.items)
    (λ e. changed_kept u.entries c.push_answer.new.entries c.args.number u.tickets.items c.in-Some.place c.index.result.now.key (more c.args.answer) c.self.invariant.kept p key e)
    (λ e. subst (λ x. IsKept x u.tickets.items) (sym e) c.self.invariant.kept) c.push_answer.ensures.ok c.push_answer.ensures.err in
    record { kept = kept; rising = c.self.invariant.rising; few = c.self.invariant.few; fits = c.self.invariant.fits }

pub returns-in-Some-clause-ok : goal.returns-in-Some-clause-ok
returns-in-Some-clause-ok c =
    let u = c.self.inside in
    let p = ap (place_in c.args.number) (sym c.as_slice.ensures.value) ∙ sym c.find.ensures ∙ c.in-Some.is in
    let at = is_place u.entries c.args.number u.tickets.items c.in-Some.place c.self.invariant.kept p in
    let key = ap (λ (t : Ticket). t.key) (get_or_read u.tickets.items c.in-Some.place c.index.result.now at.within c.index.ensures no_ticket) in
    on_ok c.push_answer.result (λ e.
    let fs = changed_flights u.entries c.push_answer.new.entries c.args.number u.tickets.items c.in-Some.place c.index.result.now.key (more c.args.answer) c.self.invariant.kept p key e (with_answer c.args.answer) (λ x. refl) in
    let gs = fs ∙ answered_is c.args.number c.args.answer (flights_in u.entries u.tickets.items) in
    (λ i. record { flights = gs i; next = u.next; limit = u.limit })
    ∙ ap (λ (v : CallbacksValue). record { flights = answered c.args.number c.args.answer v.flights; next = v.next; limit = v.limit }) c.self.view_is)
    c.push_answer.ensures.ok

pub returns-in-None-clause-ok : goal.returns-in-None-clause-ok
returns-in-None-clause-ok c =
    let p = ap (place_in c.args.number) (sym c.as_slice.ensures.value) ∙ sym c.find.ensures ∙ c.in-None.is in
    let none = ap (λ (v : CallbacksValue). flight_of c.args.number v.flights) (sym c.self.view_is) ∙ none_flies c.self.inside.entries c.args.number c.self.inside.tickets.items p in
    λ i. record { flights = answered_none c.args.number c.args.answer c.args.self.now.flights none i; next = c.args.self.now.next; limit = c.args.self.now.limit }
