use Rattle.std.proofs.Common.{length, ◌∙◌, sym, ap, refl, arith}
use Rattle.std.proofs.lemmas.List.{get_or_read}
use Rattle.samza_model.specs.Events.{flight_of}
use Rattle.callback_manager.specs.declared.callbacks.Ticket.{Ticket}
use Rattle.callback_manager.specs.Callbacks.{CallbacksValue, unanswered, with_less_answers}
use Rattle.callback_manager.specs.Tickets.{place_in, flights_in, less}
use Rattle.callback_manager.proofs.Kept.{no_ticket, is_place, none_flies, changed_kept, changed_flights, unanswered_is, unanswered_none}
use Rattle.callback_manager.proofs.callbacks.Callbacks.take_answer_back.Goals as goal

pub index-requires : goal.index-requires
index-requires c =
    let p = ap (place_in c.args.number) (sym c.as_slice.ensures.value) ∙ sym c.find.ensures ∙ c.in-Some.is in
    omega (arith, (is_place c.self.inside.entries c.args.number c.self.inside.tickets.items c.in-Some.place c.self.invariant.kept p).within, c.as_slice.ensures.len, ap length c.as_slice.ensures.value)

pub invariant_of-self : goal.invariant_of-self
invariant_of-self c =
    let u = c.self.inside in
    let p = ap (place_in c.args.number) (sym c.as_slice.ensures.value) ∙ sym c.find.ensures ∙ c.in-Some.is in
    let at = is_place u.entries c.args.number u.tickets.items c.in-Some.place c.self.invariant.kept p in
    let key = ap (λ (t : Ticket). t.key) (get_or_read u.tickets.items c.in-Some.place c.index.result.now at.within c.index.ensures no_ticket) in
    let kept = changed_kept u.entries c.drop_answer.new.entries c.args.number u.tickets.items c.in-Some.place c.index.result.now.key less c.self.invariant.kept p key c.drop_answer.ensures in
    record { kept = kept; rising = c.self.invariant.rising; few = c.self.invariant.few; fits = c.self.invariant.fits }

pub returns-in-Some : goal.returns-in-Some
returns-in-Some c =
    let u = c.self.inside in
    let p = ap (place_in c.args.number) (sym c.as_slice.ensures.value) ∙ sym c.find.ensures ∙ c.in-Some.is in
    let at = is_place u.entries c.args.number u.tickets.items c.in-Some.place c.self.invariant.kept p in
    let key = ap (λ (t : Ticket). t.key) (get_or_read u.tickets.items c.in-Some.place c.index.result.now at.within c.index.ensures no_ticket) in
    let fs = changed_flights u.entries c.drop_answer.new.entries c.args.number u.tickets.items c.in-Some.place c.index.result.now.key less c.self.invariant.kept p key c.drop_answer.ensures with_less_answers (λ x. refl) in
    let gs = fs ∙ unanswered_is c.args.number (flights_in u.entries u.tickets.items) in
    (λ i. record { flights = gs i; next = u.next; limit = u.limit })
    ∙ ap (λ (v : CallbacksValue). record { flights = unanswered c.args.number v.flights; next = v.next; limit = v.limit }) c.self.view_is

pub returns-in-None : goal.returns-in-None
returns-in-None c =
    let p = ap (place_in c.args.number) (sym c.as_slice.ensures.value) ∙ sym c.find.ensures ∙ c.in-None.is in
    let none = ap (λ (v : CallbacksValue). flight_of c.args.number v.flights) (sym c.self.view_is) ∙ none_flies c.self.inside.entries c.args.number c.self.inside.tickets.items p in
    λ i. record { flights = unanswered_none c.args.number c.args.self.now.flights none i; next = c.args.self.now.next; limit = c.args.self.now.limit }
