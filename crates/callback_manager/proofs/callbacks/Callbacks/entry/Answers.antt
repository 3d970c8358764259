use Rattle.std.proofs.Common.{length, ◌∙◌, sym, ap, arith}
use Rattle.std.specs.Option.{option_map}
use Rattle.std.proofs.lemmas.List.{get_or_read}
use Rattle.samza_model.specs.Events.{flight_of}
use Rattle.slab.specs.Slab.{get}
use Rattle.callback_manager.specs.declared.callbacks.Ticket.{Ticket}
use Rattle.callback_manager.specs.Callbacks.{CallbacksValue, entry_of}
use Rattle.callback_manager.specs.Tickets.{place_in}
use Rattle.callback_manager.proofs.Kept.{no_ticket, is_place, entry_is, none_flies}
use Rattle.callback_manager.proofs.callbacks.Callbacks.entry.Goals as goal

pub index-requires : goal.index-requires
index-requires c =
    let p = ap (place_in c.args.number) (sym c.as_slice.ensures.value) ∙ sym c.find.ensures ∙ c.in-Some.is in
    omega (arith, (is_place c.self.inside.entries c.args.number c.self.inside.tickets.items c.in-Some.place c.self.invariant.kept p).within, c.as_slice.ensures.len, ap length c.as_slice.ensures.value)

pub returns-in-Some : goal.returns-in-Some
returns-in-Some c =
    let p = ap (place_in c.args.number) (sym c.as_slice.ensures.value) ∙ sym c.find.ensures ∙ c.in-Some.is in
    let at = is_place c.self.inside.entries c.args.number c.self.inside.tickets.items c.in-Some.place c.self.invariant.kept p in
    let ticket = get_or_read c.self.inside.tickets.items c.in-Some.place c.index.result.now at.within c.index.ensures no_ticket in
    c.get.ensures ∙ ap (λ (t : Ticket). get c.self.inside.entries t.key) ticket
    ∙ entry_is c.self.inside.entries c.args.number c.self.inside.tickets.items c.in-Some.place c.self.invariant.kept p
    ∙ ap (λ (v : CallbacksValue). option_map entry_of (flight_of c.args.number v.flights)) c.self.view_is

pub returns-in-None : goal.returns-in-None
returns-in-None c =
    let p = ap (place_in c.args.number) (sym c.as_slice.ensures.value) ∙ sym c.find.ensures ∙ c.in-None.is in
    ap (option_map entry_of) (sym (none_flies c.self.inside.entries c.args.number c.self.inside.tickets.items p))
    ∙ ap (λ (v : CallbacksValue). option_map entry_of (flight_of c.args.number v.flights)) c.self.view_is
