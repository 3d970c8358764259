use Rattle.std.proofs.Common.{◌∙◌, ◌<◌, length, Some, sym, ap, slice_get, arith}
use Rattle.std.proofs.lemmas.List.{get_or_read}
use Rattle.callback_manager.specs.declared.callbacks.Ticket.{Ticket}
use Rattle.callback_manager.specs.Callbacks.{CallbacksValue, numbers}
use Rattle.callback_manager.proofs.Kept.{no_ticket}
use Rattle.callback_manager.proofs.Rising.{number_at, no_number_at, rise}
use Rattle.callback_manager.proofs.callbacks.Callbacks.nth.Goals as goal

pub returns-then-place-len-clause-number : goal.returns-then-place-len-clause-number
returns-then-place-len-clause-number c =
    let u = c.self.inside in
    let within : c.args.place < length u.tickets.items = omega (arith, c.if-place-len.true, c.len.ensures) in
    ap (λ (t : Ticket). Some t.number) (get_or_read u.tickets.items c.args.place c.index.result.now within c.index.ensures no_ticket)
    ∙ sym (number_at u.entries u.tickets.items c.args.place within)
    ∙ ap (λ (v : CallbacksValue). slice_get (numbers v.flights) c.args.place) c.self.view_is

pub returns-then-place-len-clause-rising : goal.returns-then-place-len-clause-rising
returns-then-place-len-clause-rising c =
    let u = c.self.inside in
    let within : c.args.place < length u.tickets.items = omega (arith, c.if-place-len.true, c.len.ensures) in
    let here = number_at u.entries u.tickets.items c.args.place within ∙ ap (λ (t : Ticket). Some t.number) (sym (get_or_read u.tickets.items c.args.place c.index.result.now within c.index.ensures no_ticket)) in
    λ i m lt at. rise u.entries 0 u.next u.tickets.items i c.args.place m c.index.result.now.number c.self.invariant.rising lt
    (ap (λ (v : CallbacksValue). slice_get (numbers v.flights) i) c.self.view_is ∙ at) here

pub returns-else-place-len-clause-number : goal.returns-else-place-len-clause-number
returns-else-place-len-clause-number c =
    let u = c.self.inside in
    no_number_at u.entries u.tickets.items c.args.place (omega (arith, c.if-place-len.false, c.len.ensures))
    ∙ ap (λ (v : CallbacksValue). slice_get (numbers v.flights) c.args.place) c.self.view_is
