use Rattle.std.proofs.Common.{◌≡◌, length, arith, ◌∙◌, ◌+◌, ◌++◌, ◌∷◌, [], sym, ap, subst, List}
use Rattle.samza_model.specs.declared.acts.Answer.{Answer}
use Rattle.callback_manager.specs.Callbacks.{CallbacksValue, flight}
use Rattle.std.proofs.lemmas.List.{length-append}
use Rattle.callback_manager.specs.declared.callbacks.Ticket.{Ticket}
use Rattle.callback_manager.specs.Tickets.{flights_in, AreRising}
use Rattle.callback_manager.proofs.Kept.{begun_kept, begun_flights}
use Rattle.callback_manager.proofs.Rising.{rising_more}
use Rattle.callback_manager.proofs.callbacks.Callbacks.begin.Goals as goal

pub invariant_of-self-2 : goal.invariant_of-self-2
invariant_of-self-2 c =
    let u = c.self.inside in
    let ticket : Ticket = record { number = u.next; key = c.in_ok-key.key } in
    let items : c.push_reserved.new.self.items ≡ u.tickets.items ++ ticket ∷ [] = c.push_reserved.ensures.items ∙ ap (λ (l : List Ticket). l ++ ticket ∷ []) c.in_ok-reserve.ensures.items in
    record {
      kept = begun_kept _ _ ticket _ u.tickets.items _ _ c.in_ok-key.ensures.was_vacant c.in_ok-key.ensures.updates c.self.invariant.kept c.in_ok-reserve.ensures.items c.push_reserved.ensures.items;
      rising = subst (AreRising 0 (u.next + 1)) (sym items) (rising_more 0 u.next c.in_ok-key.key u.tickets.items c.self.invariant.rising);
      few = omega (arith, ap length items, length-append u.tickets.items (ticket ∷ []), c.if-self-len.false, c.len.ensures);
      fits = c.self.invariant.fits;
    }

pub returns-clause-ok : goal.returns-clause-ok
returns-clause-ok c =
    let u = c.self.inside in
    let a = c.args in
    let fs = begun_flights _ _ (record { number = c.self.inside.next; key = c.in_ok-key.key }) _ c.self.inside.tickets.items _ _ c.in_ok-key.ensures.was_vacant c.in_ok-key.ensures.updates c.self.invariant.kept c.in_ok-reserve.ensures.items c.push_reserved.ensures.items in
    let gs = fs ∙ ap (λ (as_ : List Answer). flights_in u.entries u.tickets.items ++ record { number = u.next; input = a.input; envelope = a.envelope; delivered = a.now; answers = as_ } ∷ []) c.taken.ensures in
    (λ i. record { flights = gs i; next = u.next + 1; limit = u.limit })
    ∙ ap (λ (v : CallbacksValue). record { flights = v.flights ++ flight v.next a.input a.envelope a.now ∷ []; next = v.next + 1; limit = v.limit }) c.self.view_is
