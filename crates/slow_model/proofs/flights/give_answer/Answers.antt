use Rattle.std.proofs.Common.{List, set, sym, ◌∙◌, ap, arith}
use Rattle.std.proofs.lemmas.List.{get_or_read}
use Rattle.samza_model.specs.declared.acts.Answer.{Answer}
use Rattle.samza_model.specs.declared.flights.Flight.{Flight}
use Rattle.samza_model.specs.Events.{with_answer}
use Rattle.slow_model.specs.Steps.{place_in}
use Rattle.slow_model.proofs.Flown.{no_flight, is_place, is_no_place, on_ok}
use Rattle.slow_model.proofs.flights.give_answer.Goals as goal

pub index_mut-requires : goal.index_mut-requires
index_mut-requires c =
    let p = ap (place_in c.args.number) (sym c.as_slice.ensures.value) ∙ sym c.place_of.ensures ∙ c.in-Some.is in
    let at = is_place c.args.number c.args.flights.now.items c.in-Some.place p in
    omega (arith, at.within)

pub returns-in-Some : goal.returns-in-Some
returns-in-Some c =
    let p = ap (place_in c.args.number) (sym c.as_slice.ensures.value) ∙ sym c.place_of.ensures ∙ c.in-Some.is in
    let at = is_place c.args.number c.args.flights.now.items c.in-Some.place p in
    let fs = c.args.flights.now.items in
    let i = c.in-Some.place in
    let f = c.index_mut.result.now in
    let read = get_or_read fs i f at.within c.index_mut.ensures.value no_flight in
    on_ok c.push.result (λ pushed.
    ap (λ (l : List Answer). set fs i (record { number = f.number; input = f.input; envelope = f.envelope; delivered = f.delivered; answers = l })) pushed
    ∙ ap (λ (x : Flight). set fs i (with_answer c.args.answer x)) read ∙ sym (at.answered c.args.answer))
    c.push.ensures.ok

pub returns-in-None : goal.returns-in-None
returns-in-None c =
    let p = ap (place_in c.args.number) (sym c.as_slice.ensures.value) ∙ sym c.place_of.ensures ∙ c.in-None.is in
    let at = is_no_place c.args.number c.args.flights.now.items p in
    sym (at.answered c.args.answer)
