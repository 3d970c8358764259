use Rattle.std.proofs.Common.{Some, List, sym, ◌∙◌, ap, arith}
use Rattle.std.proofs.lemmas.List.{get_or_read}
use Rattle.samza_model.specs.declared.flights.Flight.{Flight}
use Rattle.samza_model.specs.Events.{flight_of, is_at}
use Rattle.slow_model.specs.Steps.{place_in}
use Rattle.slow_model.proofs.Flown.{no_flight, is_place, is_no_place}
use Rattle.slow_model.proofs.lows.is_at.Goals as goal

pub returns-in-None : goal.returns-in-None
returns-in-None c =
    let p = ap (place_in c.args.number) (sym c.as_slice.ensures.value) ∙ sym c.place_of.ensures ∙ c.in-None.is in
    let at = is_no_place c.args.number c.in_ok-flights.flights.items p in
    sym (ap (is_at c.args.input c.args.offset) at.none) ∙ ap (λ (fs : List Flight). is_at c.args.input c.args.offset (flight_of c.args.number fs)) c.in_ok-flights.ensures

pub index-requires : goal.index-requires
index-requires c =
    let p = ap (place_in c.args.number) (sym c.as_slice.ensures.value) ∙ sym c.place_of.ensures ∙ c.in-Some.is in
    let at = is_place c.args.number c.in_ok-flights.flights.items c.in-Some.place p in
    omega (arith, at.within)

pub returns : goal.returns
returns c =
    let p = ap (place_in c.args.number) (sym c.as_slice.ensures.value) ∙ sym c.place_of.ensures ∙ c.in-Some.is in
    let at = is_place c.args.number c.in_ok-flights.flights.items c.in-Some.place p in
    let read = get_or_read c.in_ok-flights.flights.items c.in-Some.place c.index.result.now at.within c.index.ensures no_flight in
    c.stands_at.ensures ∙ ap (λ (f : Flight). is_at c.args.input c.args.offset (Some f)) read ∙ sym (ap (is_at c.args.input c.args.offset) at.flies)
    ∙ ap (λ (fs : List Flight). is_at c.args.input c.args.offset (flight_of c.args.number fs)) c.in_ok-flights.ensures
