use Rattle.std.proofs.Common.{Some, sym, ◌∙◌, ap, arith}
use Rattle.std.proofs.lemmas.List.{get_or_read}
use Rattle.samza_model.specs.declared.flights.Flight.{Flight}
use Rattle.samza_model.specs.Events.{flight_of}
use Rattle.slow_model.specs.Steps.{place_in}
use Rattle.slow_model.proofs.Flown.{no_flight, is_place, is_no_place}
use Rattle.slow_model.proofs.flights.flight_at.Goals as goal

pub remove-requires : goal.remove-requires
remove-requires c =
    let p = ap (place_in c.args.number) (sym c.as_slice.ensures.value) ∙ sym c.place_of.ensures ∙ c.in-Some.is in
    let at = is_place c.args.number c.in_ok-flights.flights.items c.in-Some.place p in
    omega (arith, at.within)

pub returns-in-Some : goal.returns-in-Some
returns-in-Some c =
    let p = ap (place_in c.args.number) (sym c.as_slice.ensures.value) ∙ sym c.place_of.ensures ∙ c.in-Some.is in
    let at = is_place c.args.number c.in_ok-flights.flights.items c.in-Some.place p in
    let read = get_or_read c.in_ok-flights.flights.items c.in-Some.place c.remove.result at.within c.remove.ensures.value no_flight in
    ap (λ (f : Flight). Some f) read ∙ sym at.flies ∙ ap (flight_of c.args.number) c.in_ok-flights.ensures

pub returns : goal.returns
returns c =
    let p = ap (place_in c.args.number) (sym c.as_slice.ensures.value) ∙ sym c.place_of.ensures ∙ c.in-None.is in
    let at = is_no_place c.args.number c.in_ok-flights.flights.items p in
    sym at.none ∙ ap (flight_of c.args.number) c.in_ok-flights.ensures
