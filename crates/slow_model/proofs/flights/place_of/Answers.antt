use Rattle.std.proofs.Common.{sym, ◌∙◌, ap, arith}
use Rattle.std.proofs.lemmas.List.{get_or_read}
use Rattle.samza_model.specs.declared.flights.Flight.{Flight}
use Rattle.slow_model.proofs.Flown.{no_flight, place_at, place_none}
use Rattle.slow_model.proofs.flights.place_of.Goals as goal

pub returns-then-flights-i : goal.returns-then-flights-i
returns-then-flights-i c =
    let read = get_or_read c.args.flights.now c.loop-i.i c.index-flights-i.result c.loop-i-test.true c.index-flights-i.is no_flight in
    sym (place_at c.args.number c.args.flights.now c.loop-i.i c.loop-i-test.true c.loop-i.invariant (ap (λ (f : Flight). f.number) (sym read ∙ c.index-flights-i.is) ∙ c.if-flights-i.true))

pub returns : goal.returns
returns c = sym (place_none c.args.number c.args.flights.now (λ k lt. c.loop-i.invariant k (omega (arith, lt))))
