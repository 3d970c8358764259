use Rattle.std.proofs.Common.{sym, ◌∙◌, ap, arith}
use Rattle.slow_model.specs.Steps.{place_in}
use Rattle.slow_model.proofs.Flown.{is_place, is_no_place}
use Rattle.slow_model.proofs.flights.end.Goals as goal

pub remove-requires : goal.remove-requires
remove-requires c =
    let p = ap (place_in c.args.number) (sym c.as_slice.ensures.value) ∙ sym c.place_of.ensures ∙ c.in-Some.is in
    let at = is_place c.args.number c.args.flights.now.items c.in-Some.place p in
    omega (arith, at.within)

pub returns-in-Some : goal.returns-in-Some
returns-in-Some c =
    let p = ap (place_in c.args.number) (sym c.as_slice.ensures.value) ∙ sym c.place_of.ensures ∙ c.in-Some.is in
    let at = is_place c.args.number c.args.flights.now.items c.in-Some.place p in
    c.remove.ensures.items ∙ sym at.without

pub returns-in_default : goal.returns-in_default
returns-in_default c =
    let p = ap (place_in c.args.number) (sym c.as_slice.ensures.value) ∙ sym c.place_of.ensures ∙ c.in_default.is in
    let at = is_no_place c.args.number c.args.flights.now.items p in
    sym at.without
