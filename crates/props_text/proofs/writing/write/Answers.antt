use Rattle.std.proofs.Common.{arith, ap, ◌∙◌}
use Rattle.std.specs.FinMap.{entries, len-entries}
use Rattle.props_text.specs.Pairs.{props_of}
use Rattle.props_text.specs.Written.{written_pair, AreUnits}
use Rattle.props_text.proofs.Trip.{comes_back}
use Rattle.props_text.proofs.Writes.{none_within, flat_map_more, flat_map_end, all_more, all_end}
use Rattle.props_text.proofs.writing.write.Goals as goal

pub unreachable-requires : goal.unreachable-requires
unreachable-requires c = none_within (entries c.args.pairs.now) c.loop-place.place (omega (arith, len-entries c.args.pairs.now)) c.in-None.ensures

pub loop-place-preserved : goal.loop-place-preserved
loop-place-preserved c = record {
  out = flat_map_more written_pair (entries c.args.pairs.now) c.loop-place.place _ c.loop-place.out.items _ c.in-Some.ensures c.loop-place.invariant.out c.in_ok-put_pair-in-Some.ensures.written;
  units = all_more (λ p. AreUnits p.0 × AreUnits p.1) (entries c.args.pairs.now) c.loop-place.place _ c.in-Some.ensures c.loop-place.invariant.units c.in_ok-put_pair-in-Some.ensures.units;
}

pub returns : goal.returns
returns c =
    let whole = flat_map_end written_pair (entries c.args.pairs.now) c.loop-place.place _ (omega (arith, len-entries c.args.pairs.now)) c.loop-place.invariant.out in
    record {
      written = whole;
      comes_back = ap props_of whole ∙ comes_back c.args.pairs.now (all_end (λ p. AreUnits p.0 × AreUnits p.1) (entries c.args.pairs.now) c.loop-place.place (omega (arith, len-entries c.args.pairs.now)) c.loop-place.invariant.units);
    }
