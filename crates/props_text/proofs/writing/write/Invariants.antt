use Rattle.std.proofs.Common.{◌≡◌, take}
use Rattle.std.specs.List.{flat_map, AllByRecursion}
use Rattle.std.specs.FinMap.{entries}
use Rattle.props_text.specs.Written.{written_pair, AreUnits}
use Rattle.props_text.proofs.writing.write.Given as goal

abbrev pub invariant-loop-place : goal.invariant-loop-place
invariant-loop-place l = record {
  out : l.out.items ≡ flat_map written_pair (take l.place (entries l.pairs));
  units : AllByRecursion (λ p. AreUnits p.0 × AreUnits p.1) (take l.place (entries l.pairs));
}
