use Rattle.std.proofs.Common.{◌≡◌, ◌<◌, ◌^◌, take}
use Rattle.std.specs.List.{AllByRecursion}
use Rattle.unit_logs.specs.Planned.{lens_of}
use Rattle.unit_logs.proofs.reaching.len_each.Given as goal

abbrev pub invariant-loop-i : goal.invariant-loop-i
invariant-loop-i l = (l.lens.items ≡ lens_of (take l.i l.logs)) × AllByRecursion (λ n. n < 2 ^ 63) l.lens.items
