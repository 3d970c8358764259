use Rattle.std.proofs.Common.{◌≡◌, drop}
use Rattle.std.specs.List.{find, filter_map, fold}
use Rattle.std.specs.Ordering.{nat_cmp}
use Rattle.std.specs.Cmp.Lexicographic.{slice_cmp}
use Rattle.std.specs.FinMap as map
use Rattle.std.specs.BTreeSet.{keys, insert_key}
use Rattle.config_values.specs.Lists.{in_order}
use Rattle.job_config.specs.Stores.{is_misnamed, store_of}
use Rattle.job_config.proofs.stores.store_names.Given as goal

abbrev pub invariant-loop-place : goal.invariant-loop-place
invariant-loop-place l = record {
  misnamed : find is_misnamed (drop l.place (map.keys l.pairs)) ≡ find is_misnamed (map.keys l.pairs);
  names : fold (insert_key (slice_cmp nat_cmp)) (keys l.names) (filter_map store_of (drop l.place (map.keys l.pairs))) ≡ in_order (filter_map store_of (map.keys l.pairs));
}
