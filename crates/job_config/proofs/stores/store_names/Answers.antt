use Rattle.std.proofs.Common.{ℕ, List, Ok, arith, ap, refl, sym, ◌∙◌}
use Rattle.std.proofs.lemmas.List.{length-map}
use Rattle.std.specs.List.{fold, filter_map}
use Rattle.std.specs.Ordering.{nat_cmp}
use Rattle.std.specs.Cmp.Lexicographic.{slice_cmp}
use Rattle.std.specs.FinMap as map
use Rattle.std.specs.BTreeSet.{insert_key, keys}
use Rattle.config_values.specs.Lists.{in_order}
use Rattle.job_config.specs.Stores.{store_of}
use Rattle.job_config.proofs.Places.{none_within, key_at}
use Rattle.job_config.proofs.StoreNames.{find_more, fold_more, names_fail, names_end}
use Rattle.job_config.proofs.stores.store_names.Goals as goal

pub loop-place-init : goal.loop-place-init
unfolding in_order
loop-place-init c = record {
  misnamed = refl;
  names = ap (λ (names : List (List ℕ)). fold (insert_key (slice_cmp nat_cmp)) names (filter_map store_of (map.keys c.args.pairs.now))) c.new-names.ensures.empty;
}

pub unreachable-requires : goal.unreachable-requires
unreachable-requires c = none_within (map.entries c.args.pairs.now) c.loop-place.place (omega (arith, map.len-entries c.args.pairs.now)) c.in-None.ensures

pub loop-place-preserved : goal.loop-place-preserved
loop-place-preserved c =
    let at = key_at (map.entries c.args.pairs.now) c.loop-place.place _ _ c.in-Some.ensures in
    record {
      misnamed = find_more (map.keys c.args.pairs.now) c.loop-place.place _ _ at c.in-Ok.ensures.0 c.loop-place.invariant.misnamed;
      names = fold_more (map.keys c.args.pairs.now) c.loop-place.place _ _ _ _ at c.in-Ok.ensures.1 c.loop-place.invariant.names;
    }

pub returns-in-Err : goal.returns-in-Err
returns-in-Err c = names_fail c.args.pairs.now c.loop-place.place _ _ (keys c.loop-place.names) (keys c.put_store.new.names) c.in-Err.fault c.in-Some.ensures c.loop-place.invariant.misnamed c.in-Err.ensures

pub returns : goal.returns
returns c =
    names_end c.args.pairs.now c.loop-place.place _
    (omega (arith, map.len-entries c.args.pairs.now, length-map {B = List ℕ} (map.entries c.args.pairs.now) (λ (e : List ℕ × List ℕ). e.0)))
    c.loop-place.invariant.misnamed c.loop-place.invariant.names
    ∙ ap Ok (sym (c.from_vec.ensures ∙ c.in_ok-listed.ensures))
