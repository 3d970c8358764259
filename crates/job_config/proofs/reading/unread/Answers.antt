use Rattle.std.proofs.Common.{ℕ, List, arith, ◌∙◌}
use Rattle.std.proofs.lemmas.List.{length-map}
use Rattle.std.specs.FinMap as map
use Rattle.job_config.proofs.Places.{none_within, key_at}
use Rattle.job_config.proofs.Unread.{unread_more, unread_end}
use Rattle.job_config.proofs.reading.unread.Goals as goal

pub unreachable-requires : goal.unreachable-requires
unreachable-requires c = none_within (map.entries c.args.pairs.now) c.loop-place.place (omega (arith, map.len-entries c.args.pairs.now)) c.in-None.ensures

pub loop-place-preserved : goal.loop-place-preserved
loop-place-preserved c =
    let at = key_at (map.entries c.args.pairs.now) c.loop-place.place _ _ c.in-Some.ensures in
    unread_more c.args.asked.now (map.keys c.args.pairs.now) c.loop-place.place _ c.loop-place.keys.items _ _ at c.in_ok-push_unread-in-Some.ensures c.loop-place.invariant

pub returns : goal.returns
returns c =
    c.from_vec.ensures
    ∙ unread_end c.args.pairs.now c.args.asked.now c.loop-place.place _
    (omega (arith, map.len-entries c.args.pairs.now, length-map {B = List ℕ} (map.entries c.args.pairs.now) (λ (e : List ℕ × List ℕ). e.0)))
    c.loop-place.invariant
