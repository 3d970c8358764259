use Rattle.std.proofs.Common.{◌≡◌, ◌<◌, ◌∙◌, ap, length, arith}
use Rattle.std.proofs.lemmas.List.{get_or_read, length-set}
use Rattle.samza_model.specs.Content.{nothing_stored}
use Rattle.kv_store.specs.Tracked.{Tracked, no_keys}
use Rattle.core_parts.proofs.Flushed.{settled_more, same_contents}
use Rattle.core_parts.proofs.holdings.flush_all.Goals as goal

pub loop-i-preserved : goal.loop-i-preserved
loop-i-preserved c =
    let items = c.loop-i.stores.items in
    let t = c.flushed.new.self in
    let d : Tracked = record { content = nothing_stored; dirty = no_keys } in
    let lt : c.loop-i.i < length items = omega (arith, c.loop-i-test.true, c.len-i-end.ensures, c.loop-i.invariant.0) in
    let same = c.flushed.ensures.content ∙ ap (λ (u : Tracked). u.content) (get_or_read items c.loop-i.i c.index_mut.result.now lt c.index_mut.ensures.value d) in (
      length-set items c.loop-i.i t ∙ c.loop-i.invariant.0,
      same_contents items c.loop-i.i t lt same ∙ c.loop-i.invariant.1,
      settled_more (λ (u : Tracked). u.dirty ≡ no_keys) items c.loop-i.i t d lt c.flushed.ensures.dirty c.loop-i.invariant.2,
    )
