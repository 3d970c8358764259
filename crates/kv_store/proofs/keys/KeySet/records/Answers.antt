use Rattle.std.proofs.Common.{ap, sym, ◌∙◌, map}
use Rattle.std.specs.FinMap as fin
use Rattle.kv_store.specs.Slots.{content_of}
use Rattle.kv_store.specs.Tracked.{record_now}
use Rattle.kv_store.proofs.KeySets.{keys-set_of}
use Rattle.kv_store.proofs.keys.KeySet.records.Goals as goal

pub loop-key-init : goal.loop-key-init
loop-key-init c =
    let gives = c.into_iter-key-iterator.ensures.into_iter_gives in
    rw c.in_ok-records.ensures.items (ap (map (record_now (content_of c.args.slots.now))) (gives.0 ∙ sym (keys-set_of _ gives.4) ∙ ap fin.keys c.self.view_is))
