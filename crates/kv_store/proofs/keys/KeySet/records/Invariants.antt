use Rattle.std.proofs.Common.{◌≡◌, ◌++◌, map}
use Rattle.std.specs.FinMap as fin
use Rattle.kv_store.specs.Slots.{content_of}
use Rattle.kv_store.specs.Tracked.{record_now}
use Rattle.kv_store.proofs.keys.KeySet.records.Given as goal

abbrev pub invariant-loop-key : goal.invariant-loop-key
invariant-loop-key l = l.records.items ++ map (record_now (content_of l.slots)) l.key-iterator ≡ map (record_now (content_of l.slots)) (fin.keys l.self)
