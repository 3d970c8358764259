use Rattle.std.proofs.Common.{◌≡◌, take}
use Rattle.kv_store.specs.Tracked.{records_of}
use Rattle.changelog.proofs.reverts.revert.Given as goal

abbrev pub invariant-loop-key : goal.invariant-loop-key
invariant-loop-key l = l.records.items ≡ records_of l.table (take l.key-index l.touched)
