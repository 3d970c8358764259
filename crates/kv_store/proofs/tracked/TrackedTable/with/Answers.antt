use Rattle.std.proofs.Common.{sym, subst}
use Rattle.kv_store.specs.Tracked.{AreWithinLimits}
use Rattle.kv_store.proofs.Tracking.{tracked_at_start}
use Rattle.kv_store.proofs.tracked.TrackedTable.with.Goals as goal

pub invariant_of-result : goal.invariant_of-result
invariant_of-result c = rw c.new.ensures (tracked_at_start _ (subst AreWithinLimits (sym c.into_slots.ensures) c.requires))
