use Rattle.std.proofs.Common.{sym, subst}
use Rattle.kv_store.specs.Tracked.{AreWithinLimits}
use Rattle.kv_store.proofs.Tracking.{tracked_at_start}
use Rattle.kv_store.proofs.tracked.TrackedTable.flushed.Goals as goal

pub invariant_of-self : goal.invariant_of-self
invariant_of-self c = rw c.clear.ensures (tracked_at_start _ (subst AreWithinLimits (sym c.drop_deleted.ensures) c.self.invariant.within))
