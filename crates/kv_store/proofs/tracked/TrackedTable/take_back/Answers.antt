use Rattle.kv_store.proofs.Tracking.{tracked_after_undo, seen-restored}
use Rattle.kv_store.proofs.tracked.TrackedTable.take_back.Goals as goal

pub invariant_of-self : goal.invariant_of-self
invariant_of-self c = rw (c.restore.ensures, c.unmark.ensures) (tracked_after_undo _ _ _ _ _ c.self.invariant c.undo.invariant)

pub returns : goal.returns
returns c = seen-restored _ _ _ c.self.view_is _ _ _ _ _ _ c.restore.ensures c.unmark.ensures c.undo.view_is
