use Rattle.std.proofs.Common.{ap, sym, ◌∙◌, subst}
use Rattle.kv_store.specs.Slots.{content_of}
use Rattle.kv_store.specs.Tracked.{AreWithinLimits}
use Rattle.kv_store.proofs.SlotContent.{content_of-empty}
use Rattle.kv_store.proofs.Tracking.{tracked_at_start, AreWithinLimits-nothing}
use Rattle.kv_store.proofs.tracked.TrackedTable.new.Goals as goal

pub invariant_of-result : goal.invariant_of-result
invariant_of-result c = rw (c.new.ensures, c.new-2.ensures) (tracked_at_start _ (subst AreWithinLimits (sym content_of-empty) AreWithinLimits-nothing))

pub returns-clause-content : goal.returns-clause-content
returns-clause-content c = ap content_of c.new.ensures ∙ content_of-empty
