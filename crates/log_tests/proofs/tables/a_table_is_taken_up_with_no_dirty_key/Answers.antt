use Rattle.std.proofs.Common.{sym, subst}
use Rattle.kv_store.specs.Tracked.{AreWithinLimits}
use Rattle.kv_store.proofs.Laws.{AreWithinLimits-nothing}
use Rattle.log_tests.proofs.tables.a_table_is_taken_up_with_no_dirty_key.Goals as goal

pub with-table-requires : goal.with-table-requires
with-table-requires g c = subst AreWithinLimits (sym c.new.ensures) AreWithinLimits-nothing
