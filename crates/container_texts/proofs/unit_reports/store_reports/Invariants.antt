use Rattle.core_steps.specs.Held.{contents_of}
use Rattle.container_texts.specs.UnitReports.{AreRows, store_report}
use Rattle.container_texts.proofs.unit_reports.store_reports.Given as goal

abbrev pub invariant-loop-i : goal.invariant-loop-i
invariant-loop-i g l = AreRows l.i (store_report l.unit.core.setup (contents_of l.unit.core.held.stores)) l.reports.items
