use Rattle.output_log.specs.Outputs.{sent_count}
use Rattle.task_core.specs.Seen.{sent_of}
use Rattle.container_texts.specs.UnitReports.{AreRows, output_report}
use Rattle.container_texts.proofs.unit_reports.output_reports.Given as goal

abbrev pub invariant-loop-j : goal.invariant-loop-j
invariant-loop-j g l = AreRows l.j (output_report l.unit.core.setup (sent_count (sent_of l.unit.core.held))) l.reports.items
