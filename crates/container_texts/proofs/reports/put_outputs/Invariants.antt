use Rattle.std.proofs.Common.{◌≡◌, ◌++◌, drop}
use Rattle.std.specs.List.{flat_map}
use Rattle.container_texts.specs.ReportText.{output_line}
use Rattle.container_texts.proofs.reports.put_outputs.Given as goal

abbrev pub invariant-loop-output : goal.invariant-loop-output
invariant-loop-output l = l.text ++ flat_map output_line (drop l.output-index l.outputs) ≡ l.fn.text ++ flat_map output_line l.outputs
