use Rattle.std.proofs.Common.{◌≡◌, ◌++◌, drop}
use Rattle.std.specs.List.{flat_map}
use Rattle.container_texts.specs.ReportText.{input_line}
use Rattle.container_texts.proofs.reports.put_inputs.Given as goal

abbrev pub invariant-loop-input : goal.invariant-loop-input
invariant-loop-input l = l.text ++ flat_map input_line (drop l.input-index l.inputs) ≡ l.fn.text ++ flat_map input_line l.inputs
