use Rattle.std.proofs.Common.{◌≡◌, take, drop}
use Rattle.props_text.specs.Lines.{natural_lines, in_front}
use Rattle.props_text.proofs.lines.split_line.Given as goal

abbrev pub invariant-loop-i : goal.invariant-loop-i
invariant-loop-i l = in_front (take l.i l.text) (natural_lines (drop l.i l.text)) ≡ natural_lines l.text
