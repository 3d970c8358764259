use Rattle.std.proofs.Common.{◌≡◌, ◌+◌, false, drop}
use Rattle.props_text.specs.Pairs.{key_len}
use Rattle.props_text.proofs.parts.key_len.Given as goal

abbrev pub invariant-loop-i : goal.invariant-loop-i
invariant-loop-i l = l.i + key_len l.escaped (drop l.i l.line) ≡ key_len false l.line
