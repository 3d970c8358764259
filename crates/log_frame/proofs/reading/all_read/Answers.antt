use Rattle.std.proofs.Common.{sym, ◌∙◌}
use Rattle.log_frame.proofs.Whole.{ended_bad, ended_good}
use Rattle.log_frame.proofs.reading.all_read.Goals as goal

pub returns-then-not-is_empty : goal.returns-then-not-is_empty
returns-then-not-is_empty c = λ records. rw c.bad.ensures (ended_bad c.args.end records c.args.rest.now (sym c.is_empty.ensures ∙ c.if-not-is_empty.true))

pub returns : goal.returns
returns c = λ records. ended_good c.args.end records c.args.rest.now (sym c.is_empty.ensures ∙ c.if-not-is_empty.false)
