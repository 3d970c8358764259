use Rattle.unit_logs.proofs.committing.plan_commit.Goals as goal

pub returns-in-Err-clause-limit : goal.returns-in-Err-clause-limit
returns-in-Err-clause-limit c is = record { draft = c.in_ok-frames.frames; made = c.in_ok-frames.made; plans = c.in_ok-frames.ensures; none = c.in-Err.ensures.limit is }
