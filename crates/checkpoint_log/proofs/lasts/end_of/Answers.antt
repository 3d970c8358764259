use Rattle.std.proofs.Common.{inl, inr}
use Rattle.checkpoint_log.proofs.lasts.end_of.Goals as goal

pub returns-in-Some-clause-end : goal.returns-in-Some-clause-end
returns-in-Some-clause-end c = λ frames h. inl (c.in-Some.ensures.last frames h)

pub returns-in-None-clause-end : goal.returns-in-None-clause-end
returns-in-None-clause-end c = λ frames h. inr (c.in-None.ensures.last frames h, c.start.ensures frames)
