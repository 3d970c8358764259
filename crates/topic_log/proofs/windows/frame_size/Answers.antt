use Rattle.std.proofs.Common.{ap, arith, length, length-take}
use Rattle.topic_log.proofs.Headers.{header_short}
use Rattle.topic_log.proofs.windows.frame_size.Goals as goal

pub returns-in-None-clause-bad : goal.returns-in-None-clause-bad
returns-in-None-clause-bad c = λ bytes is room. header_short bytes (omega (arith, c.in-None.ensures.cases, ap length is, length-take 8 bytes))
