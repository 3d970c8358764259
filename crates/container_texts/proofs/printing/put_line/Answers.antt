use Rattle.container_texts.proofs.Taking.{took_all}
use Rattle.container_texts.proofs.printing.put_line.Goals as goal

pub returns-in-Ok-clause-part : goal.returns-in-Ok-clause-part
returns-in-Ok-clause-part g c = λ told. took_all c.args.line.now (g.E.Sink.received c.args.err.now) (g.E.Sink.received c.write.new.self) (c.in-Ok.ensures.written told)
