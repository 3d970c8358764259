use Rattle.container_texts.specs.Printing.{sink_line}
use Rattle.container_texts.proofs.Taking.{took_all, tried}
use Rattle.container_texts.proofs.printing.put_text.Goals as goal

pub returns-in-Ok-clause-part : goal.returns-in-Ok-clause-part
returns-in-Ok-clause-part g c = λ told. took_all c.args.text.now (g.W.Sink.received c.args.out.now) (g.W.Sink.received c.write.new.self) (c.in-Ok.ensures.written told)

pub returns-in-Err-clause-tried : goal.returns-in-Err-clause-tried
returns-in-Err-clause-tried g c = λ _.
    let e = c.write-in-Err.ensures in
    let sink = g.E.Sink in
    tried c.write-in-Err.result sink.tells sink_line (sink.received c.args.err.now) (sink.received c.write-in-Err.new.self) (sink.fault_count c.args.err.now) (sink.fault_count c.write-in-Err.new.self) e.written e.part e.cause
