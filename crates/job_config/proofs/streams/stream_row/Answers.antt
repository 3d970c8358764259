use Rattle.std.proofs.Common.{rules, ap, ◌∙◌}
use Rattle.job_config.specs.Asking.{on_ok, gives}
use Rattle.job_config.proofs.Said.{fails_first, stream_row_put}
use Rattle.job_config.proofs.streams.stream_row.Goals as goal

pub returns-in_err-answer : goal.returns-in_err-answer
returns-in_err-answer c =
    let key = rw (c.bytes.ensures, c.bytes-2.ensures) at c.in_ok-key.ensures in
    rw (stream_row_put c.args.pairs.now c.args.setting c.args.stream c.args.asked.now.items c.in_ok-key.key _ c.put_said-said.new.stream c.put_said-said.result key c.value_in.ensures c.put_said-said.ensures) (search (rules, fails_first))

pub returns : goal.returns
returns c =
    let key = rw (c.bytes.ensures, c.bytes-2.ensures) at c.in_ok-key.ensures in
    stream_row_put c.args.pairs.now c.args.setting c.args.stream c.args.asked.now.items c.in_ok-key.key _ c.put_said-said.new.stream c.put_said-said.result key c.value_in.ensures c.put_said-said.ensures
    ∙ ap (λ r. on_ok r (λ _. gives c.put_said-said.new.stream)) c.in_ok-answer.ensures
