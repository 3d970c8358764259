use Rattle.std.proofs.Common.{ℕ, List, subst, arith}
use Rattle.samza_model.specs.declared.messages.Record.{Record}
use Rattle.log_frame.specs.Reading.{frame_at, FailsFrame}
use Rattle.topic_log.proofs.Headers.{frame_within}
use Rattle.topic_log.proofs.shelf_logs.batch_in.Goals as goal

pub overflow_add-result-in-Err-Bad : goal.overflow_add-result-in-Err-Bad
overflow_add-result-in-Err-Bad c =
    let bad = subst (λ e. FailsFrame {Y = List Record × ℕ} e (frame_at c.split_at-2.result.1.now)) c.in-Err-Bad.field-0-is c.in-Err-Bad.ensures.exact in
    omega (arith, frame_within c.split_at-2.result.1.now c.in-Err-Bad.at bad, c.split_at-2.ensures.back_len, c.split_at.ensures.back_len, c.requires.small)
