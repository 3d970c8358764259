use Rattle.std.proofs.Common.{◌<◌, ◌+◌, length, map, subst, sym}
use Rattle.task_core.proofs.Marking.{next_is_low}
use Rattle.task_core.proofs.cores.Core.make_plan.Goals as goal

pub returns : goal.returns
returns c =
    let u = c.args.self.now in
    let made = c.in_ok-frames.ensures in
    record {
      stores = made.stores;
      sends = made.sends;
      frame = made.mark.spelled;
      named = made.mark.named;
      id = made.mark.id_is;
      next = λ p lt. next_is_low u.setup u.lanes (u.last + 1) c.in_ok-frames.frames.checkpoint c.in_ok-frames.mark made.mark p (subst (λ n. p < n) (sym made.core.lanes) lt);
      kept = c.in_ok-kept.ensures;
    }
