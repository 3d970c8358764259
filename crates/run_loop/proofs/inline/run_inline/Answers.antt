use Rattle.std.proofs.Common.{◌≡◌, ◌∙◌, ap, subst, slice_set, slice_index_or}
use Rattle.run_loop.specs.Runs.{Runs}
use Rattle.run_loop.specs.Stops.{WhyStopped}
use Rattle.run_loop.proofs.inline.run_inline.Goals as goal

pub returns : goal.returns
returns g c =
    let disk = g.D.Disk in
    let new = c.run_turns-stop.new.unit in
    let was = c.index_mut.result.now in
    record {
      ran = λ old one.
          let is : was ≡ old = c.index_mut.ensures.value ∙ ap (λ us. slice_index_or us 0 was) one in (
            new,
            ap (λ us. slice_set us 0 new) one,
            subst (λ u. Runs g.J.Job.meaning disk.tells disk.reads disk.call_number disk.images disk.images_since disk.name disk.fault_count u new) is c.run_turns-stop.ensures.runs,
            subst (λ u. WhyStopped disk.tells disk.reads disk.fault_count u new c.run_turns-stop.result) is c.run_turns-stop.ensures.stop,
          );
    }
