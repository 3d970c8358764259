-- With one callback in flight at a time, a run that came to an end is the fold of its messages.
use Rattle.std.proofs.Common.{ℕ, ◌≡◌, ◌+◌, ◌-◌, List, [], ◌∷◌, length, Option, Some, None, refl, sym, ◌∙◌, ap, arith}
use Rattle.samza_model.specs.declared.checkpoints.Checkpoint.{Checkpoint}
use Rattle.samza_model.specs.declared.messages.Envelope.{Envelope}
use Rattle.samza_model.specs.declared.setups.InputSetup.{InputSetup}
use Rattle.samza_model.specs.declared.setups.Setup.{Setup}
use Rattle.samza_model.specs.Events.{deliveries_of, low, ssp_at, state_after}
use Rattle.samza_model.specs.Files.{Image}
use Rattle.samza_model.specs.Histories.{History, whole}
use Rattle.samza_model.specs.Lawful.{Given, start_at}
use Rattle.samza_model.specs.Meaning.{Meaning}
use Rattle.samza_model.specs.Partition.{Partition, partition_of}
use Rattle.samza_model.specs.Ran.{Finished, starts_from}
use Rattle.samza_model.specs.Runs.{folds}
use Rattle.history_laws.specs.Deliveries.{messages_from}
use Rattle.history_laws.specs.Folds.{delivered}
use Rattle.history_laws.proofs.Shared.{delivered_in_order, folded, low_idle}
use Rattle.task_runs.specs.Ends.{done_to}
use Rattle.task_runs.specs.Runs.{TaskRan, given_of}
use Rattle.task_runs.proofs.Placing.{windowless_all}

-- as many starts as inputs
pub one_start : (mark : Option Checkpoint) (part : Partition) (inputs : List InputSetup) → length inputs ≡ 1 → length (starts_from mark 0 inputs (part ∷ [])) ≡ 1
one_start mark part [] is = is
one_start mark part (i ∷ []) is = refl
one_start mark part (i ∷ j ∷ is) more = absurd (omega (arith, more))

pub ended_folds : (job : Meaning) (s : Setup) (input : List ℕ) (before after : Image) (t : History) (r : TaskRan job s input before after t) → length s.inputs ≡ 1 → s.concurrency ≡ 1
    → Finished (given_of job s input before after t r) t after
    → folds job s (messages_from (ssp_at s 0) (partition_of r.messages) (start_at (given_of job s input before after t r) 0) (done_to (given_of job s input before after t r) t - start_at (given_of job s input before after t r) 0))
    (given_of job s input before after t r).state ≡ Some (state_after (given_of job s input before after t r).state (whole t))
ended_folds job s input before after t r one alone finished =
    let k = given_of job s input before after t r in
    let h = whole t in
    let covered : low k.setup (start_at k 0) h 0 ≡ start_at k 0 + deliveries_of 0 h = low_idle k h 0 r.ran.lawful finished.idle finished.sound in
    let many : done_to k t - start_at k 0 ≡ deliveries_of 0 h = omega (arith, covered) in
    let order : delivered s h ≡ messages_from (ssp_at s 0) (partition_of r.messages) (start_at k 0) (deliveries_of 0 h) =
    delivered_in_order k (partition_of r.messages) h (one_start r.ran.opened.mark (partition_of r.messages) s.inputs one) refl r.ran.lawful in
    ap (λ (es : List Envelope). folds job s es k.state) (ap (λ (n : ℕ). messages_from (ssp_at s 0) (partition_of r.messages) (start_at k 0) n) many ∙ sym order)
    ∙ folded job k refl alone h (windowless_all None h r.of_messages) r.ran.lawful finished.idle finished.sound
