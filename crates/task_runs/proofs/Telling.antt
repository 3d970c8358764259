-- What a run's answer tells on every outside.
use Rattle.std.proofs.Common.{ℕ, ◌≡◌, ◌≢◌, ◌≤◌, Some, IfErr, Result, Ok, Err, arith, subst}
use Rattle.samza_model.specs.declared.setups.Setup.{Setup}
use Rattle.samza_model.specs.declared.turns.Failure.{Failure}
use Rattle.samza_model.specs.declared.turns.Why.{Why}
use Rattle.samza_model.specs.declared.turns.Why.TheVariants.{Code, TooMany, Limits, Expired}
use Rattle.samza_model.specs.Counters.{Rose}
use Rattle.samza_model.specs.Files.{Image}
use Rattle.history_laws.specs.Fails.{IsNotExpired}
use Rattle.unit_steps.specs.Units.{UnitValue}
use Rattle.run_loop.specs.Stops.{WhyStopped}
use Rattle.run_loop.specs.declared.stops.Stop.{Stop}
use Rattle.container_texts.specs.Statuses.{failure_status, status_of}
use Rattle.container_texts.specs.declared.faults.RunFault.{RunFault}
use Rattle.container_texts.specs.declared.faults.RunFault.TheVariants.{Words, NoText, TextLimit, BadEscape, BadKey, NotBuilt, NoPartition, Device, NotOpened, Failed, Limit, NoMemory}
use Rattle.container_texts.specs.declared.reports.TaskReport.{TaskReport}
use Rattle.task_runs.specs.Answers.{Says}
use Rattle.task_runs.specs.Tells.{TellsOf}

not_four : (why : Why) → failure_status why ≢ 4
not_four (Code code) four = omega (arith, four)
not_four TooMany four = omega (arith, four)
not_four Limits four = omega (arith, four)
not_four (Expired delivered now) four = omega (arith, four)

module _ {P D S : Type 0} (v : UnitValue P D S) (stop : Stop) where
  -- a fault tells an offset of the input, if anything
  pub tells_of : (s : Setup) (result : Result TaskReport RunFault) → Says v stop result → ((f : Failure) → v.core.failed ≡ Some f → ((offset : ℕ) × (f.place ≡ Some (0, offset))) × IsNotExpired f.why) → IfErr result (TellsOf s)
  tells_of s (Ok report) says failed = tt
  tells_of s (Err (Failed f)) says failed = failed f says.1
  tells_of s (Err Device) says failed = tt
  tells_of s (Err Limit) says failed = tt
  tells_of s (Err NoMemory) says failed = tt
  tells_of s (Err (Words place)) says failed = says
  tells_of s (Err NoText) says failed = says
  tells_of s (Err TextLimit) says failed = says
  tells_of s (Err (BadEscape line)) says failed = says
  tells_of s (Err (BadKey key what)) says failed = says
  tells_of s (Err (NotBuilt key)) says failed = says
  tells_of s (Err NoPartition) says failed = says
  tells_of s (Err (NotOpened e)) says failed = absurd says

  -- a device's status comes only where its count of faults rose
  pub rose_by : (tells : Type 0) (reads : D → Image) (faults : D → ℕ) (u : UnitValue P D S) (before : ℕ) → before ≤ faults u.disk → WhyStopped tells reads faults u v stop
      → (result : Result TaskReport RunFault) → Says v stop result → IfErr result (λ e. status_of e ≡ 4 → Rose before (faults v.disk))
  rose_by tells reads faults u before later why (Ok report) says = tt
  rose_by tells reads faults u before later why (Err (Failed f)) says = λ four. absurd (not_four f.why four)
  rose_by tells reads faults u before later why (Err Device) says = λ four.
      let broken = subst (λ (x : Stop). WhyStopped tells reads faults u v x) says why in
      omega (arith, later, broken.rose)
  rose_by tells reads faults u before later why (Err Limit) says = λ four. absurd (omega (arith, four))
  rose_by tells reads faults u before later why (Err NoMemory) says = λ four. absurd (omega (arith, four))
  rose_by tells reads faults u before later why (Err (Words place)) says = absurd says
  rose_by tells reads faults u before later why (Err NoText) says = absurd says
  rose_by tells reads faults u before later why (Err TextLimit) says = absurd says
  rose_by tells reads faults u before later why (Err (BadEscape line)) says = absurd says
  rose_by tells reads faults u before later why (Err (BadKey key what)) says = absurd says
  rose_by tells reads faults u before later why (Err (NotBuilt key)) says = absurd says
  rose_by tells reads faults u before later why (Err NoPartition) says = absurd says
  rose_by tells reads faults u before later why (Err (NotOpened e)) says = absurd says
