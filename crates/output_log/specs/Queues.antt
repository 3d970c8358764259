-- What one output was sent.
use Rattle.std.specs.Prelude.{ℕ, ◌<◌, ◌+◌, ◌^◌, List, length, map}
use Rattle.std.specs.List.{AllByRecursion}
use Rattle.samza_model.specs.declared.messages.Record.{Record}
use Rattle.samza_model.specs.Limits.{IsWithinLimits}
use Rattle.output_log.specs.Outputs.{Sent}

-- the records that an output was sent since it was cleared, oldest first, and how many were cleared before
pub record Queued : Type 0 where
  pub records : List Record
  pub cleared : ℕ

-- the records are within the limits, and the count of all fits
pub record IsQueue (records : List Record) (cleared : ℕ) : Type 0 where
  pub limits : AllByRecursion IsWithinLimits records
  pub fits : cleared + length records < 2 ^ 64

-- what the outputs of these queues were sent
abbrev pub sent_of : List Queued → Sent
sent_of queues = record { unsent = map (λ (q : Queued). q.records) queues; cleared = map (λ (q : Queued). q.cleared) queues }
