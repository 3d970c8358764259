-- The partition that a topic file's records are.
use Rattle.std.proofs.Common.{ℕ, ◌≡◌, List, length, max, Some, slice_get, if◌then◌else◌, ap, arith}
use Rattle.samza_model.specs.declared.messages.Record.{Record}
use Rattle.samza_model.specs.declared.setups.InputSetup.{InputSetup}
use Rattle.samza_model.specs.Partition.{partition_of, message, end_of}
use Rattle.samza_model.specs.Restored.{start_of, fallback_start}

pub message_in : (records : List Record) (offset : ℕ) → message (partition_of records) offset ≡ slice_get records offset
message_in records offset = grind arith

pub end_in : (records : List Record) → end_of (partition_of records) ≡ length records
end_in records = omega arith

pub start_in : (next : ℕ) (i : InputSetup) (records : List Record)
    → start_of (Some next) i (partition_of records) ≡ (if i.reset then fallback_start i.fallback (partition_of records) else next)
start_in next i records = let e : max next 0 ≡ next = omega arith in ap (λ n. if i.reset then fallback_start i.fallback (partition_of records) else n) e
