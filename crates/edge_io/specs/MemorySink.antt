-- The meanings of a sink in memory.
use Rattle.std.specs.Prelude.{ℕ, Bool, ◌+◌, ◌-◌, ◌==◌, ◌||◌, nat_lt, if◌then◌else◌, List, [], length, take}
use Rattle.std.specs.List.{list_any}
use Rattle.edge_io.specs.declared.memory_sink.MemSink.{MemSink}

abbrev pub sink_received : MemSink → List ℕ
sink_received s = s.bytes.items

abbrev pub sink_faults : MemSink → ℕ
sink_faults s = s.faults

-- the number of writes so far
abbrev pub sink_writes : MemSink → ℕ
sink_writes s = s.writes

-- the greatest number of bytes
abbrev pub sink_room : MemSink → ℕ
sink_room s = s.room

-- the numbers of the writes that are told to fail
abbrev pub sink_fail_at : MemSink → List ℕ
sink_fail_at s = s.fail_at.items

-- the next write is told to fail
abbrev pub is_told : MemSink → Bool
is_told s = list_any (λ n. n == sink_writes s) (sink_fail_at s)

-- the next write fails with so many bytes: it is told to, or they don't fit
abbrev pub fails_next : MemSink → ℕ → Bool
fails_next s n = is_told s || nat_lt (sink_room s) (length (sink_received s) + n)

-- what the next write takes of these bytes: none where it is told to fail, else what fits
abbrev pub taken_next : MemSink → List ℕ → List ℕ
taken_next s bytes = if is_told s then [] else take (sink_room s - length (sink_received s)) bytes
