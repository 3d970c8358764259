-- The meaning of a sink over a stream of std.
use Rattle.std.specs.Prelude.{ℕ}
use Rattle.edge_io.specs.declared.std_sink.StdSink.{StdSink}

abbrev pub std_faults : {W : Type 0} → StdSink W → ℕ
std_faults s = s.faults

abbrev pub std_stream : {W : Type 0} → StdSink W → W
std_stream s = s.stream
