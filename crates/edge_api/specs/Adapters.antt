-- The parts of the adapters over a reader and a writer of std.
use Rattle.std.specs.Prelude.{ℕ}
use Rattle.edge_api.specs.declared.std_streams.StdSource.{StdSource}
use Rattle.edge_api.specs.declared.std_streams.StdSink.{StdSink}

-- the reader under a source
abbrev pub source_reader : {T : Type 0} → StdSource T → T
source_reader s = s.reader

-- how many errors the source has counted
abbrev pub source_errors : {T : Type 0} → StdSource T → ℕ
source_errors s = s.faults

-- the writer under a sink
abbrev pub sink_writer : {T : Type 0} → StdSink T → T
sink_writer s = s.writer

-- how many errors the sink has counted
abbrev pub sink_errors : {T : Type 0} → StdSink T → ℕ
sink_errors s = s.faults
