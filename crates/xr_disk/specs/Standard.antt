-- What a clause reads of a source and of a sink over std's io.
use Rattle.std.specs.Prelude.{ℕ}
use Rattle.xr_disk.specs.declared.standard.StdSource.{StdSource}
use Rattle.xr_disk.specs.declared.standard.StdSink.{StdSink}

-- the reader, and the faults so far
abbrev pub reader_of : {T : Type 0} → StdSource T → T
reader_of s = s.reader

abbrev pub source_faults : {T : Type 0} → StdSource T → ℕ
source_faults s = s.faults

-- the writer, and the faults so far
abbrev pub writer_of : {W : Type 0} → StdSink W → W
writer_of s = s.writer

abbrev pub sink_faults : {W : Type 0} → StdSink W → ℕ
sink_faults s = s.faults
