-- an interrupted read took nothing
use Rattle.std.specs.Io.KnownBytes.{Keeps}
use Rattle.xr_disk.proofs.standard.read_retrying.Given as goal

abbrev pub invariant-loop : goal.invariant-loop
invariant-loop g l = Keeps (g.T.Read.remaining l.initial.reader) (g.T.Read.remaining l.reader)
