-- the buffer's front was taken from the file
use Rattle.std.proofs.Common.{ℕ, ◌-◌, ◌≤◌, List, Option, length, take}
use Rattle.std.specs.Io.KnownBytes.{Consumes}
use Rattle.xr_disk.proofs.file.read_all.Given as goal

pub record HasFilled {R : Type 0} (remaining : R → Option (List ℕ)) (old new : R) (out : List ℕ) (filled : ℕ) : Type 0 where
  pub within : filled ≤ length out
  pub taken : Consumes (remaining old) (remaining new) (take filled out)

abbrev pub invariant-loop-filled : goal.invariant-loop-filled
invariant-loop-filled g l = HasFilled g.F.Read.remaining l.initial.file l.file l.out l.filled

abbrev pub decreases-loop-filled : goal.decreases-loop-filled
decreases-loop-filled g l = length l.out - l.filled
