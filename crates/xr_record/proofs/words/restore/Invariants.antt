use Rattle.std.proofs.Common.{◌≡◌, ◌*◌, ◌-◌, ◌++◌, take, drop}
use Rattle.xr_record.specs.Record.{restored}
use Rattle.xr_record.proofs.words.restore.Given as goal

abbrev pub invariant-loop-i : goal.invariant-loop-i
invariant-loop-i l =
    take (512 * l.i) l.body ++ restored (l.sectors - l.i) (drop (4 * l.i) l.words) (drop (512 * l.i) l.body)
    ≡ restored l.sectors l.words l.initial.body
