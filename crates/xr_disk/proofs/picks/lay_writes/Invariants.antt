use Rattle.std.proofs.Common.{◌≡◌, ◌≤◌, drop, vec_len}
use Rattle.xr_disk.specs.Picks.{laid}
use Rattle.xr_disk.proofs.picks.lay_writes.Given as goal

abbrev pub invariant-loop-i : goal.invariant-loop-i
invariant-loop-i l =
    (laid l.bytes l.picks (drop l.i l.done) l.writes l.image.items ≡ laid l.bytes l.picks (drop l.covered l.done) 0 l.initial.image.items)
    × (vec_len l.image ≡ vec_len l.initial.image)
    × (l.writes ≤ l.i)
