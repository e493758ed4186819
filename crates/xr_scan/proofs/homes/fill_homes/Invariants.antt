use Rattle.std.proofs.Common.{◌+◌, ◌≤◌}
use Rattle.xr_disk.specs.Disk.{OnlyReads}
use Rattle.xr_disk.specs.Seen.{WasSeen}
use Rattle.xr_scan.specs.Homes.{AreHomesBelow, groups_end}
use Rattle.xr_scan.proofs.homes.fill_homes.Given as goal

abbrev pub invariant-loop-group : goal.invariant-loop-group
invariant-loop-group g l = record {
  homes : WasSeen (g.D.Disk.view l.fn.disk).seen (λ image. AreHomesBelow image (groups_end l.group) l.blocks);
  reads : OnlyReads (g.D.Disk.view l.fn.disk) (g.D.Disk.view l.disk);
  clock : (g.D.Disk.view l.disk).moment ≤ (g.D.Disk.view l.fn.disk).moment + 1 + l.group;
  kept : (g.D.Disk.view l.fn.disk).faults ≤ (g.D.Disk.view l.disk).faults;
}
