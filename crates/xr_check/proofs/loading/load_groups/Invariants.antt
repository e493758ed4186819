use Rattle.std.proofs.Common.{◌≡◌}
use Rattle.xr_check.specs.CleanImages.{HasGroupsBelow, groups_below}
use Rattle.xr_check.specs.Reading.{ReadsAtMost}
use Rattle.xr_check.specs.Verdicts.{AreFirstGroups}
use Rattle.xr_disk.specs.Seen.{WasSeen}
use Rattle.xr_check.proofs.loading.load_groups.Given as goal

abbrev pub invariant-loop-number : goal.invariant-loop-number
invariant-loop-number g l = record {
  all : AreFirstGroups l.groups.items l.number;
  groups : WasSeen (g.D.Disk.view l.fn.disk).seen (λ image. l.groups.items ≡ groups_below l.number image l.uuid);
  right : WasSeen (g.D.Disk.view l.fn.disk).seen (λ image. HasGroupsBelow image l.uuid l.number);
  reads : ReadsAtMost l.number (g.D.Disk.view l.fn.disk) (g.D.Disk.view l.disk);
}
