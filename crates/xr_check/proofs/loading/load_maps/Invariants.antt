use Rattle.std.proofs.Common.{ℕ}
use Rattle.xr_check.proofs.FileLemmas.{HaveFilesBelow, HaveNoneFrom}
use Rattle.xr_check.specs.CleanImages.{HasFilesBelow}
use Rattle.xr_check.specs.Reading.{ReadsAtMost}
use Rattle.xr_disk.specs.Seen.{WasSeen}
use Rattle.xr_check.proofs.loading.load_maps.Given as goal

abbrev pub invariant-loop-number : goal.invariant-loop-number
invariant-loop-number g l = record {
  have : WasSeen (g.D.Disk.view l.fn.disk).seen (λ image. HaveFilesBelow l.maps image l.uuid l.number);
  none : HaveNoneFrom l.maps l.number;
  right : WasSeen (g.D.Disk.view l.fn.disk).seen (λ image. HasFilesBelow image l.uuid l.number);
  reads : ReadsAtMost l.number (g.D.Disk.view l.fn.disk) (g.D.Disk.view l.disk);
}
