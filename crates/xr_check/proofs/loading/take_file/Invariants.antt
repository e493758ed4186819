use Rattle.std.proofs.Common.{◌-◌, ◌≤◌}
use Rattle.xr_base.specs.declared.geometry.TheConstants.{OFFSETS}
use Rattle.xr_bmap.specs.File.{slot_of_file}
use Rattle.xr_check.proofs.TakenLemmas.{IsTakenTo}
use Rattle.xr_check.proofs.loading.take_file.Given as goal

abbrev pub invariant-loop-off : goal.invariant-loop-off
invariant-loop-off l = record {
  within : l.off ≤ OFFSETS;
  taken : IsTakenTo l.fn.maps l.maps l.number.0 l.off (slot_of_file l.file);
}

abbrev pub decreases-loop-off : goal.decreases-loop-off
decreases-loop-off l = OFFSETS - l.off
