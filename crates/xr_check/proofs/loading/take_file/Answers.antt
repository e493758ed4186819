use Rattle.std.proofs.Common.{◌-◌, refl, arith}
use Rattle.xr_base.specs.declared.geometry.TheConstants.{OFFSETS}
use Rattle.xr_bmap.specs.File.{slot_of_file}
use Rattle.xr_bmap.specs.Slots.{IsPieceAt}
use Rattle.xr_bmap.specs.declared.piece.Piece.TheVariants.{Hole, Mapped}
use Rattle.xr_check.proofs.TakenLemmas.{hole_taken, run_taken}
use Rattle.xr_maps.specs.Steps.{Fits}
use Rattle.xr_maps.specs.declared.steps.Step.TheVariants.{Remap}
use Rattle.xr_check.proofs.loading.take_file.Goals as goal

pub loop-off-preserved-in-Mapped : goal.loop-off-preserved-in-Mapped
loop-off-preserved-in-Mapped c =
    let off = c.loop-off.off in
    let len = c.in-Mapped.len in
    let at = c.in-Mapped.at in
    let so_far = c.loop-off.invariant in
    let piece : IsPieceAt (slot_of_file c.args.file.now) off (OFFSETS - off) (Mapped at len) = c.in-Mapped.ensures.piece in
    let fits : Fits (Remap c.args.number off len at) =
    (record { file_there = c.requires.known; some = piece.some; within = omega (arith, piece.few, so_far.within) }, c.in-Mapped.ensures.good at len refl) in
    record {
      within = omega (arith, piece.few, so_far.within);
      taken = run_taken c.args.maps.now c.loop-off.maps c.apply.new.self c.args.number off len (slot_of_file c.args.file.now) so_far.taken at
          c.apply.ensures.applied c.apply.ensures.good fits piece.alike;
    }

pub loop-off-preserved : goal.loop-off-preserved
loop-off-preserved c =
    let off = c.loop-off.off in
    let len = c.in-Hole.len in
    let so_far = c.loop-off.invariant in
    let piece : IsPieceAt (slot_of_file c.args.file.now) off (OFFSETS - off) (Hole len) = c.in-Hole.ensures.piece in
    record {
      within = omega (arith, piece.few, so_far.within);
      taken = hole_taken c.args.maps.now c.loop-off.maps c.loop-off.maps c.args.number off len (slot_of_file c.args.file.now) so_far.taken piece.alike;
    }
