use Rattle.std.proofs.Common.{[], None, true, arith}
use Rattle.std.specs.Result.{IsOk}
use Rattle.xr_verify.proofs.ChildLemmas.{sound_used}
use Rattle.xr_verify.proofs.VisitedLemmas.{not_ok}
use Rattle.xr_pool.specs.Overlay.{AreKnown}
use Rattle.xr_verify.proofs.WholeTreeLemmas.{root_rules, sound_of}
use Rattle.xr_block.specs.Tree.{least_of_root}
use Rattle.xr_pool.specs.OverlayLaws.{overlay_known}
use Rattle.xr_verify.proofs.visit.visit_root.Goals as goal

pub returns-in_err-in_pool-clause-right : goal.returns-in_err-in_pool-clause-right
returns-in_err-in_pool-clause-right g c =
    let form = g.R.Record.form in
    let over = c.args.over.now in
    let known : AreKnown over = overlay_known over c.has_blocks.ensures.image c.has_blocks.ensures.blocks c.has_blocks.ensures.identified in (
      λ ok. absurd (not_ok c.from_residual.result c.from_residual.ensures.0 ok),
      λ both.
          let sound = sound_of form g.met.R.Record.is_form over known c.args.root.block c.args.root.level c.args.seen.now both.0 both.1 in
          let used = sound_used form over (least_of_root c.args.root.level) c.args.root.level None true c.args.root.block c.args.seen.now [] sound in
          absurd (let lie = c.in_err-in_pool.ensures.within.1 (omega (arith, used.from, c.from.ensures), omega (arith, used.below, c.from.ensures)) in cc),
    )

pub returns-clause-right : goal.returns-clause-right
returns-clause-right g c =
    let form = g.R.Record.form in
    let over = c.args.over.now in
    let known : AreKnown over = overlay_known over c.has_blocks.ensures.image c.has_blocks.ensures.blocks c.has_blocks.ensures.identified in
    let spot = c.root_spot-spot.result in
    let is = c.root_spot-spot.ensures in
    root_rules form g.met.R.Record.is_form over known c.args.root.block c.args.root.level c.args.seen.now spot.number spot.least spot.left spot.last (IsOk c.visit.result)
    is.number is.least is.left is.last (c.visit.ensures.rules [] c.new-passed.ensures)
