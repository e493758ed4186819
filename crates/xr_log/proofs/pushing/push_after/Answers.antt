use Rattle.std.proofs.Common.{List, ℕ, arith, subst}
use Rattle.xr_log.specs.Filling.{HasSpaceFor, fill_of, filled_regions}
use Rattle.xr_log.specs.TransactionItems.{logged_of}
use Rattle.xr_log.specs.TransactionPushes.{region_after}
use Rattle.xr_log.proofs.FillLemmas.{block_within, following_most}
use Rattle.xr_log.proofs.TransactionPushLemmas.{after_long, none_after, none_pushed, one_pushed, some_after}
use Rattle.xr_log.proofs.pushing.push_after.Goals as goal

pub image_front-requires-clause-within : goal.image_front-requires-clause-within
image_front-requires-clause-within g c =
    block_within c.args.blocks.now c.args.planned.now c.requires.whole (omega (arith, c.follows-more.ensures, c.if-more-eq0.false))

pub image_front-requires-clause-most : goal.image_front-requires-clause-most
image_front-requires-clause-most g c = omega (arith, following_most c.args.planned.now.item, c.follows-more.ensures)

pub push_region-requires-clause-some : goal.push_region-requires-clause-some
push_region-requires-clause-some g c =
    let long = after_long c.args.blocks.now c.args.planned.now c.follows-more.result c.image_front.result.now c.follows-more.ensures c.image_front.ensures c.requires.whole in
    omega (arith, long, c.if-more-eq0.false)

pub push_region-requires-clause-most : goal.push_region-requires-clause-most
push_region-requires-clause-most g c =
    let long = after_long c.args.blocks.now c.args.planned.now c.follows-more.result c.image_front.result.now c.follows-more.ensures c.image_front.ensures c.requires.whole in
    omega (arith, long, following_most c.args.planned.now.item, c.follows-more.ensures)

pub push_region-requires-clause-space : goal.push_region-requires-clause-space
push_region-requires-clause-space g c =
    subst (λ (regions : List (List ℕ)). HasSpaceFor c.args.held.now (filled_regions regions (fill_of c.args.held.now)))
    (some_after c.args.blocks.now c.args.planned.now c.follows-more.result c.image_front.result.now c.follows-more.ensures c.if-more-eq0.false c.image_front.ensures)
    c.requires.space

pub returns-then-more-eq0 : goal.returns-then-more-eq0
returns-then-more-eq0 g c =
    none_pushed (g.D.Disk.view c.args.disk.now) c.args.held.now c.args.tid tt (region_after (logged_of c.args.blocks.now c.args.planned.now)) c.requires.up
    (none_after (logged_of c.args.blocks.now c.args.planned.now) c.follows-more.result c.follows-more.ensures c.if-more-eq0.true)

pub returns-else-more-eq0 : goal.returns-else-more-eq0
returns-else-more-eq0 g c =
    one_pushed (g.D.Disk.view c.args.disk.now) (g.D.Disk.view c.push_region.new.disk) c.args.held.now c.push_region.new.held c.args.tid c.image_front.result.now
    (region_after (logged_of c.args.blocks.now c.args.planned.now)) c.push_region.result
    (some_after c.args.blocks.now c.args.planned.now c.follows-more.result c.image_front.result.now c.follows-more.ensures c.if-more-eq0.false c.image_front.ensures)
    c.push_region.ensures.runs c.push_region.ensures.kept c.push_region.ensures.fills c.push_region.ensures.limit c.push_region.ensures.step
