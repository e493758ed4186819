use Rattle.std.proofs.Common.{◌∙◌, arith}
use Rattle.xr_commit.proofs.TakenItemLemmas.{all_taken, next}
use Rattle.xr_record.specs.RegionLaws.{region_read}
use Rattle.xr_commit.proofs.items.items_of.Goals as goal

pub item_at-item-requires : goal.item_at-item-requires
item_at-item-requires c =
    let are = c.requires.1 in
    let n = next are.logged c.args.regions.now c.loop-at.at c.loop-at.items.items c.at.result.now are.valid are.regions_are (c.loop-at.invariant c.requires.0 are) (rw c.len.ensures at c.loop-at-test.true) in
    (n.item, n.valid, (region_read c.args.regions.now c.loop-at.at _ c.at.ensures) ∙ n.here)

pub overflow_add-at : goal.overflow_add-at
overflow_add-at c =
    let are = c.requires.1 in
    let n = next are.logged c.args.regions.now c.loop-at.at c.loop-at.items.items c.at.result.now are.valid are.regions_are (c.loop-at.invariant c.requires.0 are) (rw c.len.ensures at c.loop-at-test.true) in
    let same = c.item_at-item.ensures n.item n.valid ((region_read c.args.regions.now c.loop-at.at _ c.at.ensures) ∙ n.here) in
    rw (c.regions_of-at.ensures, same) (omega (arith, n.within, c.len.ensures))

pub loop-at-preserved : goal.loop-at-preserved
loop-at-preserved c =
    λ given are.
    let n = next are.logged c.args.regions.now c.loop-at.at c.loop-at.items.items c.at.result.now are.valid are.regions_are (c.loop-at.invariant given are) (rw c.len.ensures at c.loop-at-test.true) in
    let same = c.item_at-item.ensures n.item n.valid ((region_read c.args.regions.now c.loop-at.at _ c.at.ensures) ∙ n.here) in
    rw (c.regions_of-at.ensures, c.in_ok-push.ensures.items, same) n.parted

pub returns-clause-only : goal.returns-clause-only
returns-clause-only c =
    λ given are. all_taken are.logged c.args.regions.now given c.loop-at.at c.loop-at.items.items are.items_are are.regions_are (c.loop-at.invariant given are) (rw c.len.ensures at c.loop-at-test.false)

pub returns-clause-are : goal.returns-clause-are
returns-clause-are c = rw (returns-clause-only c c.requires.0 c.requires.1) c.requires.1
