use Rattle.std.proofs.Common.{ℕ, ◌∙◌, false, ap, sym}
use Rattle.xr_commit.specs.RegionHomes.{home_of_region}
use Rattle.xr_commit.proofs.EntryLoopLemmas.{bad_begins, items_break, loop_begins, loop_ends, loop_on, parted_at}
use Rattle.xr_commit.proofs.check_items.check_items.Goals as goal

pub loop-entry-init : goal.loop-entry-init
loop-entry-init c = loop_begins c.args.uuid.now c.args.entries.now

pub check_entry-requires : goal.check_entry-requires
check_entry-requires c =
    let known = c.requires.records in
    parted_at _ _ _ _ (c.requires.said known.0 known.1) c.loop-entry-test.true c.entry-item.is

pub block_of_region-block-requires-clause-begins : goal.block_of_region-block-requires-clause-begins
block_of_region-block-requires-clause-begins c records are =
    rw c.more_regions.ensures (bad_begins _ records _ _ _ _ _ _ _ c.loop-entry.invariant c.loop-entry-test.true c.entry-item.is c.in-Err.ensures.bad (c.requires.said records are))

pub returns-in-Err-clause-bad : goal.returns-in-Err-clause-bad
returns-in-Err-clause-bad c records are =
    items_break _ records _ _ _ _ _ _ _ _ _ c.loop-entry.invariant c.loop-entry-test.true c.entry-item.is c.in-Err.ensures.bad (c.requires.said records are)
    (ap (λ (n : ℕ). home_of_region false records n) (sym c.more_regions.ensures) ∙ c.block_of_region-block.ensures records are) c.refusal_at.ensures

pub loop-entry-preserved : goal.loop-entry-preserved
loop-entry-preserved c =
    rw c.more_regions-before.ensures (loop_on _ _ _ _ _ _ _ _ c.loop-entry.invariant c.loop-entry-test.true c.entry-item.is c.in-Ok.ensures.good c.regions_in.ensures c.regions_in.type_inv)

pub returns-clause-good : goal.returns-clause-good
returns-clause-good c = loop_ends _ _ _ _ _ c.loop-entry.invariant c.loop-entry-test.false
