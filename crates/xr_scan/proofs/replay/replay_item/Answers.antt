use Rattle.std.proofs.Common.{sym}
use Rattle.xr_record.specs.RegionLaws.{region_read}
use Rattle.xr_scan.proofs.ReplayItemLemmas.{count_none, count_some, follower_fits, follower_is, follower_within}
use Rattle.xr_scan.specs.CopyLaws.{replays_one}
use Rattle.xr_scan.proofs.replay.replay_item.Goals as goal

pub returns-in_default-clause-count : goal.returns-in_default-clause-count
returns-in_default-clause-count c = sym (count_none c.args.item.now c.in_default.ensures)

pub at-requires : goal.at-requires
at-requires c = follower_within c.args.regions.now c.args.at c.args.item.now c.requires.here.0 c.requires.here.1 (count_some c.args.item.now c.in-Some.block c.in-Some.ensures)

pub lay_block-requires-clause-fits : goal.lay_block-requires-clause-fits
lay_block-requires-clause-fits c =
    follower_fits c.args.regions.now c.args.at c.args.item.now c.requires.here.0 c.at.result.now c.requires.here.1
    (follower_is c.args.regions.now c.args.at c.args.item.now c.requires.here.0 c.at.result.now c.requires.here.1
    (count_some c.args.item.now c.in-Some.block c.in-Some.ensures) (region_read c.args.regions.now _ c.at.result.now c.at.ensures))

pub returns-clause-count : goal.returns-clause-count
returns-clause-count c = sym (count_some c.args.item.now c.in-Some.block c.in-Some.ensures)

pub returns-clause-replays : goal.returns-clause-replays
returns-clause-replays c =
    λ l next. replays_one c.args.item.now l c.in-Some.block c.at.result.now c.args.blocks.now c.lay_block.new.blocks c.args.dirty.now c.lay_block.new.dirty next.item_is
    (follower_is c.args.regions.now c.args.at c.args.item.now l c.at.result.now next
    (count_some c.args.item.now c.in-Some.block c.in-Some.ensures) (region_read c.args.regions.now _ c.at.result.now c.at.ensures))
    c.in-Some.ensures c.requires.copies c.lay_block.ensures.blocks c.lay_block.ensures.dirty
