use Rattle.std.proofs.Common.{◌∙◌, ◌+◌, sym, arith}
use Rattle.xr_commit.proofs.NextItemLemmas.{bad_follower, bad_here, follower_within, good_alone, good_followed, some_follow}
use Rattle.xr_record.specs.RegionLaws.{region_read}
use Rattle.xr_commit.proofs.check_items.check_item.Goals as goal

pub returns-in-Err-clause-bad : goal.returns-in-Err-clause-bad
returns-in-Err-clause-bad c = bad_here c.args.uuid.now c.args.last _ _ _ _ c.requires.within (region_read c.args.regions.now c.args.at _ c.at.ensures) c.in-Err.ensures.bad

pub returns-then-follows-eq0-clause-good : goal.returns-then-follows-eq0-clause-good
returns-then-follows-eq0-clause-good c =
    good_alone c.args.uuid.now c.args.last _ _ _ _ c.requires.within (region_read c.args.regions.now c.args.at _ c.at.ensures) c.in-Ok.ensures.good (sym c.follows.ensures ∙ c.if-follows-eq0.true)

pub overflow_add-at : goal.overflow_add-at
overflow_add-at c = let r = c.requires in omega (arith, r.within, r.small)

pub at-requires-2 : goal.at-requires-2
at-requires-2 c =
    follower_within c.args.last _ _ _ _ c.requires.within (region_read c.args.regions.now c.args.at _ c.at.ensures) c.in-Ok.ensures.good (some_follow _ _ c.follows.ensures c.if-follows-eq0.false) c.requires.parted

pub returns-in-Ok-check_follower-clause-good : goal.returns-in-Ok-check_follower-clause-good
returns-in-Ok-check_follower-clause-good c =
    let some = some_follow _ _ c.follows.ensures c.if-follows-eq0.false in
    let within = follower_within c.args.last _ _ _ _ c.requires.within (region_read c.args.regions.now c.args.at _ c.at.ensures) c.in-Ok.ensures.good some c.requires.parted in
    good_followed c.args.uuid.now c.args.last _ _ _ c.at-2.result.now _ within (region_read c.args.regions.now c.args.at _ c.at.ensures) c.in-Ok.ensures.good some (region_read c.args.regions.now (c.args.at + 1) _ c.at-2.ensures) c.in-Ok-check_follower.ensures

pub returns-in-Err-check_follower-clause-bad : goal.returns-in-Err-check_follower-clause-bad
returns-in-Err-check_follower-clause-bad c =
    let some = some_follow _ _ c.follows.ensures c.if-follows-eq0.false in
    let within = follower_within c.args.last _ _ _ _ c.requires.within (region_read c.args.regions.now c.args.at _ c.at.ensures) c.in-Ok.ensures.good some c.requires.parted in
    bad_follower c.args.uuid.now c.args.last _ _ _ c.at-2.result.now _ _ within (region_read c.args.regions.now c.args.at _ c.at.ensures) c.in-Ok.ensures.good some (region_read c.args.regions.now (c.args.at + 1) _ c.at-2.ensures) c.in-Err-check_follower.ensures
