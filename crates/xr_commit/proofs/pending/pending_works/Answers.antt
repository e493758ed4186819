use Rattle.std.proofs.Common.{[], ◌∙◌}
use Rattle.std.specs.Global.{Vec}
use Rattle.xr_items.specs.declared.item.Item.{Item}
use Rattle.xr_commit.specs.Pending.{joined_items}
use Rattle.xr_commit.proofs.PendingWalkLemmas.{walk_ends, walked_all}
use Rattle.xr_commit.proofs.pending.pending_works.Goals as goal

pub returns : goal.returns
returns c =
    let walk = c.loop-left in
    let lists = c.args.lists.now in
    c.reverse.ensures.items
    ∙ walk_ends (joined_items lists) walk.done walk.works.items
    (walked_all (λ (list : Vec Item). list.items) walk.left lists c.no_ids-done.result [] walk.done walk.works.items c.loop-left-test.false (rw c.new-works.ensures.items at walk.invariant) [] c.no_ids-done.ensures)
