use Rattle.std.proofs.Common.{[], ◌∷◌, subst}
use Rattle.xr_items.specs.declared.item.Item.{Item}
use Rattle.xr_commit.specs.Done.{WalksOver}
use Rattle.xr_commit.proofs.PendingWalkLemmas.{alone, walked_all}
use Rattle.xr_commit.proofs.pending.walk_back.Goals as goal

pub returns : goal.returns
returns c =
    let walk = c.loop-left in
    subst (λ items. WalksOver items c.args.done.now c.args.works.now.items walk.done walk.works.items) (alone c.args.items.now)
    (walked_all (λ (item : Item). item ∷ []) walk.left c.args.items.now c.args.done.now c.args.works.now.items walk.done walk.works.items c.loop-left-test.false walk.invariant)
