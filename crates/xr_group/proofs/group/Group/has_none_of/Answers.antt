-- Pairs by addresses are those of the tree by blocks.
use Rattle.std.proofs.Common.{subst, sym}
use Rattle.xr_group.proofs.AddressLemmas.{good_owned, none_read}
use Rattle.xr_group.proofs.RunTestLemmas.{none_seen}
use Rattle.xr_group.specs.Group.{GroupState, IsRunOf}
use Rattle.xr_group.specs.Sets.{HasNoPairOf}
use Rattle.xr_group.proofs.group.Group.has_none_of.Goals as goal

pub has_none_of-requires-clause-good : goal.has_none_of-requires-clause-good
has_none_of-requires-clause-good c = rw c.group_span-blocks.ensures.is (good_owned c.args.run.now c.args.owner c.args.off c.requires.run.good c.requires.owner)

pub returns : goal.returns
returns c =
    let g = c.self.inside in
    let h = c.self.invariant.now_group in
    let run = c.args.run.now in
    let mine = subst (λ (s : GroupState). IsRunOf s run) (sym c.self.view_is) c.requires.run in
    let told = rw c.group_span-blocks.ensures.is at c.has_none_of.ensures in (
      λ is. subst (λ (s : GroupState). HasNoPairOf s run c.args.owner c.args.off) c.self.view_is
          (none_seen run g.over g.trees h mine c.args.owner c.args.off (told.0 is)),
      λ all. told.1 (none_read run c.args.owner c.args.off g.over g.trees h mine
          (subst (λ (s : GroupState). HasNoPairOf s run c.args.owner c.args.off) (sym c.self.view_is) all)),
    )
