-- Free blocks by addresses are those of the trees by blocks.
use Rattle.std.proofs.Common.{subst, sym}
use Rattle.xr_group.proofs.FreeLemmas.{none_free_read}
use Rattle.xr_group.proofs.RunTestLemmas.{none_free_seen}
use Rattle.xr_group.specs.Group.{GroupState, IsRunOf}
use Rattle.xr_group.specs.Sets.{HasNoFreeOf}
use Rattle.xr_group.proofs.group.Group.has_none_free.Goals as goal

pub returns : goal.returns
returns c =
    let g = c.self.inside in
    let h = c.self.invariant.now_group in
    let run = c.args.run.now in
    let mine = subst (λ (s : GroupState). IsRunOf s run) (sym c.self.view_is) c.requires in
    let told = rw c.group_span.ensures.is at c.has_none_free_in.ensures in (
      λ is. subst (λ (s : GroupState). HasNoFreeOf s run) c.self.view_is (none_free_seen run g.over g.trees h mine (told.0 is)),
      λ none. told.1 (none_free_read run g.over g.trees h mine (subst (λ (s : GroupState). HasNoFreeOf s run) (sym c.self.view_is) none)),
    )
