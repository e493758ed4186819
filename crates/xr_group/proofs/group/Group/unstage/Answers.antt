-- Counts by addresses are those of the tree by blocks.
use Rattle.std.proofs.Common.{sym, subst}
use Rattle.xr_group.proofs.CallLemmas.{changes_read, parts_after}
use Rattle.xr_group.proofs.CountLemmas.{staged_part_read, unstages_read}
use Rattle.xr_group.specs.Group.{ChangesGroup, GroupState, IsRunOf}
use Rattle.xr_group.specs.Parts.{group_state_of}
use Rattle.xr_group.specs.Sets.{AreStagedIn, UnstagesAddresses}
use Rattle.xr_group.specs.Trees.{counts_part}
use Rattle.xr_group.proofs.group.Group.unstage.Goals as goal

pub unstage_in-requires-clause-staged : goal.unstage_in-requires-clause-staged
unstage_in-requires-clause-staged c =
    let g = c.self.inside in
    let mine = subst (λ (s : GroupState). IsRunOf s c.args.run.now) (sym c.self.view_is) c.requires.run in
    rw c.group_span.ensures.is
    (staged_part_read c.args.run.now g.over g.trees c.self.invariant.now_group mine
    (subst (λ (s : GroupState). AreStagedIn s c.args.run.now) (sym c.self.view_is) c.requires.staged))

pub invariant_of-self : goal.invariant_of-self
invariant_of-self c =
    let g = c.self.inside in
    parts_after g.over g.trees g.kept c.self.invariant counts_part 15 c.unstage_in.new.over c.unstage_in.new.trees c.unstage_in.ensures.change c.unstage_in.ensures.group

pub returns-clause-change : goal.returns-clause-change
returns-clause-change c =
    let g = c.self.inside in
    subst (λ (s : GroupState). ChangesGroup counts_part 15 s (group_state_of c.unstage_in.new.over)) c.self.view_is
    (changes_read counts_part 15 g.over g.trees c.unstage_in.new.over c.unstage_in.new.trees c.self.invariant.now_group c.unstage_in.ensures.group c.unstage_in.ensures.change)

pub returns-clause-unstaged : goal.returns-clause-unstaged
returns-clause-unstaged c =
    let g = c.self.inside in
    let mine = subst (λ (s : GroupState). IsRunOf s c.args.run.now) (sym c.self.view_is) c.requires.run in
    subst (λ (s : GroupState). UnstagesAddresses c.args.run.now s (group_state_of c.unstage_in.new.over)) c.self.view_is
    (unstages_read c.args.run.now g.over g.trees c.self.invariant.now_group mine c.unstage_in.new.over c.unstage_in.new.trees
    c.unstage_in.ensures.group c.unstage_in.ensures.change.same_owner (rw c.group_span.ensures.is at c.unstage_in.ensures.unstaged))
