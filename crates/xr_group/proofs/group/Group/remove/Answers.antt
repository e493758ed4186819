-- Pairs by addresses are those of the tree by blocks.
use Rattle.std.proofs.Common.{◌<◌, length, subst, sym}
use Rattle.xr_group.proofs.AddressLemmas.{good_owned, all_read, removes_read}
use Rattle.xr_group.proofs.CallLemmas.{changes_read, parts_after}
use Rattle.xr_group.proofs.GroupPoolLemmas.{records_read}
use Rattle.xr_group.specs.Group.{ChangesGroup, GroupState, IsRunOf, records_now}
use Rattle.xr_group.specs.Parts.{group_state_of}
use Rattle.xr_group.specs.Sets.{RemovesPairs, HasPairsOf}
use Rattle.xr_group.specs.Trees.{GroupRecords, owners_part}
use Rattle.xr_kinds.specs.Reverse.{reverse_form}
use Rattle.xr_group.proofs.group.Group.remove.Goals as goal

pub remove_in-requires-clause-good : goal.remove_in-requires-clause-good
remove_in-requires-clause-good c = rw c.group_span.ensures.is (good_owned c.args.run.now c.args.owner c.args.off c.requires.run.good c.requires.owner)

pub remove_in-requires-clause-held : goal.remove_in-requires-clause-held
remove_in-requires-clause-held c =
    let g = c.self.inside in
    let mine = subst (λ (s : GroupState). IsRunOf s c.args.run.now) (sym c.self.view_is) c.requires.run in
    rw c.group_span.ensures.is
    (all_read c.args.run.now c.args.owner c.args.off g.over g.trees c.self.invariant.now_group mine
    (subst (λ (s : GroupState). HasPairsOf s c.args.run.now c.args.owner c.args.off) (sym c.self.view_is) c.requires.held))

pub remove_in-requires-clause-few : goal.remove_in-requires-clause-few
remove_in-requires-clause-few c =
    let g = c.self.inside in
    subst (λ (x : GroupRecords). length x.reverse < reverse_form.most) (records_read g.over g.trees c.self.invariant.now_group)
    (subst (λ (s : GroupState). length (records_now s).reverse < reverse_form.most) (sym c.self.view_is) c.requires.few)

pub invariant_of-self : goal.invariant_of-self
invariant_of-self c =
    let g = c.self.inside in
    parts_after g.over g.trees g.kept c.self.invariant owners_part 21 c.remove_in.new.over c.remove_in.new.trees c.remove_in.ensures.change c.remove_in.ensures.group

pub returns-clause-removed : goal.returns-clause-removed
returns-clause-removed c =
    let g = c.self.inside in
    let mine = subst (λ (s : GroupState). IsRunOf s c.args.run.now) (sym c.self.view_is) c.requires.run in
    subst (λ (s : GroupState). RemovesPairs c.args.run.now c.args.owner c.args.off s (group_state_of c.remove_in.new.over)) c.self.view_is
    (removes_read c.args.run.now c.args.owner c.args.off g.over g.trees c.self.invariant.now_group mine c.remove_in.new.over c.remove_in.new.trees
    c.remove_in.ensures.group c.remove_in.ensures.change.same_owner (rw c.group_span.ensures.is at c.remove_in.ensures.removed))

pub returns-clause-change : goal.returns-clause-change
returns-clause-change c =
    let g = c.self.inside in
    subst (λ (s : GroupState). ChangesGroup owners_part 21 s (group_state_of c.remove_in.new.over)) c.self.view_is
    (changes_read owners_part 21 g.over g.trees c.remove_in.new.over c.remove_in.new.trees c.self.invariant.now_group c.remove_in.ensures.group c.remove_in.ensures.change)
