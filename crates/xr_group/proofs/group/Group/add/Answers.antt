-- Pairs by addresses are those of the tree by blocks.
use Rattle.std.proofs.Common.{◌<◌, length, subst, sym}
use Rattle.xr_group.proofs.AddressLemmas.{good_owned, none_read, adds_read}
use Rattle.xr_group.proofs.CallLemmas.{changes_read, parts_after}
use Rattle.xr_group.proofs.GroupPoolLemmas.{records_read}
use Rattle.xr_group.specs.Group.{ChangesGroup, GroupState, IsRunOf, records_now}
use Rattle.xr_group.specs.Parts.{group_state_of}
use Rattle.xr_group.specs.Sets.{AddsPairs, HasNoPairOf}
use Rattle.xr_group.specs.Trees.{GroupRecords, owners_part}
use Rattle.xr_kinds.specs.Reverse.{reverse_form}
use Rattle.xr_group.proofs.group.Group.add.Goals as goal

pub add_in-requires-clause-good : goal.add_in-requires-clause-good
add_in-requires-clause-good c = rw c.group_span.ensures.is (good_owned c.args.run.now c.args.owner c.args.off c.requires.run.good c.requires.owner)

pub add_in-requires-clause-alone : goal.add_in-requires-clause-alone
add_in-requires-clause-alone c =
    let g = c.self.inside in
    let mine = subst (λ (s : GroupState). IsRunOf s c.args.run.now) (sym c.self.view_is) c.requires.run in
    rw c.group_span.ensures.is
    (none_read c.args.run.now c.args.owner c.args.off g.over g.trees c.self.invariant.now_group mine
    (subst (λ (s : GroupState). HasNoPairOf s c.args.run.now c.args.owner c.args.off) (sym c.self.view_is) c.requires.alone))

pub add_in-requires-clause-few : goal.add_in-requires-clause-few
add_in-requires-clause-few c =
    let g = c.self.inside in
    subst (λ (x : GroupRecords). length x.reverse < reverse_form.most) (records_read g.over g.trees c.self.invariant.now_group)
    (subst (λ (s : GroupState). length (records_now s).reverse < reverse_form.most) (sym c.self.view_is) c.requires.few)

pub invariant_of-self : goal.invariant_of-self
invariant_of-self c =
    let g = c.self.inside in
    parts_after g.over g.trees g.kept c.self.invariant owners_part 21 c.add_in.new.over c.add_in.new.trees c.add_in.ensures.change c.add_in.ensures.group

pub returns-clause-added : goal.returns-clause-added
returns-clause-added c =
    let g = c.self.inside in
    let mine = subst (λ (s : GroupState). IsRunOf s c.args.run.now) (sym c.self.view_is) c.requires.run in
    subst (λ (s : GroupState). AddsPairs c.args.run.now c.args.owner c.args.off s (group_state_of c.add_in.new.over)) c.self.view_is
    (adds_read c.args.run.now c.args.owner c.args.off g.over g.trees c.self.invariant.now_group mine c.add_in.new.over c.add_in.new.trees
    c.add_in.ensures.group c.add_in.ensures.change.same_owner (rw c.group_span.ensures.is at c.add_in.ensures.added))

pub returns-clause-change : goal.returns-clause-change
returns-clause-change c =
    let g = c.self.inside in
    subst (λ (s : GroupState). ChangesGroup owners_part 21 s (group_state_of c.add_in.new.over)) c.self.view_is
    (changes_read owners_part 21 g.over g.trees c.add_in.new.over c.add_in.new.trees c.self.invariant.now_group c.add_in.ensures.group c.add_in.ensures.change)
