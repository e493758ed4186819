-- Free blocks by addresses are those of the trees by blocks.
use Rattle.std.proofs.Common.{subst, sym}
use Rattle.xr_group.proofs.CallLemmas.{changes_read, parts_after}
use Rattle.xr_group.proofs.FreeLemmas.{gives_read, none_free_read, paired_read, paired_seen}
use Rattle.xr_group.specs.Group.{ChangesGroup, GroupState, IsRunOf}
use Rattle.xr_group.specs.Parts.{group_state_of}
use Rattle.xr_group.specs.Sets.{GivesFree, HasNoFreeOf, IsPaired}
use Rattle.xr_group.specs.Trees.{free_part}
use Rattle.xr_group.proofs.group.Group.give.Goals as goal

pub give_in-requires-clause-paired : goal.give_in-requires-clause-paired
give_in-requires-clause-paired c =
    let g = c.self.inside in
    paired_read g.over g.trees c.self.invariant.now_group (subst IsPaired (sym c.self.view_is) c.requires.paired)

pub give_in-requires-clause-taken : goal.give_in-requires-clause-taken
give_in-requires-clause-taken c =
    let g = c.self.inside in
    let mine = subst (λ (s : GroupState). IsRunOf s c.args.run.now) (sym c.self.view_is) c.requires.run in
    rw c.group_span.ensures.is
    (none_free_read c.args.run.now g.over g.trees c.self.invariant.now_group mine
    (subst (λ (s : GroupState). HasNoFreeOf s c.args.run.now) (sym c.self.view_is) c.requires.taken))

pub invariant_of-self : goal.invariant_of-self
invariant_of-self c =
    let g = c.self.inside in
    parts_after g.over g.trees g.kept c.self.invariant free_part 36 c.give_in.new.over c.give_in.new.trees c.give_in.ensures.change c.give_in.ensures.group

pub returns-clause-change : goal.returns-clause-change
returns-clause-change c =
    let g = c.self.inside in
    subst (λ (s : GroupState). ChangesGroup free_part 36 s (group_state_of c.give_in.new.over)) c.self.view_is
    (changes_read free_part 36 g.over g.trees c.give_in.new.over c.give_in.new.trees c.self.invariant.now_group c.give_in.ensures.group c.give_in.ensures.change)

pub returns-clause-paired : goal.returns-clause-paired
returns-clause-paired c = paired_seen c.give_in.new.over c.give_in.new.trees c.give_in.ensures.group c.give_in.ensures.paired

pub returns-clause-given : goal.returns-clause-given
returns-clause-given c =
    let g = c.self.inside in
    let mine = subst (λ (s : GroupState). IsRunOf s c.args.run.now) (sym c.self.view_is) c.requires.run in
    subst (λ (s : GroupState). GivesFree c.args.run.now s (group_state_of c.give_in.new.over)) c.self.view_is
    (gives_read c.args.run.now g.over g.trees c.self.invariant.now_group mine c.give_in.new.over c.give_in.new.trees
    c.give_in.ensures.group c.give_in.ensures.change.same_owner (rw c.group_span.ensures.is at c.give_in.ensures.given))
