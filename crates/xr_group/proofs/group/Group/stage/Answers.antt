-- Counts by addresses are those of the tree by blocks.
use Rattle.std.proofs.Common.{false, sym, subst}
use Rattle.xr_group.proofs.CallLemmas.{changes_read, parts_after}
use Rattle.xr_group.proofs.CountLemmas.{part_read, stages_read}
use Rattle.xr_group.specs.Group.{ChangesGroup, GroupState, IsRunOf}
use Rattle.xr_group.specs.Parts.{group_state_of}
use Rattle.xr_group.specs.Sets.{AreCountedIn, StagesAddresses}
use Rattle.xr_group.specs.Trees.{counts_part}
use Rattle.xr_group.proofs.group.Group.stage.Goals as goal

pub stage_in-requires-clause-alone : goal.stage_in-requires-clause-alone
stage_in-requires-clause-alone c =
    let g = c.self.inside in
    let mine = subst (λ (s : GroupState). IsRunOf s c.args.run.now) (sym c.self.view_is) c.requires.run in
    rw c.group_span.ensures.is
    (part_read c.args.run.now g.over g.trees c.self.invariant.now_group mine 1 false
    (subst (λ (s : GroupState). AreCountedIn s c.args.run.now 1 false) (sym c.self.view_is) c.requires.alone))

pub invariant_of-self : goal.invariant_of-self
invariant_of-self c =
    let g = c.self.inside in
    parts_after g.over g.trees g.kept c.self.invariant counts_part 15 c.stage_in.new.over c.stage_in.new.trees c.stage_in.ensures.change c.stage_in.ensures.group

pub returns-clause-change : goal.returns-clause-change
returns-clause-change c =
    let g = c.self.inside in
    subst (λ (s : GroupState). ChangesGroup counts_part 15 s (group_state_of c.stage_in.new.over)) c.self.view_is
    (changes_read counts_part 15 g.over g.trees c.stage_in.new.over c.stage_in.new.trees c.self.invariant.now_group c.stage_in.ensures.group c.stage_in.ensures.change)

pub returns-clause-staged : goal.returns-clause-staged
returns-clause-staged c =
    let g = c.self.inside in
    let mine = subst (λ (s : GroupState). IsRunOf s c.args.run.now) (sym c.self.view_is) c.requires.run in
    subst (λ (s : GroupState). StagesAddresses c.args.run.now s (group_state_of c.stage_in.new.over)) c.self.view_is
    (stages_read c.args.run.now g.over g.trees c.self.invariant.now_group mine c.stage_in.new.over c.stage_in.new.trees
    c.stage_in.ensures.group c.stage_in.ensures.change.same_owner (rw c.group_span.ensures.is at c.stage_in.ensures.staged))
