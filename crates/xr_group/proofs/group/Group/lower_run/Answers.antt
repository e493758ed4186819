-- Counts by addresses are those of the tree by blocks.
use Rattle.std.proofs.Common.{ℕ, ◌==◌, ap, sym, subst, ◌∙◌}
use Rattle.xr_group.proofs.CallLemmas.{changes_read, parts_after}
use Rattle.xr_group.proofs.CountLemmas.{alike_read, lowers_read, start_count}
use Rattle.xr_group.specs.Group.{ChangesGroup, GroupState, IsRunOf}
use Rattle.xr_group.specs.Parts.{group_state_of}
use Rattle.xr_group.specs.Sets.{AreOwnedAlikeIn, LowersCounts, owner_count_in}
use Rattle.xr_group.specs.Trees.{counts_part}
use Rattle.xr_group.proofs.group.Group.lower_run.Goals as goal

pub lower_in-requires-clause-alike : goal.lower_in-requires-clause-alike
lower_in-requires-clause-alike c =
    let g = c.self.inside in
    let mine = subst (λ (s : GroupState). IsRunOf s c.args.run.now) (sym c.self.view_is) c.requires.run in
    rw c.group_span.ensures.is
    (alike_read c.args.run.now g.over g.trees c.self.invariant.now_group mine
    (subst (λ (s : GroupState). AreOwnedAlikeIn s c.args.run.now) (sym c.self.view_is) c.requires.alike))

pub invariant_of-self : goal.invariant_of-self
invariant_of-self c =
    let g = c.self.inside in
    parts_after g.over g.trees g.kept c.self.invariant counts_part 22 c.lower_in.new.over c.lower_in.new.trees c.lower_in.ensures.change c.lower_in.ensures.group

pub returns-clause-change : goal.returns-clause-change
returns-clause-change c =
    let g = c.self.inside in
    subst (λ (s : GroupState). ChangesGroup counts_part 22 s (group_state_of c.lower_in.new.over)) c.self.view_is
    (changes_read counts_part 22 g.over g.trees c.lower_in.new.over c.lower_in.new.trees c.self.invariant.now_group c.lower_in.ensures.group c.lower_in.ensures.change)

pub returns-clause-lowered : goal.returns-clause-lowered
returns-clause-lowered c changed =
    let g = c.self.inside in
    let mine = subst (λ (s : GroupState). IsRunOf s c.args.run.now) (sym c.self.view_is) c.requires.run in
    subst (λ (s : GroupState). LowersCounts c.args.run.now s (group_state_of c.lower_in.new.over)) c.self.view_is
    (lowers_read c.args.run.now g.over g.trees c.self.invariant.now_group mine c.lower_in.new.over c.lower_in.new.trees
    c.lower_in.ensures.group c.lower_in.ensures.change.same_owner (rw c.group_span.ensures.is at (c.lower_in.ensures.lowered changed)))

pub returns-clause-freed : goal.returns-clause-freed
returns-clause-freed c =
    let g = c.self.inside in
    let mine = subst (λ (s : GroupState). IsRunOf s c.args.run.now) (sym c.self.view_is) c.requires.run in
    c.lower_in.ensures.freed
    ∙ ap (λ (n : ℕ). n == 1) (rw c.group_span.ensures.is (sym (start_count c.args.run.now g.over g.trees c.self.invariant.now_group mine)))
    ∙ ap (λ (s : GroupState). owner_count_in s c.args.run.now.start.0 == 1) c.self.view_is

pub returns-clause-same : goal.returns-clause-same
returns-clause-same c freed = ap group_state_of (c.lower_in.ensures.same freed) ∙ c.self.view_is
