-- Counts by addresses are those of the tree by blocks.
use Rattle.std.proofs.Common.{ℕ, ◌<◌, sym, subst}
use Rattle.xr_group.proofs.CallLemmas.{changes_read, parts_after}
use Rattle.xr_group.proofs.CountLemmas.{alike_read, raises_read, start_count}
use Rattle.xr_group.specs.Group.{ChangesGroup, GroupState, IsRunOf}
use Rattle.xr_group.specs.Parts.{group_state_of}
use Rattle.xr_group.specs.Sets.{AreOwnedAlikeIn, RaisesCounts, owner_count_in}
use Rattle.xr_group.specs.Trees.{counts_part}
use Rattle.xr_group.proofs.group.Group.raise_run.Goals as goal

pub raise_in-requires-clause-alike : goal.raise_in-requires-clause-alike
raise_in-requires-clause-alike c =
    let g = c.self.inside in
    let mine = subst (λ (s : GroupState). IsRunOf s c.args.run.now) (sym c.self.view_is) c.requires.run in
    rw c.group_span.ensures.is
    (alike_read c.args.run.now g.over g.trees c.self.invariant.now_group mine
    (subst (λ (s : GroupState). AreOwnedAlikeIn s c.args.run.now) (sym c.self.view_is) c.requires.alike))

pub raise_in-requires-clause-below : goal.raise_in-requires-clause-below
raise_in-requires-clause-below c =
    let g = c.self.inside in
    let mine = subst (λ (s : GroupState). IsRunOf s c.args.run.now) (sym c.self.view_is) c.requires.run in
    rw c.group_span.ensures.is
    (subst (λ (n : ℕ). n < 32768) (start_count c.args.run.now g.over g.trees c.self.invariant.now_group mine)
    (subst (λ (s : GroupState). owner_count_in s c.args.run.now.start.0 < 32768) (sym c.self.view_is) c.requires.below))

pub invariant_of-self : goal.invariant_of-self
invariant_of-self c =
    let g = c.self.inside in
    parts_after g.over g.trees g.kept c.self.invariant counts_part 22 c.raise_in.new.over c.raise_in.new.trees c.raise_in.ensures.change c.raise_in.ensures.group

pub returns-clause-change : goal.returns-clause-change
returns-clause-change c =
    let g = c.self.inside in
    subst (λ (s : GroupState). ChangesGroup counts_part 22 s (group_state_of c.raise_in.new.over)) c.self.view_is
    (changes_read counts_part 22 g.over g.trees c.raise_in.new.over c.raise_in.new.trees c.self.invariant.now_group c.raise_in.ensures.group c.raise_in.ensures.change)

pub returns-clause-raised : goal.returns-clause-raised
returns-clause-raised c =
    let g = c.self.inside in
    let mine = subst (λ (s : GroupState). IsRunOf s c.args.run.now) (sym c.self.view_is) c.requires.run in
    subst (λ (s : GroupState). RaisesCounts c.args.run.now s (group_state_of c.raise_in.new.over)) c.self.view_is
    (raises_read c.args.run.now g.over g.trees c.self.invariant.now_group mine c.raise_in.new.over c.raise_in.new.trees
    c.raise_in.ensures.group c.raise_in.ensures.change.same_owner (rw c.group_span.ensures.is at c.raise_in.ensures.raised))
