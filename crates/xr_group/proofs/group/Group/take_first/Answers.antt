-- What is taken of the overlay and its trees is taken of the group.
use Rattle.std.proofs.Common.{◌≡◌, ◌↔◌, ℕ, false, ap, subst, sym, ◌∙◌}
use Rattle.std.proofs.lemmas.Option.{IfSome_then}
use Rattle.std.specs.Prelude.{IsNone}
use Rattle.xr_group.proofs.CallLemmas.{changes_read, parts_after}
use Rattle.xr_group.specs.Group.{ChangesGroup, GroupState}
use Rattle.xr_group.specs.Parts.{group_state_of}
use Rattle.xr_group.specs.Sets.{IsFirstFree, IsPaired, TakesFree, has_free}
use Rattle.xr_group.specs.Trees.{free_part}
use Rattle.xr_group.proofs.group.Group.take_first.Goals as goal

pub take_run-requires-clause-paired : goal.take_run-requires-clause-paired
take_run-requires-clause-paired c = subst IsPaired (sym c.self.view_is) c.requires.paired

pub invariant_of-self : goal.invariant_of-self
invariant_of-self c =
    let g = c.self.inside in
    parts_after g.over g.trees g.kept c.self.invariant free_part 22 c.take_run.new.over c.take_run.new.trees c.take_run.ensures.change c.take_run.ensures.group

pub returns-clause-change : goal.returns-clause-change
returns-clause-change c =
    let g = c.self.inside in
    subst (λ (s : GroupState). ChangesGroup free_part 22 s (group_state_of c.take_run.new.over)) c.self.view_is
    (changes_read free_part 22 g.over g.trees c.take_run.new.over c.take_run.new.trees c.self.invariant.now_group c.take_run.ensures.group c.take_run.ensures.change)

pub returns-clause-none : goal.returns-clause-none
returns-clause-none c =
    subst (λ (s : GroupState). IsNone c.take_run.result ↔ ((a : ℕ) → has_free s a ≡ false)) c.self.view_is c.take_run.ensures.none

pub returns-clause-same : goal.returns-clause-same
returns-clause-same c none = ap group_state_of (c.take_run.ensures.same none) ∙ c.self.view_is

pub returns-clause-first : goal.returns-clause-first
returns-clause-first c =
    IfSome_then c.take_run.result c.take_run.ensures.first (λ run first. subst (λ (s : GroupState). IsFirstFree s c.args.need run) c.self.view_is first)

pub returns-clause-taken : goal.returns-clause-taken
returns-clause-taken c =
    IfSome_then c.take_run.result c.take_run.ensures.taken
    (λ run taken. subst (λ (s : GroupState). TakesFree run s (group_state_of c.take_run.new.over)) c.self.view_is taken)
