-- The free blocks by addresses are those of the trees by blocks.
use Rattle.std.proofs.Common.{ℕ, subst, sym}
use Rattle.xr_group.proofs.FreeLemmas.{front_read, no_free_read, no_free_seen, paired_read, paired_seen, taken_read}
use Rattle.xr_group.specs.Sets.{run_at}
use Rattle.xr_group.specs.Parts.{group_state_of}
use Rattle.xr_group.specs.Sets.{IsFirstFree, TakesFree}
use Rattle.xr_group.proofs.space.take_run.Goals as goal

pub take_in-requires-clause-paired : goal.take_in-requires-clause-paired
take_in-requires-clause-paired c = paired_read c.args.over.now c.args.trees.now c.requires.group c.requires.paired

pub returns-in-Some-clause-paired : goal.returns-in-Some-clause-paired
returns-in-Some-clause-paired c = paired_seen c.take_in.new.over c.take_in.new.trees c.take_in.ensures.group c.take_in.ensures.paired

pub returns-in-Some-clause-none : goal.returns-in-Some-clause-none
returns-in-Some-clause-none c = (
  λ is. no_free_seen c.args.over.now c.args.trees.now c.requires.group (c.in-Some.ensures.none.0 is),
  λ none. c.in-Some.ensures.none.1 (no_free_read c.args.over.now c.args.trees.now c.requires.group none),
)

pub returns-in-Some-clause-first : goal.returns-in-Some-clause-first
returns-in-Some-clause-first c =
    rw c.run_at.ensures
    (subst (λ (n : ℕ). IsFirstFree (group_state_of c.args.over.now) c.args.need (run_at n c.in-Some.run')) (sym c.take_in.ensures.change.same_owner)
    (front_read c.args.over.now c.args.trees.now c.requires.group c.args.need c.in-Some.run' c.in-Some.ensures.good c.in-Some.ensures.front))

pub returns-in-Some-clause-taken : goal.returns-in-Some-clause-taken
returns-in-Some-clause-taken c =
    rw c.run_at.ensures
    (subst (λ (n : ℕ). TakesFree (run_at n c.in-Some.run') (group_state_of c.args.over.now) (group_state_of c.take_in.new.over)) (sym c.take_in.ensures.change.same_owner)
    (taken_read c.args.over.now c.args.trees.now c.requires.group c.args.need c.in-Some.run' c.in-Some.ensures.good c.in-Some.ensures.front
    c.take_in.new.over c.take_in.new.trees c.take_in.ensures.group c.take_in.ensures.change.same_owner c.in-Some.ensures.taken))

pub returns-in-None-clause-paired : goal.returns-in-None-clause-paired
returns-in-None-clause-paired c = paired_seen c.take_in.new.over c.take_in.new.trees c.take_in.ensures.group c.take_in.ensures.paired

pub returns-in-None-clause-none : goal.returns-in-None-clause-none
returns-in-None-clause-none c = (
  λ is. no_free_seen c.args.over.now c.args.trees.now c.requires.group (c.in-None.ensures.none.0 is),
  λ none. c.in-None.ensures.none.1 (no_free_read c.args.over.now c.args.trees.now c.requires.group none),
)
