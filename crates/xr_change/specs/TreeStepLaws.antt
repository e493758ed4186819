-- A change of a tree is a step of it, with a record more, a record less or another in the place of one, and steps of a tree follow
-- each other.
use Rattle.std.proofs.Common.{List, sym, subst, arith}
use Rattle.std.specs.List.{Contains}
use Rattle.xr_block.specs.FrameLaws.{then_changes}
use Rattle.xr_block.specs.Trees.{blocks_of_tree, records_of_tree}
use Rattle.xr_change.specs.SetLaws.{inserted_gains, removed_loses, replaced_swaps}
use Rattle.xr_change.specs.Sets.{Gains, Loses, Swaps}
use Rattle.xr_change.specs.TreeSteps.{ChangesAreSteps, InsertionIsGain, IsRecordOf, RemovalIsLoss, ReplacementIsSwap, TreeStepsFollow}
use Rattle.xr_kinds.specs.Form.{Form, IsForm}

pub tree_steps_follow : {X : Type 0} (form : Form X) → TreeStepsFollow form
tree_steps_follow form a b c s t u m n v w one two = record {
  tree = two.tree;
  frame = then_changes a b c (blocks_of_tree form a s) (blocks_of_tree form b t) (blocks_of_tree form c u) one.frame two.frame;
  room = omega (arith, one.room, two.room);
  changed = omega (arith, one.changed, two.changed);
}

pub changes_are_steps : {X : Type 0} (form : Form X) → ChangesAreSteps form
changes_are_steps form a old b new change most writes step room few =
    record { tree = step.tree; frame = step.frame; room = room; changed = omega (arith, step.changed, few) }

pub insertion_is_gain : {X : Type 0} (form : Form X) → InsertionIsGain form
insertion_is_gain {X} form a old b new r step =
    subst (λ (xs : List X). Gains (IsRecordOf form a old) r (Contains xs)) (sym step.set) (inserted_gains form.order r (records_of_tree form a old))

pub removal_is_loss : {X : Type 0} (form : Form X) → IsForm form → RemovalIsLoss form
removal_is_loss {X} form laws a old b new r tree held step =
    subst (λ (xs : List X). Loses (IsRecordOf form a old) r (Contains xs)) (sym step.set)
    (removed_loses form.order laws.total r (records_of_tree form a old) tree.records.ascend held)

pub replacement_is_swap : {X : Type 0} (form : Form X) → IsForm form → ReplacementIsSwap form
replacement_is_swap {X} form laws a old b new r s tree held step =
    subst (λ (xs : List X). Swaps (IsRecordOf form a old) r s (Contains xs)) (sym step.set)
    (replaced_swaps form.order laws.total r s (records_of_tree form a old) tree.records.ascend held)
