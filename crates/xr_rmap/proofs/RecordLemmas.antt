-- Which records of owners may come into a tree, alone or in the place of another, and what a change of the tree leaves.
use Rattle.std.proofs.Common.{◌≡◌, ◌≢◌, ℕ, ◌+◌, ◌<◌, ◌≤◌, true, false, List, length, arith}
use Rattle.std.proofs.lemmas.Bool.{cases_Bool}
use Rattle.std.proofs.lemmas.Bool.Decides.{nat_tests}
use Rattle.std.proofs.lemmas.Cmp.{tied_itself}
use Rattle.std.specs.List.{Contains}
use Rattle.std.specs.Ordering.{is_eq}
use Rattle.std.specs.declared.cmp.Ordering.TheVariants.{Equal}
use Rattle.xr_block.specs.Tree.{AreRecords}
use Rattle.xr_block.specs.Trees.{IsTree}
use Rattle.xr_block.specs.declared.root.Root.{Root}
use Rattle.xr_change.specs.Calls.{ChangesTree}
use Rattle.xr_change.specs.SetLaws.{inserted_rules, is_equal, replaced_rules, tied_keeps_place}
use Rattle.xr_change.specs.Sets.{inserted, replaced}
use Rattle.xr_change.specs.TreeStepLaws.{changes_are_steps}
use Rattle.xr_change.specs.TreeSteps.{IsTreeStep}
use Rattle.xr_kinds.specs.Reverse.{is_reverse, reverse_form}
use Rattle.xr_kinds.specs.ReverseLaws.{is_reverse_form}
use Rattle.xr_kinds.specs.declared.reverse.Reverse.{Reverse}
use Rattle.xr_pool.specs.Overlay.{Blocks, free_count}
use Rattle.xr_tree.specs.SmallTreeLaws.{reverse_trees}

-- what agrees has another place in the order
tied_keys : (x r : Reverse) → reverse_form.order x r ≡ Equal → (x.start ≡ r.start) × (x.owner ≡ r.owner) × (x.off ≡ r.off)
tied_keys x r tied = (grind (arith, nat_tests), grind (arith, nat_tests), grind (arith, nat_tests))

not_tied : (x r : Reverse) → reverse_form.agree x r ≡ true → reverse_form.order x r ≢ Equal
not_tied x r agree tied = let keys = tied_keys x r tied in grind (arith, nat_tests, keys)

untied : (x r : Reverse) → reverse_form.agree x r ≡ true → is_eq (reverse_form.order x r) ≡ false
untied x r agree = grind (arith, cases_Bool (is_eq (reverse_form.order x r)), is_equal (reverse_form.order x r), not_tied x r agree)

module _ (xs : List Reverse) (rules : AreRecords reverse_form xs) where
  pub inserted_owners : (r : Reverse) → is_reverse r ≡ true → ((x : Reverse) → Contains xs x → reverse_form.agree x r ≡ true)
      → length xs < reverse_form.most → AreRecords reverse_form (inserted reverse_form.order r xs)
  inserted_owners r good fits few =
      inserted_rules reverse_form is_reverse_form xs r rules (record {
        valid = good;
        other = λ x within. untied x r (fits x within);
        agree = fits;
        few = few;
      })

  pub replaced_owners : (old new : Reverse) → Contains xs old → is_reverse new ≡ true
      → ((x : Reverse) → Contains xs x → x ≢ old → reverse_form.agree x new ≡ true)
      → new.start ≡ old.start → new.owner ≡ old.owner → new.off ≡ old.off → AreRecords reverse_form (replaced reverse_form.order old new xs)
  replaced_owners old new held good fits start owner off =
      let tied : reverse_form.order old new ≡ Equal = rw (start, owner, off) (tied_itself is_reverse_form.total old) in
      replaced_rules reverse_form is_reverse_form xs old new rules (record {
        held = held;
        valid = good;
        place = tied_keeps_place reverse_form.order is_reverse_form.total xs old new tied;
        agree = fits;
      })

-- a change writes at most ten blocks, since the tree has at most three levels
pub change_step : (a : Blocks) (old : Root) (b : Blocks) (new : Root) (change : List Reverse → List Reverse) (most : ℕ) → IsTree reverse_form a old
    → ChangesTree reverse_form a old b new change → free_count a ≤ free_count b + most → IsTreeStep reverse_form a old b new most 10
change_step a old b new change most tree step room =
    let small = reverse_trees a old tree in
    changes_are_steps reverse_form a old b new change most 10 step room (omega (arith, small.few_levels))
