-- Which extents may come into a tree, alone or in the place of another, and what a change of the tree leaves.
use Rattle.std.proofs.Common.{◌≡◌, ◌≢◌, ℕ, ◌+◌, ◌<◌, ◌≤◌, true, false, List, [], ◌∷◌, length, map, get_or, sym, ◌∙◌, arith}
use Rattle.std.proofs.lemmas.Bool.{cases_Bool}
use Rattle.std.proofs.lemmas.Bool.Decides.{nat_tests}
use Rattle.std.proofs.lemmas.Cmp.{tied_itself}
use Rattle.std.proofs.lemmas.List.{get_or-map, length-map}
use Rattle.std.specs.List.{Contains}
use Rattle.std.specs.Ordering.{is_eq}
use Rattle.std.specs.declared.cmp.Ordering.TheVariants.{Equal, Less}
use Rattle.xr_block.specs.TimesLaws.{few_of}
use Rattle.xr_block.specs.Tree.{AreRecords}
use Rattle.xr_block.specs.Trees.{IsTree}
use Rattle.xr_block.specs.declared.root.Root.{Root}
use Rattle.xr_bmap.specs.SlotLaws.{valid_in}
use Rattle.xr_change.specs.Calls.{ChangesTree}
use Rattle.xr_change.specs.SetLaws.{inserted_rules, is_equal, replaced_rules, tied_keeps_place}
use Rattle.xr_change.specs.Sets.{inserted, replaced}
use Rattle.xr_change.specs.TreeStepLaws.{changes_are_steps}
use Rattle.xr_change.specs.TreeSteps.{IsTreeStep}
use Rattle.xr_kinds.specs.Mapping.{is_mapping, mapping_form}
use Rattle.xr_kinds.specs.MappingLaws.{is_mapping_form}
use Rattle.xr_kinds.specs.declared.mapping.Mapping.{Mapping}
use Rattle.xr_pool.specs.Overlay.{Blocks, free_count}
use Rattle.xr_tree.specs.SmallTreeLaws.{mapping_trees}

-- there is at most one for each offset of a file
offset_low : (x : Mapping) → is_mapping x ≡ true → x.off < 512
offset_low x good = grind (arith, nat_tests)

offsets_differ : (x y : Mapping) → mapping_form.order x y ≡ Less → x.off ≢ y.off
offsets_differ x y less same = grind (arith, nat_tests)

few_extents : (xs : List Mapping) → AreRecords mapping_form xs → length xs ≤ 512
few_extents [] rules = omega arith
few_extents (x ∷ rest) rules =
    let xs : List Mapping = x ∷ rest in
    let offsets : List ℕ = map (λ (r : Mapping). r.off) xs in
    let long : length offsets ≡ length xs = length-map xs (λ (r : Mapping). r.off) in
    let few = few_of offsets 512
    (λ i j d before within same.
    let late : j < length xs = omega (arith, within, long) in
    let early : i < length xs = omega (arith, before, late) in
    offsets_differ (get_or xs i x) (get_or xs j x) (rules.ascend i j x before late)
    (sym (get_or-map (λ (r : Mapping). r.off) xs i x d early) ∙ same ∙ get_or-map (λ (r : Mapping). r.off) xs j x d late))
    (λ i d within.
    let inside : i < length xs = omega (arith, within, long) in
    omega (arith, offset_low (get_or xs i x) (rules.valid i x inside), get_or-map (λ (r : Mapping). r.off) xs i x d inside)) in
    omega (arith, few, long)

-- what agrees has another place in the order
not_tied : (x r : Mapping) → mapping_form.agree x r ≡ true → is_mapping r ≡ true → is_mapping x ≡ true → mapping_form.order x r ≢ Equal
not_tied x r agree good valid tied = grind (arith, nat_tests)

untied : (x r : Mapping) → mapping_form.agree x r ≡ true → is_mapping r ≡ true → is_mapping x ≡ true → is_eq (mapping_form.order x r) ≡ false
untied x r agree good valid =
    grind (arith, cases_Bool (is_eq (mapping_form.order x r)), is_equal (mapping_form.order x r), not_tied x r agree good valid)

module _ (xs : List Mapping) (rules : AreRecords mapping_form xs) where
  pub inserted_extents : (r : Mapping) → is_mapping r ≡ true → ((x : Mapping) → Contains xs x → mapping_form.agree x r ≡ true)
      → AreRecords mapping_form (inserted mapping_form.order r xs)
  inserted_extents r good fits =
      inserted_rules mapping_form is_mapping_form xs r rules (record {
        valid = good;
        other = λ x within. untied x r (fits x within) good (valid_in xs rules x within);
        agree = fits;
        few = omega (arith, few_extents xs rules);
      })

  pub replaced_extents : (old new : Mapping) → Contains xs old → is_mapping new ≡ true
      → ((x : Mapping) → Contains xs x → x ≢ old → mapping_form.agree x new ≡ true) → new.off ≡ old.off
      → AreRecords mapping_form (replaced mapping_form.order old new xs)
  replaced_extents old new held good fits place =
      let tied : mapping_form.order old new ≡ Equal = rw place (tied_itself is_mapping_form.total old) in
      replaced_rules mapping_form is_mapping_form xs old new rules (record {
        held = held;
        valid = good;
        place = tied_keeps_place mapping_form.order is_mapping_form.total xs old new tied;
        agree = fits;
      })

-- a change writes at most seven blocks, since the tree has at most two levels
pub change_step : (a : Blocks) (old : Root) (b : Blocks) (new : Root) (change : List Mapping → List Mapping) (most : ℕ) → IsTree mapping_form a old
    → ChangesTree mapping_form a old b new change → free_count a ≤ free_count b + most → IsTreeStep mapping_form a old b new most 7
change_step a old b new change most tree step room =
    let small = mapping_trees a old tree in
    changes_are_steps mapping_form a old b new change most 7 step room (omega (arith, small.few_levels))
