-- A step down in a tree: a child of a node stands in its row, and a change under the node leaves the node in its.
use Rattle.std.proofs.Common.{◌≡◌, ℕ, suc, ◌+◌, ◌<◌, ◌≤◌, true, false, None, List, [], ◌∷◌, ◌++◌, length, take, drop, refl, sym, ap, ◌∙◌, subst, arith, ⊎_elim}
use Rattle.std.proofs.lemmas.Cmp.{tied_itself}
use Rattle.std.proofs.lemmas.List.{length-map}
use Rattle.std.proofs.lemmas.List.Elements.{All-contains, Contains-append_cases, Contains-append_left}
use Rattle.std.specs.List.{All, AllPairs, Contains}
use Rattle.std.specs.declared.cmp.Ordering.TheVariants.{Less}
use Rattle.xr_block.specs.TimesLaws.{found_in}
use Rattle.xr_kinds.specs.Form.{Form, IsForm}
use Rattle.xr_pool.specs.Overlay.{Blocks, block_at, changed_blocks, is_changed}
use Rattle.xr_block.specs.Rows.{min_records, named_below}
use Rattle.xr_block.specs.Tree.{records_of, site_of, tree_held}
use Rattle.xr_block.specs.TreeBlock.{Entry, entries_in}
use Rattle.xr_change.proofs.SameItemLemmas.{row_linked}
use Rattle.xr_change.proofs.RowItemLemmas.{whole_least}
use Rattle.xr_change.proofs.RowBlockLemmas.{alters_same, below, children, least_less, records_under_node}
use Rattle.xr_change.proofs.BlockInTreeLemmas.{one_more}
use Rattle.xr_change.proofs.NodeContextLemmas.{children_around, row_has}
use Rattle.xr_change.proofs.WriteLemmas.{one_around, unchanged_less}
use Rattle.xr_change.proofs.SetLemmas.{front_below, inserted_between, removed_between, replaced_between}
use Rattle.xr_change.specs.Alters.{AreRowsIn, IsWholeAt}
use Rattle.xr_change.specs.Changes.{HasPath}
use Rattle.xr_change.specs.Regroups.{IsSameUnder}
use Rattle.xr_change.specs.Sets.{inserted, removed, replaced}
use Rattle.xr_change.specs.Paths.{IsInTree, IsOnPath, child_of, item_count}
use Rattle.xr_change.specs.Writes.{unchanged}
use Rattle.xr_block.specs.PartLaws.{all_left, all_right, pairs_left, pairs_right}
use Rattle.xr_block.specs.UnderLaws.{linked_at}

module _ {X : Type 0} (form : Form X) (b : Blocks) where
  -- a block of a row has the items that the row asks for
  pub row_least : (least level : ℕ) (pre : List ℕ) (n : ℕ) (post : List ℕ) → AreRowsIn form b least level (pre ++ n ∷ post) → least ≤ item_count form b level n
  row_least least level pre n post known =
      let row : List ℕ = pre ++ n ∷ post in
      let found = linked_at (IsWholeAt form (site_of b) (tree_held form b) level least) (block_at b) level None row None n
      (row_linked form (site_of b) (block_at b) (tree_held form b) least level row known.rows) (found_in row n (row_has n n pre post refl)) in
      subst (λ (m : ℕ). least ≤ item_count form b level m) found.1 (whole_least form b level least found.0 found.2)

  module _ (level n k : ℕ) (here : IsInTree form b (suc level) n) (within : k < length (entries_in form (block_at b n))) where
    abbrev pub names : List ℕ
    names = named_below (tree_held form b) n

    pub names_around : names ≡ take k names ++ child_of form b n k ∷ drop (suc k) names
    names_around = one_around names k (child_of form b n k) (omega (arith, within, length-map (entries_in form (block_at b n)) (λ (e : Entry). e.child))) refl

    pub row_around : children form b (here.pre ++ n ∷ here.post)
        ≡ (children form b here.pre ++ take k names) ++ child_of form b n k ∷ (drop (suc k) names ++ children form b here.post)
    row_around = children_around form b n (take k names) (child_of form b n k ∷ []) (drop (suc k) names) names_around here.pre here.post

    pub records_around : records_of form b (suc level) (n ∷ [])
        ≡ records_of form b level (take k names) ++ (records_of form b level (child_of form b n k ∷ []) ++ records_of form b level (drop (suc k) names))
    records_around = records_under_node form b level n (take k names) (child_of form b n k ∷ []) (drop (suc k) names) names_around

    pub child_in_rows : AreRowsIn form b (min_records form level) level ((children form b here.pre ++ take k names) ++ child_of form b n k ∷ (drop (suc k) names ++ children form b here.post))
    child_in_rows = subst (AreRowsIn form b (min_records form level) level) row_around (below form b here.least level (here.pre ++ n ∷ here.post) here.rows)

    pub child_in_tree : IsInTree form b level (child_of form b n k)
    child_in_tree = record {
      least = min_records form level;
      pre = children form b here.pre ++ take k names;
      post = drop (suc k) names ++ children form b here.post;
      rows = child_in_rows;
      valid = all_left (λ (x : X). form.is_valid x ≡ true) (records_of form b level (child_of form b n k ∷ [])) _
          (all_right (λ (x : X). form.is_valid x ≡ true) (records_of form b level (take k names)) _ (subst (All (λ (x : X). form.is_valid x ≡ true)) records_around here.valid));
      ascend = pairs_left (λ (x y : X). form.order x y ≡ Less) (records_of form b level (child_of form b n k ∷ [])) _
          (pairs_right (λ (x y : X). form.order x y ≡ Less) (records_of form b level (take k names)) _ (subst (AllPairs (λ (x y : X). form.order x y ≡ Less)) records_around here.ascend));
      agree = pairs_left (λ (x y : X). form.agree x y ≡ true) (records_of form b level (child_of form b n k ∷ [])) _
          (pairs_right (λ (x y : X). form.agree x y ≡ true) (records_of form b level (take k names)) _ (subst (AllPairs (λ (x y : X). form.agree x y ≡ true)) records_around here.agree));
    }

    pub child_least : min_records form level ≤ item_count form b level (child_of form b n k)
    child_least = row_least (min_records form level) level _ (child_of form b n k) _ child_in_rows

-- a block that keeps its records is in its row still, whatever it has of items
pub in_tree_still : {X : Type 0} (form : Form X) (a b : Blocks) (level n : ℕ) → IsInTree form a level n → IsSameUnder form a b 0 level n → IsInTree form b level n
in_tree_still {X = X} form a b level n here same = record {
  least = 0;
  pre = here.pre;
  post = here.post;
  rows = same.alters.rows 0 here.pre here.post (omega arith) (least_less form a here.least 0 level (here.pre ++ n ∷ here.post) here.rows (omega arith));
  valid = subst (All (λ (x : X). form.is_valid x ≡ true)) (sym same.records) here.valid;
  ascend = subst (AllPairs (λ (x y : X). form.order x y ≡ Less)) (sym same.records) here.ascend;
  agree = subst (AllPairs (λ (x y : X). form.agree x y ≡ true)) (sym same.records) here.agree;
}

-- the path down to a child, in a node that keeps its records, and what of them the change is one of
module _ {X : Type 0} (form : Form X) (laws : IsForm form) (s : Blocks) (level n k : ℕ) (here : IsInTree form s (suc level) n) (within : k < length (entries_in form (block_at s n))) where
  abbrev front : List X
  front = records_of form s level (take k (names form s level n k here within))

  abbrev own : List X
  own = records_of form s level (child_of form s n k ∷ [])

  abbrev after : List X
  after = records_of form s level (drop (suc k) (names form s level n k here within))

  pub path_for : (a : Blocks) (lost : ℕ) (change : List X → List X) → ((floor : ℕ) → floor + lost ≤ item_count form a (suc level) n → IsSameUnder form a s floor (suc level) n)
      → lost ≤ item_count form a (suc level) n → min_records form level + lost ≤ item_count form s level (child_of form s n k)
      → change (front ++ (own ++ after)) ≡ front ++ (change own ++ after)
      → ((m : ℕ) → is_changed a m ≡ true → is_changed s m ≡ true)
      → length (changed_blocks s) + unchanged s (child_of form s n k) + unchanged s n ≤ length (changed_blocks a) + unchanged a n + 3
      → HasPath form a s lost level n k change
  path_for a lost change same some least there stay few = record {
    same = same;
    here = here;
    within = within;
    least = least;
    there = ap change (sym (same 0 (omega (arith, some))).records ∙ records_around form s level n k here within) ∙ there;
    stay = stay;
    few = few;
  }

  -- where nothing was rearranged
  pub path_here : (lost : ℕ) (change : List X → List X) → lost ≤ item_count form s (suc level) n → min_records form level + lost ≤ item_count form s level (child_of form s n k)
      → change (front ++ (own ++ after)) ≡ front ++ (change own ++ after) → HasPath form s s lost level n k change
  path_here lost change some least there =
      path_for s lost change (λ floor low. record { alters = alters_same form s floor (suc level) n; records = refl }) some least there (λ m is. is)
      (omega (arith, unchanged_less false (is_changed s (child_of form s n k)) (λ lie. absurd cc)))

  module _ (r : X) where
    pub inserted_there : IsOnPath form s level n r k → inserted form.order r (front ++ (own ++ after)) ≡ front ++ (inserted form.order r own ++ after)
    inserted_there path = inserted_between form.order laws.total r front own after path.before path.after

    below_held : Contains own r → All (λ (x : X). form.order x r ≡ Less) front
    below_held found =
        front_below form.order front (own ++ after) r (subst (AllPairs (λ (x y : X). form.order x y ≡ Less)) (records_around form s level n k here within) here.ascend)
        (Contains-append_left own after r found)

    pub removed_there : Contains own r → removed form.order r (front ++ (own ++ after)) ≡ front ++ (removed form.order r own ++ after)
    removed_there found = removed_between form.order laws.total r front own after (below_held found) found

    pub replaced_there : (new : X) → Contains own r → replaced form.order r new (front ++ (own ++ after)) ≡ front ++ (replaced form.order r new own ++ after)
    replaced_there new found = replaced_between form.order laws.total r new front own after (below_held found) found

    -- a record stands under the child on its path
    pub held_on_path : IsOnPath form s level n r k → Contains (records_of form s (level + 1) (n ∷ [])) r → Contains own r
    held_on_path path found =
        let apart : form.order r r ≡ Less → ⊥ = λ less. let lie = sym less ∙ tied_itself laws.total r in absurd cc in
        ⊎_elim
        (λ (in_front : Contains front r). absurd (apart (All-contains (λ (x : X). form.order x r ≡ Less) front r path.before in_front)))
        (λ (rest : Contains (own ++ after) r). ⊎_elim
        (λ (there : Contains own r). there)
        (λ (found_after : Contains after r). absurd (apart (All-contains (λ (x : X). form.order r x ≡ Less) after r path.after found_after)))
        (Contains-append_cases own after r rest))
        (Contains-append_cases front (own ++ after) r (rw (one_more level, records_around form s level n k here within) at found))
