-- The child on the path of a record that goes has an item more than it needs: it has it already, or it was given some of a sibling's, or
-- all of them.
use Rattle.std.proofs.Common.{◌≡◌, ℕ, zero, suc, ◌+◌, ◌<◌, ◌≤◌, true, false, List, [], ◌∷◌, ◌++◌, length, take, drop, map, get_or, refl, sym, ap, ◌∙◌, subst, arith}
use Rattle.std.proofs.Math.Seq.{drop-append_seam, take-append_seam}
use Rattle.std.proofs.lemmas.List.{append-nil, append_assoc, map-append, take-append-drop, take-append-le}
use Rattle.std.proofs.lemmas.List.Elements.{Contains-append_left, Contains-append_right}
use Rattle.std.specs.List.{Contains}
use Rattle.xr_block.specs.TimesLaws.{times_same}
use Rattle.xr_kinds.specs.Form.{Form, IsForm}
use Rattle.xr_pool.specs.Overlay.{Blocks, block_at, free_below, free_count, is_changed, is_free, pool_size}
use Rattle.xr_block.specs.Rows.{min_records, named_below}
use Rattle.xr_block.specs.Times.{times}
use Rattle.xr_block.specs.Tree.{records_of, tree_held}
use Rattle.xr_block.specs.TreeBlock.{Entry, entries_in, records_in}
use Rattle.xr_change.proofs.RowItemLemmas.{counts_same, items_counted, one_flat, two_flat}
use Rattle.xr_change.proofs.DescentLemmas.{child_in_tree, child_least, in_tree_still, removed_there, path_for, path_here}
use Rattle.xr_change.proofs.SameItemLemmas.{times_rest_append}
use Rattle.xr_change.proofs.BlockInTreeLemmas.{in_row, leaf_alone}
use Rattle.xr_change.proofs.NodeChangeLemmas.{child_after, long_after, regroups_same}
use Rattle.xr_change.proofs.WriteLemmas.{for_two, more_free, unchanged_less}
use Rattle.xr_change.proofs.RowBlockLemmas.{HoldSame, children, records_append, records_below, records_same, times_row, same_or_other}
use Rattle.xr_change.specs.Regroups.{Item, Regroups, rows_below, items_held}
use Rattle.xr_change.specs.Changes.{HasPathWithSurplus}
use Rattle.xr_change.specs.Sets.{removed}
use Rattle.xr_change.specs.Paths.{IsInTree, child_of, item_count}
use Rattle.xr_change.specs.Writes.{MarksAtMost, unchanged}
use Rattle.xr_block.specs.UnderLaws.{min_records_some}

-- two parts of one list, in two ways: the longer first part begins with the other, and the longer second part ends with it
first_longer : {X : Type 0} (xs ys us vs : List X) → xs ++ ys ≡ us ++ vs → length us ≤ length xs → xs ≡ us ++ drop (length us) xs
first_longer xs ys us vs same long =
    sym (take-append-drop (length us) xs)
    ∙ ap (λ (front : List _). front ++ drop (length us) xs)
    (sym (take-append-le (length us) xs ys long) ∙ ap (take (length us)) same ∙ take-append_seam us vs)

second_longer : {X : Type 0} (xs ys us vs : List X) → xs ++ ys ≡ us ++ vs → length xs ≤ length us → ys ≡ drop (length xs) us ++ vs
second_longer xs ys us vs same long =
    sym (drop-append_seam xs ys) ∙ ap (drop (length xs)) (same ∙ ap (λ (front : List _). front ++ vs) (first_longer us vs xs ys (sym same) long)
    ∙ append_assoc xs (drop (length xs) us) vs) ∙ drop-append_seam xs (drop (length xs) us ++ vs)

-- what stands in a part of a list stands in the whole
among : {X : Type 0} (whole front part after : List X) (r : X) → whole ≡ front ++ (part ++ after) → Contains part r → Contains whole r
among whole front part after r is there =
    subst (λ (rs : List _). Contains rs r) (sym is) (Contains-append_right front (part ++ after) r (Contains-append_left part after r there))

-- what stands under a block stands under one that has its items among others
kept_under : {X : Type 0} (form : Form X) (a s : Blocks) (level x y : ℕ) (front after : List (Item X level))
    → items_held form level (block_at s y) ≡ front ++ (items_held form level (block_at a x) ++ after) → HoldSame form a s (rows_below form a level (x ∷ []))
    → (r : X) → Contains (records_of form a level (x ∷ [])) r → Contains (records_of form s level (y ∷ [])) r
unfolding items_held
kept_under form a s zero x y front after is same r there =
    among _ front (records_in form (block_at a x)) after r (leaf_alone form s y ∙ is) (subst (λ (rs : List _). Contains rs r) (leaf_alone form a x) there)
kept_under form a s (suc level) x y front after is same r there =
    let child : Entry → ℕ = λ e. e.child in
    let rows : List ℕ → List _ = records_of form s level in
    let held : rows (map child (entries_in form (block_at a x))) ≡ records_of form a (suc level) (x ∷ []) =
    ap rows (sym (append-nil (named_below (tree_held form a) x))) ∙ records_same form a s level (children form a (x ∷ [])) same ∙ sym (records_below form a level (x ∷ [])) in
    among _ (rows (map child front)) (records_of form a (suc level) (x ∷ [])) (rows (map child after)) r
    (records_below form s level (y ∷ []) ∙ ap rows (append-nil (named_below (tree_held form s) y) ∙ ap (map child) is ∙ map-append child front _
    ∙ ap (λ (rest : List ℕ). map child front ++ rest) (map-append child _ after))
    ∙ records_append form s level (map child front) _
    ∙ ap (λ (rest : List _). rows (map child front) ++ rest) (records_append form s level _ (map child after) ∙ rw held refl)) there

-- two sibling children of a node that were rearranged
module _ {X : Type 0} {form : Form X} (laws : IsForm form) {a : Blocks} {level n : ℕ} (here : IsInTree form a (suc level) n) (j : ℕ) where
  abbrev c : ℕ
  c = child_of form a n j

  abbrev d : ℕ
  d = child_of form a n (j + 1)

  abbrev es : List Entry
  es = entries_in form (block_at a n)

  abbrev has : Blocks → ℕ → List (Item X level)
  has b m = items_held form level (block_at b m)

  module _ {s : Blocks} {news : List ℕ} (made : Regroups form a s level n j (j + 2) (c ∷ d ∷ []) (c ∷ news)) (inside : j + 1 < length es) where
    long_now : length (entries_in form (block_at s n)) + 2 ≡ length es + length (c ∷ news)
    long_now = long_after form a s level n j (j + 2) (c ∷ d ∷ []) (c ∷ news) made refl (omega (arith, inside))

    -- what was free is free still
    child_used : (i : ℕ) → i < length es → is_free a (child_of form a n i) ≡ false
    child_used i within =
        let at = child_in_tree form a level n i here within in
        let x : ℕ = child_of form a n i in
        (at.rows.owned x (omega (arith, in_row form a level x at, times_row form a x level (at.pre ++ x ∷ at.post)))).taken

    free_still : ((x : ℕ) → times x (c ∷ news) ≤ times x (c ∷ d ∷ [])) → (m : ℕ) → is_free a m ≡ true → is_free s m ≡ true
    free_still sub m free =
        let used = for_two (λ (x : ℕ). is_free a x ≡ false) c d (child_used j (omega (arith, inside))) (child_used (j + 1) inside) m in
        grind (arith, free, used, sub m, made.spare m)

    -- what stood under one of them stands under the i-th now, which has an item more than it needs
    spare_made : ((x : ℕ) → times x (c ∷ news) ≤ times x (c ∷ d ∷ [])) → (more : ℕ) → more ≤ 3 → MarksAtMost a s (unchanged a n + more) → is_changed s n ≡ true
        → (i k y : ℕ) → k ≡ j + i → i < length (c ∷ news) → get_or (c ∷ news) i 0 ≡ y → is_changed s y ≡ true → min_records form level + 1 ≤ item_count form s level y
        → (x : ℕ) (front after : List (Item X level)) → 1 ≤ times x (c ∷ d ∷ []) → items_held form level (block_at s y) ≡ front ++ (items_held form level (block_at a x) ++ after)
        → (r : X) → Contains (records_of form a level (x ∷ [])) r → HasPathWithSurplus form a s level n r k
    spare_made sub more small marks changed i k y place within is child_changed many x front after old items r there =
        let child : child_of form s n k ≡ y = child_after form a s level n j (j + 2) (c ∷ d ∷ []) (c ∷ news) made refl (omega (arith, inside)) i k place within ∙ is in
        let holds = for_two (λ (z : ℕ). HoldSame form a s (rows_below form a level (z ∷ []))) c d
        (λ m some. made.below m (omega (arith, some, times_rest_append form a m level (c ∷ []) (d ∷ []))))
        (λ m some. made.below m (omega (arith, some, times_rest_append form a m level (c ∷ []) (d ∷ [])))) x old in
        let held : Contains (records_of form s level (child_of form s n k ∷ [])) r =
        subst (λ (m : ℕ). Contains (records_of form s level (m ∷ [])) r) (sym child) (kept_under form a s level x y front after items holds r there) in
        let in_node : k < length (entries_in form (block_at s n)) = omega (arith, place, within, inside, long_now) in
        let same = λ (floor : ℕ) (low : floor + 1 ≤ length es).
        regroups_same form a s level n j (j + 2) (c ∷ d ∷ []) (c ∷ news) made here floor (omega (arith, low, long_now)) in
        let still = same 0 (omega (arith, inside)) in
        let now = in_tree_still form a s (suc level) n here still in
        record {
          path = path_for form laws s level n k now in_node a 1 (removed form.order r) same (omega (arith, inside))
              (subst (λ (m : ℕ). min_records form level + 1 ≤ item_count form s level m) (sym child) many) (removed_there form laws s level n k now in_node r held) marks.stay
              (omega (
                arith,
                marks.few,
                unchanged_less true (is_changed s n) (λ was. changed),
                unchanged_less true (is_changed s (child_of form s n k)) (λ was. ap (is_changed s) child ∙ child_changed),
              ));
          held = held;
          free = subst (λ (size : ℕ). free_count a ≤ free_below s size) (sym still.alters.same.pool) (more_free a s (pool_size a) (free_still sub));
        }

  -- one took the items of the other
  module _ {s : Blocks} (merge : Regroups form a s level n j (j + 2) (c ∷ d ∷ []) (c ∷ [])) (marks : MarksAtMost a s (unchanged a n + 3))
      (changed : (is_changed s n ≡ true) × (is_changed s c ≡ true)) (inside : j + 1 < length es) where
    pub merge_surplus : (k : ℕ) → j ≤ k → k ≤ j + 1 → (r : X) → Contains (records_of form a level (child_of form a n k ∷ [])) r → HasPathWithSurplus form a s level n r j
    merge_surplus k from to r there =
        let merged : has s c ≡ has a c ++ has a d = sym (one_flat (has s) c) ∙ merge.items ∙ two_flat (has a) c d in
        let many : min_records form level + 1 ≤ item_count form s level c = omega (
          arith,
          child_least form a level n j here (omega (arith, inside)),
          child_least form a level n (j + 1) here inside,
          min_records_some form laws level,
          counts_same form a s level (c ∷ d ∷ []) (c ∷ []) merge.items,
        ) in
        let spare = spare_made merge inside (λ x. omega arith) 3 (omega arith) marks changed.0 0 j c (omega arith) (omega arith) refl changed.1 many in
        same_or_other k j
        (λ is. spare c [] (has a d) (omega (arith, times_same c (d ∷ []))) merged r (subst (λ (i : ℕ). Contains (records_of form a level (child_of form a n i ∷ [])) r) is there))
        (λ other.
        let is : k ≡ j + 1 = omega (arith, from, to, other) in
        spare d (has a c) [] (omega (arith, times_same d [])) (merged ∙ ap (λ (rest : List (Item X level)). has a c ++ rest) (sym (append-nil (has a d)))) r
        (subst (λ (i : ℕ). Contains (records_of form a level (child_of form a n i ∷ [])) r) is there))

  -- both share their items anew
  module _ {s : Blocks} (rebalance : Regroups form a s level n j (j + 2) (c ∷ d ∷ []) (c ∷ d ∷ [])) (marks : MarksAtMost a s (unchanged a n + 2))
      (changed : (is_changed s n ≡ true) × (is_changed s c ≡ true) × (is_changed s d ≡ true)) (inside : j + 1 < length es) where
    -- the k-th child had no item more than it needs
    abbrev Fills : ℕ → Type 0
    Fills k = item_count form a level (child_of form a n k) ≤ min_records form level
        → (r : X) → Contains (records_of form a level (child_of form a n k ∷ [])) r → HasPathWithSurplus form a s level n r k

    shared : has s c ++ has s d ≡ has a c ++ has a d
    shared = sym (two_flat (has s) c d) ∙ rebalance.items ∙ two_flat (has a) c d

    shared_count : item_count form s level c + item_count form s level d ≡ item_count form a level c + item_count form a level d
    shared_count = omega (arith, counts_same form a s level (c ∷ d ∷ []) (c ∷ d ∷ []) rebalance.items)

    pub rebalance_first : (k : ℕ) → k ≡ j → min_records form level + 1 ≤ item_count form s level c → Fills k
    rebalance_first k is many = subst Fills (sym is) (λ low.
        spare_made rebalance inside (λ x. omega arith) 2 (omega arith) marks changed.0 0 j c (omega arith) (omega arith) refl changed.1 many c [] (drop (length (has a c)) (has s c))
        (omega (arith, times_same c (d ∷ [])))
        (first_longer (has s c) (has s d) (has a c) (has a d) shared (omega (arith, low, many, items_counted form a level c, items_counted form s level c))))

    pub rebalance_second : (k : ℕ) → k ≡ j + 1 → min_records form level + 1 + item_count form s level c ≤ item_count form a level c + item_count form a level d → Fills k
    rebalance_second k is many = subst Fills (sym is) (λ low.
        let rest : List (Item X level) = drop (length (has s c)) (has a c) in
        spare_made rebalance inside (λ x. omega arith) 2 (omega arith) marks changed.0 1 (j + 1) d refl (omega arith) refl changed.2 (omega (arith, many, shared_count)) d rest []
        (omega (arith, times_same d []))
        (second_longer (has s c) (has s d) (has a c) (has a d) shared (omega (arith, low, many, shared_count, items_counted form a level c, items_counted form s level c))
        ∙ ap (λ (end : List (Item X level)). rest ++ end) (sym (append-nil (has a d)))))

-- a child that has an item more than it needs already
pub surplus_here : {X : Type 0} (form : Form X) (laws : IsForm form) (a : Blocks) (level n k : ℕ) (r : X) (here : IsInTree form a (suc level) n)
    (within : k < length (entries_in form (block_at a n)))
    → Contains (records_of form a level (child_of form a n k ∷ [])) r → min_records form level + 1 ≤ item_count form a level (child_of form a n k) → HasPathWithSurplus form a a level n r k
surplus_here form laws a level n k r here within there many = record {
  path = path_here form laws a level n k here within 1 (removed form.order r) (omega (arith, within)) many (removed_there form laws a level n k here within r there);
  held = there;
  free = omega arith;
}
