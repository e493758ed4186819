-- Blocks of a row, each at the place that it names, with their items, whatever their level.
use Rattle.std.proofs.Common.{◌+◌, ◌≡◌, ◌↔◌, ℕ, zero, suc, ◌<◌, ◌≤◌, None, List, [], ◌∷◌, ◌++◌, length, get_or, refl, sym, ap, ◌∙◌, subst, arith, ◌-◌, ◌/◌, take, drop}
use Rattle.std.proofs.lemmas.List.{append-nil, get_or-map, length-append}
use Rattle.std.specs.List.{flat_map}
use Rattle.xr_block.specs.TimesLaws.{found_in}
use Rattle.xr_kinds.specs.Form.{Form, IsForm}
use Rattle.xr_pool.specs.Overlay.{Blocks, block_at, pool_size, IsBlock, AreKnown}
use Rattle.xr_block.specs.Rows.{Held, IsWholeLeaf, min_records, held_in, key_held, key_of_entries, key_of_records}
use Rattle.xr_block.specs.Times.{times}
use Rattle.xr_block.specs.Tree.{site_of, tree_held}
use Rattle.xr_block.specs.TreeBlock.{Entry, Place, Site, entries_in, leaf_bytes, node_bytes, records_in, count_in}
use Rattle.xr_change.proofs.SameItemLemmas.{row_linked, items_same}
use Rattle.xr_change.proofs.SiblingLemmas.{links_read, whole_moved}
use Rattle.xr_change.proofs.NodeContextLemmas.{linked_stays}
use Rattle.xr_change.proofs.RowBlockLemmas.{times_row, holds_same, key_same}
use Rattle.xr_change.specs.Alters.{AreRowsIn, IsWholeAt}
use Rattle.xr_change.specs.Regroups.{place_named, GivesKey, HaveSameItems, IsBlockOf, Item, entry_for, items_held}
use Rattle.xr_change.specs.Paths.{child_of, item_count, max_records}
use Rattle.xr_block.specs.EditLaws.{holds_records, leaf_count, leaf_of_whole, leaf_records, node_count, node_entries, node_of_whole}
use Rattle.xr_block.specs.Edits.{IsLeafOf, IsNodeOf}
use Rattle.xr_block.specs.UnderLaws.{linked_at}
use Rattle.xr_block.specs.Checks.{HoldsRecords}

-- each block of a row is whole at the place that it names
pub row_whole : {X : Type 0} (form : Form X) (laws : IsForm form) (b : Blocks) (known : AreKnown b) (least level : ℕ) (row : List ℕ) → AreRowsIn form b least level row
    → (m : ℕ) → 1 ≤ times m row → IsWholeAt form (site_of b) (tree_held form b) level least (place_named form b level m) (block_at b m)
row_whole form laws b known least level row rows m some =
    let P : Place → List ℕ → Type 0 = IsWholeAt form (site_of b) (tree_held form b) level least in
    let Q : Place → List ℕ → Type 0 = λ place bytes. (place.level ≡ level) × P place bytes in
    let linked = row_linked form (site_of b) (block_at b) (tree_held form b) least level row rows.rows in
    let found = linked_at Q (block_at b) level None row None m
    (linked_stays P Q (block_at b) (block_at b) level None row None (λ place low there whole. (low, whole)) linked) (found_in row m some) in
    let place : Place = found.0 in
    let same : place.number ≡ m = found.1 in
    let used = rows.owned m (omega (arith, some, times_row form b m level row)) in
    let links = links_read form laws b known least level place (subst (λ (k : ℕ). k < pool_size b) (sym same) used.below) found.2.1 in
    subst (λ (k : ℕ). IsWholeAt form (site_of b) (tree_held form b) level least (place_named form b level k) (block_at b k)) same
    (whole_moved form (site_of b) (tree_held form b) least level place (place_named form b level place.number) (block_at b place.number) refl (sym found.2.0) links.0 links.1 found.2.1)

-- a whole block as a leaf, with the records that it holds now
pub whole_leaf : {X : Type 0} (form : Form X) (site : Site) (held : Held X) (least : ℕ) (place : Place) (bytes : List ℕ)
    → IsWholeAt form site held zero least place bytes ↔ IsWholeLeaf form site held least place bytes
unfolding IsWholeAt
whole_leaf form site held least place bytes = (λ whole. whole, λ whole. whole)

-- the k-th child is that of the k-th entry
pub child_at : {X : Type 0} (form : Form X) (b : Blocks) (n k c : ℕ) (d : Entry) → k < length (entries_in form (block_at b n)) → child_of form b n k ≡ c
    → (get_or (entries_in form (block_at b n)) k d).child ≡ c
child_at form b n k c d within is = sym (get_or-map (λ (e : Entry). e.child) (entries_in form (block_at b n)) k d 0 within) ∙ is

-- blocks with the same items, as records and as entries
pub one_flat : {B : Type 0} (f : ℕ → List B) (c : ℕ) → flat_map f (c ∷ []) ≡ f c
one_flat f c = append-nil (f c)

pub two_flat : {B : Type 0} (f : ℕ → List B) (c d : ℕ) → flat_map f (c ∷ d ∷ []) ≡ f c ++ f d
two_flat f c d = ap (λ (rest : List _). f c ++ rest) (append-nil (f d))

-- the items of two blocks from a place to another
abbrev pub Gathers : {X : Type 0} → Form X → (level : ℕ) → Site → List ℕ → List ℕ → ℕ → ℕ → Place → List ℕ → Type 0
Gathers {X = X} form level site first second from to place out =
    (one other : Place) (xs ys : List (Item X level)) → IsBlockOf form level site one xs first → IsBlockOf form level site other ys second
    → IsBlockOf form level site place (take (to - from) (drop from (xs ++ ys))) out

module _ {X : Type 0} (form : Form X) where
  pub min_records_is : (level : ℕ) → min_records form level ≡ max_records form level / 2
  unfolding min_records
  min_records_is zero = refl
  min_records_is (suc level) = refl

  -- at the level of a leaf, and at that of a node
  pub gathers_by : (level : ℕ) (site : Site) (first second out : List ℕ) (from to : ℕ) (place : Place)
      → (level ≡ 0 → (one other : Place) (xs ys : List X) → IsLeafOf form site one xs first → IsLeafOf form site other ys second
      → IsLeafOf form site place (take (to - from) (drop from (xs ++ ys))) out)
      → ((level ≡ 0 → ⊥) → (one other : Place) (xs ys : List Entry) → IsNodeOf form site one xs first → IsNodeOf form site other ys second
      → IsNodeOf form site place (take (to - from) (drop from (xs ++ ys))) out) → Gathers form level site first second from to place out
  unfolding IsBlockOf
  gathers_by zero site first second out from to place leaf node = leaf refl
  gathers_by (suc level) site first second out from to place leaf node = node (λ low. absurd (omega (arith, low)))

  pub key_by : (level n : ℕ) (at : ℕ → List ℕ) (bytes key : List ℕ) → at n ≡ bytes → (level ≡ 0 → key ≡ key_of_records form (records_in form bytes))
      → ((level ≡ 0 → ⊥) → key ≡ key_of_entries form (entries_in form bytes)) → key ≡ key_held form (held_in form at) level n
  unfolding key_held
  key_by zero n at bytes key is leaf node = leaf refl ∙ ap (λ (block : List ℕ). key_of_records form (records_in form block)) (sym is)
  key_by (suc level) n at bytes key is leaf node =
      node (λ low. absurd (omega (arith, low))) ∙ ap (λ (block : List ℕ). key_of_entries form (entries_in form block)) (sym is)

  pub items_counted : (b : Blocks) (level n : ℕ) → item_count form b level n ≡ length (items_held form level (block_at b n))
  unfolding items_held
  items_counted b zero n = refl
  items_counted b (suc level) n = refl

  abbrev pub item_counts : Blocks → ℕ → List ℕ → ℕ
  item_counts b level [] = 0
  item_counts b level (m ∷ ms) = item_count form b level m + item_counts b level ms

  counts_flat : (b : Blocks) (level : ℕ) (ms : List ℕ) → length (flat_map (λ (m : ℕ). items_held form level (block_at b m)) ms) ≡ item_counts b level ms
  counts_flat b level [] = refl
  counts_flat b level (m ∷ ms) = omega (
    arith,
    counts_flat b level ms,
    items_counted b level m,
    length-append (items_held form level (block_at b m)) (flat_map (λ (x : ℕ). items_held form level (block_at b x)) ms),
  )

  -- blocks with the same items have as many
  pub counts_same : (a b : Blocks) (level : ℕ) (old new : List ℕ) → HaveSameItems form a b level old new → item_counts b level new ≡ item_counts a level old
  counts_same a b level old new same = sym (counts_flat b level new) ∙ ap length same ∙ counts_flat a level old

  pub whole_least : (b : Blocks) (level least : ℕ) (place : Place) → IsWholeAt form (site_of b) (tree_held form b) level least place (block_at b place.number)
      → least ≤ item_count form b level place.number
  unfolding IsWholeAt
  whole_least b zero least place whole = whole.least_items
  whole_least b (suc level) least place whole = whole.least_items

module _ {X : Type 0} (form : Form X) (laws : IsForm form) where
  -- what such a block holds, how many items it has, and what is tested of a leaf
  pub block_holds : (level : ℕ) (site : Site) (place : Place) (items : List (Item X level)) (bytes : List ℕ) → IsBlockOf form level site place items bytes
      → (items_held form level bytes ≡ items) × (count_in bytes ≡ length items) × (length items ≤ max_records form level) × (level ≡ 0 → HoldsRecords form bytes)
  unfolding IsBlockOf items_held
  block_holds zero site place items bytes is =
      (leaf_records form laws site place bytes items is, leaf_count form laws site place bytes items is, is.few, λ low. holds_records form laws site place bytes items is)
  block_holds (suc level) site place items bytes is =
      (node_entries form laws site place bytes items is, node_count form laws site place bytes items is, is.few, λ low. absurd (omega (arith, low)))

  pub block_key : (level : ℕ) (site : Site) (place : Place) (items : List (Item X level)) (bytes : List ℕ) → IsBlockOf form level site place items bytes
      → 1 ≤ length items → GivesKey form level bytes
  block_key level site place items bytes is some =
      let holds = block_holds level site place items bytes is in
      record { tested = holds.3; some = omega (arith, some, holds.1); few = omega (arith, holds.1, holds.2) }

  pub block_whole : (b : Blocks) (level least : ℕ) (place : Place) → length b.uuid ≡ 16 → IsBlock (block_at b place.number)
      → IsWholeAt form (site_of b) (tree_held form b) level least place (block_at b place.number)
      → IsBlockOf form level (site_of b) place (items_held form level (block_at b place.number)) (block_at b place.number)
  unfolding IsBlockOf IsWholeAt items_held
  block_whole b zero least place identified block whole =
      leaf_of_whole form laws (site_of b) place (block_at b place.number) least identified block.long block.are_bytes whole
  block_whole b (suc level) least place identified block whole =
      node_of_whole form laws (site_of b) place (block_at b place.number) least identified block.long block.are_bytes whole

  pub whole_now : (a z : Blocks) (level : ℕ) (place : Place) (items : List (Item X level)) → IsBlockOf form level (site_of a) place items (block_at z place.number)
      → min_records form level ≤ length items → IsWholeAt form (site_of a) (tree_held form z) level (min_records form level) place (block_at z place.number)
  unfolding IsBlockOf IsWholeAt
  whole_now a z zero place items is many =
      let holds = leaf_records form laws (site_of a) place (block_at z place.number) items is in
      record {
        whole = is.whole ∙ ap (leaf_bytes form (site_of a) place) (sym holds);
        least_items = omega (arith, many, ap length holds);
        most_items = omega (arith, is.few, ap length holds);
      }
  whole_now a z (suc level) place items is many =
      let holds = node_entries form laws (site_of a) place (block_at z place.number) items is in
      record {
        whole = is.whole ∙ ap (node_bytes form (site_of a) place) (sym holds);
        least_items = omega (arith, many, ap length holds);
        most_items = omega (arith, is.few, ap length holds);
      }

-- what a block was made stays where it isn't written again
pub items_later : {X : Type 0} (form : Form X) (a b z : Blocks) (level : ℕ) (old new : List ℕ) → HaveSameItems form a b level old new
    → ((m : ℕ) → 1 ≤ times m new → block_at z m ≡ block_at b m) → HaveSameItems form a z level old new
items_later form a b z level old new items same = items_same form b z level new (λ m there. holds_same form b z m (same m there)) ∙ items

pub entry_later : {X : Type 0} (form : Form X) (b z : Blocks) (level m : ℕ) → block_at z m ≡ block_at b m → entry_for form b level m ≡ entry_for form z level m
entry_later form b z level m same =
    ap (λ (key : List ℕ). let e : Entry = record { key = key; child = m } in e) (sym (key_same form b z level m (holds_same form b z m same)))
