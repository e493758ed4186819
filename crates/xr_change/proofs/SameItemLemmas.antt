-- Two rows whose blocks hold the same items, one block after the other: what stands below them is the same.
use Rattle.std.proofs.Common.{◌≡◌, ℕ, zero, suc, ◌+◌, ◌≤◌, None, List, [], ◌∷◌, ◌++◌, map, get_or, refl, sym, ap, ◌∙◌, subst, arith, All, flat_map}
use Rattle.std.proofs.lemmas.List.{get_or-map, length-map, map-append}
use Rattle.std.proofs.lemmas.List.Concat.{flat_map-append}
use Rattle.std.proofs.lemmas.List.Elements.{All-append}
use Rattle.xr_kinds.specs.Form.{Form}
use Rattle.xr_block.specs.FrameLaws.{are_rows_same, flat_map_same, leaf_same, node_same}
use Rattle.xr_pool.specs.Overlay.{Blocks, block_at}
use Rattle.xr_block.specs.Rows.{AreLinked, AreNamed, AreRowsOf, Held, min_records, key_held, leaves_from, named_below}
use Rattle.xr_block.specs.Times.{times}
use Rattle.xr_block.specs.Tree.{blocks_of, records_of, tree_held}
use Rattle.xr_block.specs.TreeBlock.{Entry, Place, Site}
use Rattle.xr_block.specs.TimesLaws.{times_of, times-append}
use Rattle.xr_change.specs.Alters.{HoldsSame, IsWholeAt}
use Rattle.xr_change.specs.Regroups.{HaveSameItems, rows_below, items_held}
use Rattle.xr_change.proofs.RowBlockLemmas.{blocks_same, children, holds_same, key_same, records_same, times_below, times_blocks_append, times_leaves, times_row}
use Rattle.xr_block.specs.PartLaws.{all_left, all_right}
use Rattle.xr_block.specs.UnderLaws.{same_each}

-- the children that some blocks name are those of their entries
pub named_flat : {X : Type 0} (held : Held X) (row : List ℕ) → flat_map (named_below held) row ≡ map (λ (e : Entry). e.child) (flat_map held.entries row)
named_flat held [] = refl
named_flat held (n ∷ ns) = rw (named_flat held ns) (sym (map-append (λ (e : Entry). e.child) (held.entries n) (flat_map held.entries ns)))

-- each entry has the key of its child
pub each_key : (key : ℕ → List ℕ) (es : List Entry) → All (λ (e : Entry). e.key ≡ key e.child) es
    → map (λ (e : Entry). e.key) es ≡ map key (map (λ (e : Entry). e.child) es)
each_key key [] all = refl
each_key key (e ∷ es) all =
    rw (all 0 e (omega arith), each_key key es (λ k d within. all (suc k) d (omega arith))) refl

module _ {X : Type 0} (form : Form X) (held : Held X) (level : ℕ) where
  abbrev pub GivesKey : Entry → Type 0
  GivesKey e = e.key ≡ key_held form held level e.child

  pub named_entries : (row : List ℕ) → AreNamed form held level row → All GivesKey (flat_map held.entries row)
  unfolding AreNamed
  named_entries [] named = λ k d within. absurd (omega (arith, within))
  named_entries (n ∷ ns) named =
      All-append GivesKey (held.entries n) (flat_map held.entries ns) (same_each (λ (e : Entry). e.key) (λ (e : Entry). e.child) (key_held form held level) (held.entries n) named.0)
      (named_entries ns named.1)

  pub entries_named : (row : List ℕ) → All GivesKey (flat_map held.entries row) → AreNamed form held level row
  unfolding AreNamed
  entries_named [] all = tt
  entries_named (n ∷ ns) all = (
    each_key (key_held form held level) (held.entries n) (all_left GivesKey (held.entries n) (flat_map held.entries ns) all),
    entries_named ns (all_right GivesKey (held.entries n) (flat_map held.entries ns) all),
  )

-- entries have the keys of their children still where these have the same
pub keys_stay : {X : Type 0} (form : Form X) (held held' : Held X) (level : ℕ) (es : List Entry)
    → ((m : ℕ) → 1 ≤ times m (map (λ (e : Entry). e.child) es) → key_held form held' level m ≡ key_held form held level m)
    → All (GivesKey form held level) es → All (GivesKey form held' level) es
keys_stay form held held' level es same all k d within =
    let e = get_or es k d in
    let child : Entry → ℕ = λ entry. entry.child in
    all k d within ∙ sym (same e.child (times_of (map child es) e.child (k, omega (arith, within, length-map es child), get_or-map child es k d e.child within)))

pub times_rows : {X : Type 0} (form : Form X) (b : Blocks) (m level : ℕ) (row : List ℕ)
    → times m (blocks_of form b level row) ≡ times m row + times m (rows_below form b level row)
times_rows form b m zero row = omega (arith, times_leaves form b m row)
times_rows form b m (suc level) row = times_below form b m level row

pub times_rest_append : {X : Type 0} (form : Form X) (b : Blocks) (m level : ℕ) (xs ys : List ℕ)
    → times m (rows_below form b level (xs ++ ys)) ≡ times m (rows_below form b level xs) + times m (rows_below form b level ys)
times_rest_append {X = X} form b m level xs ys = omega (arith, times_rows {X = X}, times_blocks_append form b m level xs ys, times-append)

-- the first row of some is linked
pub row_linked : {X : Type 0} (form : Form X) (site : Site) (at : ℕ → List ℕ) (held : Held X) (least level : ℕ) (row : List ℕ)
    → AreRowsOf form site at held least level row → AreLinked (IsWholeAt form site held level least) at level None row None
unfolding AreRowsOf IsWholeAt
row_linked form site at held least zero row rows = rows
row_linked form site at held least (suc level) row rows = rows.0

-- the same items
module _ {X : Type 0} (form : Form X) (before after : Blocks) where
  pub item_same : (level m : ℕ) → HoldsSame form before after m → items_held form level (block_at after m) ≡ items_held form level (block_at before m)
  unfolding items_held
  item_same zero m same = same.same_records
  item_same (suc level) m same = same.same_entries

  pub items_append : (level : ℕ) (xs ys xs' ys' : List ℕ) → HaveSameItems form before after level xs xs' → HaveSameItems form before after level ys ys'
      → HaveSameItems form before after level (xs ++ ys) (xs' ++ ys')
  items_append level xs ys xs' ys' front rest =
      flat_map-append (λ (m : ℕ). items_held form level (block_at after m)) xs' ys' ∙ rw (front, rest)
      (sym (flat_map-append (λ (m : ℕ). items_held form level (block_at before m)) xs ys))

  pub items_same : (level : ℕ) (row : List ℕ) → ((m : ℕ) → 1 ≤ times m row → HoldsSame form before after m) → HaveSameItems form before after level row row
  items_same level row same =
      flat_map_same (λ (m : ℕ). items_held form level (block_at after m)) (λ (m : ℕ). items_held form level (block_at before m)) row
      (λ m within. item_same level m (same m (times_of row m within)))

  pub whole_same : (site : Site) (least level : ℕ) (place : Place) → block_at after place.number ≡ block_at before place.number
      → IsWholeAt form site (tree_held form before) level least place (block_at before place.number)
      → IsWholeAt form site (tree_held form after) level least place (block_at after place.number)
  unfolding IsWholeAt
  whole_same site least zero place same whole = leaf_same form (block_at before) (block_at after) site least place same whole
  whole_same site least (suc level) place same whole = node_same form (block_at before) (block_at after) site least place same whole

  module _ (row row' : List ℕ) where
    below_same : (level : ℕ) → HaveSameItems form before after (suc level) row row' → children form after row' ≡ children form before row
    unfolding items_held
    below_same level items =
        named_flat (tree_held form after) row' ∙ ap (map (λ (e : Entry). e.child)) items ∙ sym (named_flat (tree_held form before) row)

    -- the rows below stay, and so do all records
    pub rest_regrouped : (level : ℕ) → HaveSameItems form before after level row row'
        → ((m : ℕ) → 1 ≤ times m (rows_below form before level row) → block_at after m ≡ block_at before m)
        → rows_below form after level row' ≡ rows_below form before level row
    rest_regrouped zero items same = refl
    rest_regrouped (suc level) items same =
        rw (below_same level items) (blocks_same form before after level (children form before row) (λ m some. holds_same form before after m (same m some)))

    pub records_regrouped : (level : ℕ) → HaveSameItems form before after level row row'
        → ((m : ℕ) → 1 ≤ times m (rows_below form before level row) → block_at after m ≡ block_at before m)
        → records_of form after level row' ≡ records_of form before level row
    unfolding items_held leaves_from
    records_regrouped zero items same = items
    records_regrouped (suc level) items same =
        rw (below_same level items) (records_same form before after level (children form before row) (λ m some. holds_same form before after m (same m some)))

    pub rows_regrouped : (site : Site) (least level : ℕ) → HaveSameItems form before after level row row'
        → ((m : ℕ) → 1 ≤ times m (rows_below form before level row) → block_at after m ≡ block_at before m)
        → AreLinked (IsWholeAt form site (tree_held form after) level least) (block_at after) level None row' None
        → AreRowsOf form site (block_at before) (tree_held form before) least level row
        → AreRowsOf form site (block_at after) (tree_held form after) least level row'
    unfolding AreRowsOf IsWholeAt items_held
    rows_regrouped site least zero items same linked rows = linked
    rows_regrouped site least (suc level) items same linked rows = (
      linked,
      -- the nodes of both name the same children with the same keys
      entries_named form (tree_held form after) level row' (subst (All (GivesKey form (tree_held form after) level)) (sym items)
          (keys_stay form (tree_held form before) (tree_held form after) level (flat_map (tree_held form before).entries row)
          (λ m some. key_same form before after level m (holds_same form before after m
          (same m (omega (arith, some, ap (times m) (named_flat (tree_held form before) row), times_row form before m level (children form before row))))))
          (named_entries form (tree_held form before) level row rows.1))),
      subst (AreRowsOf form site (block_at after) (tree_held form after) (min_records form level) level) (sym (below_same level items))
          (are_rows_same form (block_at before) (block_at after) site (min_records form level) level (children form before row)
          (λ m within. same m (times_of (blocks_of form before level (children form before row)) m within)) rows.2),
    )
