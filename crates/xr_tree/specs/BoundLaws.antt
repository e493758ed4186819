-- How many blocks a tree can have: each block but the root is half full, so few records have few blocks.
use Rattle.std.proofs.Common.{◌≡◌, ℕ, zero, suc, ◌+◌, ◌-◌, ◌*◌, ◌/◌, ◌≤◌, Option, Some, None, List, [], ◌∷◌, ◌++◌, length, refl, ap, ◌∙◌, subst, arith}
use Rattle.std.proofs.Math.Nat.{le-mul_of_pos_right}
use Rattle.std.proofs.lemmas.List.{append-nil, length-append, length-map}
use Rattle.std.specs.List.{concat, flat_map}
use Rattle.xr_kinds.specs.Form.{Form, IsForm}
use Rattle.xr_pool.specs.Overlay.{Blocks, block_at}
use Rattle.xr_block.specs.Rows.{AreLinked, AreRowsOf, Held, IsWholeLeaf, IsWholeNode, first_of, min_records, leaves_from, named_below, rows_from}
use Rattle.xr_block.specs.Tree.{IsTreeIn, site_of, tree_blocks, tree_held, tree_records}
use Rattle.xr_block.specs.TreeBlock.{Entry, Place, Site, entries_in}

less_one : (n h : ℕ) → 1 ≤ h → n * h ≡ n * (h - 1) + n
less_one n zero some = absurd (omega arith)
less_one n (suc m) some = let rest : suc m - 1 ≡ m = omega arith in rw rest (let sum : n * suc m ≡ n * m + n = omega arith in sum)

-- a row has as many items at least as its blocks have
row_holds : {I : Type 0} (P : Place → List ℕ → Type 0) (at : ℕ → List ℕ) (items : ℕ → List I) (least level : ℕ) (left : Option ℕ) (row : List ℕ) (right : Option ℕ)
    → ((place : Place) → P place (at place.number) → least ≤ length (items place.number)) → AreLinked P at level left row right
    → length row * least ≤ length (flat_map items row)
unfolding AreLinked
row_holds P at items least level left [] right each linked = omega arith
row_holds P at items least level left (n ∷ ns) right each linked =
    let here = each (record { number = n; level = level; left = left; right = first_of ns right }) linked.0 in
    let rest = row_holds P at items least level (Some n) ns right each linked.1 in
    omega (arith, here, rest, length-append (items n) (flat_map items ns))

-- a row on top of others
rows_add : (row below under all leaves h : ℕ) → 1 ≤ h → all ≡ row + under → row * h ≤ below → under * (h - 1) + below ≤ leaves * h
    → all * (h - 1) + row ≤ leaves * h
rows_add row below under all leaves h some is here rest =
    let sum : (row + under) * (h - 1) ≡ row * (h - 1) + under * (h - 1) = omega arith in
    rw (is, sum) (omega (arith, less_one row h some))

module _ {X : Type 0} (form : Form X) (laws : IsForm form) (site : Site) (at : ℕ → List ℕ) (held : Held X) where
  leaves_hold : (least : ℕ) (row : List ℕ) → AreLinked (IsWholeLeaf form site held least) at 0 None row None → length row * least ≤ length (flat_map held.records row)
  leaves_hold least row = row_holds (IsWholeLeaf form site held least) at held.records least 0 None row None (λ place whole. whole.least_items)

  pub nodes_hold : (least level : ℕ) (row : List ℕ) → AreLinked (IsWholeNode form site held least) at (suc level) None row None
      → length row * least ≤ length (flat_map (named_below held) row)
  nodes_hold least level row =
      row_holds (IsWholeNode form site held least) at (named_below held) least (suc level) None row None
      (λ place whole. omega (arith, whole.least_items, length-map (held.entries place.number) (λ (e : Entry). e.child)))

  -- each row is at most as long as the part of the row below that half full nodes leave of it
  pub few_blocks : (level : ℕ) (row : List ℕ) → AreRowsOf form site at held (min_records form level) level row
      → (let leaves = leaves_from held level row in
      (length leaves * (form.leaf_max / 2) ≤ length (flat_map held.records leaves))
      × (length (concat (rows_from held level row)) * (form.node_max / 2 - 1) + length row ≤ length leaves * (form.node_max / 2)))
  unfolding AreRowsOf min_records leaves_from rows_from
  few_blocks zero row rows = (
    leaves_hold (form.leaf_max / 2) row rows,
    rw (append-nil row) (omega (arith, less_one (length row) (form.node_max / 2) (omega (arith, laws.node_some)))),
  )
  few_blocks (suc level) row rows =
      let below : List ℕ = flat_map (named_below held) row in
      let rest = few_blocks level below rows.2 in
      let here = nodes_hold (form.node_max / 2) level row rows.0 in (
        rest.0,
        rows_add (length row) (length below) (length (concat (rows_from held level below))) (length (row ++ concat (rows_from held level below)))
            (length (leaves_from held level below)) (form.node_max / 2) (omega (arith, laws.node_some)) (length-append row (concat (rows_from held level below))) here rest.1,
      )

  -- a row has no more blocks than there are leaves under it
  pub row_few : (level : ℕ) (row : List ℕ) → AreRowsOf form site at held (min_records form level) level row
      → length row ≤ length (leaves_from held level row)
  unfolding AreRowsOf min_records leaves_from
  row_few zero row rows = omega arith
  row_few (suc level) row rows =
      let below : List ℕ = flat_map (named_below held) row in
      let wide = nodes_hold (form.node_max / 2) level row rows.0 in
      let more : length row ≤ length row * (form.node_max / 2) = le-mul_of_pos_right (length row) (omega (arith, laws.node_some)) in
      omega (arith, more, wide, row_few level below rows.2)

-- the blocks below the root of a tree, by its records
pub record HasFew {X : Type 0} (form : Form X) (b : Blocks) (root level : ℕ) : Type 0 where
  pub leaves : ℕ
  pub below : ℕ
  pub all : length (tree_blocks form b root level) ≡ below + 1
  pub full : leaves * (form.leaf_max / 2) ≤ length (tree_records form b root level)
  pub few : below * (form.node_max / 2 - 1) ≤ leaves * (form.node_max / 2)

pub has_few : {X : Type 0} (form : Form X) (laws : IsForm form) (b : Blocks) (root level : ℕ) → IsTreeIn form b root level → HasFew form b root level
unfolding AreRowsOf leaves_from rows_from
has_few form laws b root zero tree = record { leaves = 0; below = 0; all = refl; full = omega arith; few = omega arith }
has_few form laws b root (suc level) tree =
    let held = tree_held form b in
    let row : List ℕ = flat_map (named_below held) (root ∷ []) in
    let counts = few_blocks form laws (site_of b) (block_at b) held level row tree.rows.2 in
    record {
      leaves = length (leaves_from held level row);
      below = length (concat (rows_from held level row));
      all = omega arith;
      full = counts.0;
      few = omega (arith, counts.1);
    }

-- the children of the root of a tree, and its leaves, where it has two levels of nodes or more
pub record IsTall {X : Type 0} (form : Form X) (b : Blocks) (root level : ℕ) : Type 0 where
  pub second : ℕ
  pub leaves : ℕ
  pub two : 2 ≤ length (entries_in form (block_at b root))
  pub wide : length (entries_in form (block_at b root)) * (form.node_max / 2) ≤ second
  pub more : second ≤ leaves
  -- three or more
  pub wider : (below : ℕ) → level ≡ suc below → second * (form.node_max / 2) ≤ leaves
  pub full : leaves * (form.leaf_max / 2) ≤ length (tree_records form b root (suc (suc level)))

module _ {X : Type 0} (form : Form X) (laws : IsForm form) (b : Blocks) (root : ℕ) where
  abbrev held : Held X
  held = tree_held form b

  abbrev row : List ℕ
  row = flat_map (named_below held) (root ∷ [])

  children : length row ≡ length (entries_in form (block_at b root))
  children = ap length (append-nil (named_below held root)) ∙ length-map (entries_in form (block_at b root)) (λ (e : Entry). e.child)

  -- each child of a root over leaves is half full
  pub root_few : IsTreeIn form b root 1 → length (entries_in form (block_at b root)) * (form.leaf_max / 2) ≤ length (tree_records form b root 1)
  unfolding AreRowsOf leaves_from min_records
  root_few tree =
      let counts = few_blocks form laws (site_of b) (block_at b) held 0 row tree.rows.2 in
      subst (λ (n : ℕ). n * (form.leaf_max / 2) ≤ length (tree_records form b root 1)) children counts.0

  third_wide : (level : ℕ) (below : List ℕ) → AreRowsOf form (site_of b) (block_at b) held (min_records form level) level below
      → (under : ℕ) → level ≡ suc under → length below * (form.node_max / 2) ≤ length (leaves_from held level below)
  unfolding AreRowsOf leaves_from min_records
  third_wide zero below rows under is = absurd (omega arith)
  third_wide (suc level) below rows under is =
      let wide = nodes_hold form laws (site_of b) (block_at b) held (form.node_max / 2) level below rows.0 in
      omega (arith, wide, row_few form laws (site_of b) (block_at b) held level (flat_map (named_below held) below) rows.2)

  pub is_tall : (level : ℕ) → IsTreeIn form b root (suc (suc level)) → IsTall form b root level
  unfolding AreRowsOf leaves_from min_records
  is_tall level tree =
      let site = site_of b in
      let at = block_at b in
      let below : List ℕ = flat_map (named_below held) row in
      let counts = few_blocks form laws site at held (suc level) row tree.rows.2 in
      let some = nodes_hold form laws site at held 2 (suc level) (root ∷ []) tree.rows.0 in
      record {
        second = length below;
        leaves = length (leaves_from held level below);
        two = omega (arith, some, children);
        wide = subst (λ (n : ℕ). n * (form.node_max / 2) ≤ length below) children (nodes_hold form laws site at held (form.node_max / 2) level row tree.rows.2.0);
        more = row_few form laws site at held level below tree.rows.2.2;
        wider = third_wide level below tree.rows.2.2;
        full = counts.0;
      }
