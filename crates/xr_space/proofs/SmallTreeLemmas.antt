-- A tree of free runs has at most two levels, and a root that isn't full where it has two: so an insertion takes at most two
-- blocks, and a change writes at most seven.
use Rattle.std.proofs.Common.{◌≡◌, ℕ, zero, suc, ◌+◌, ◌/◌, ◌≤◌, Bool, true, false, if◌then◌else◌, List, [], ◌∷◌, ◌++◌, length, ap, ◌∙◌, arith}
use Rattle.std.proofs.lemmas.Bool.{ne_eqb}
use Rattle.std.proofs.lemmas.List.{append-nil, length-append, length-map}
use Rattle.std.specs.List.{concat, flat_map}
use Rattle.xr_kinds.specs.declared.span.Span.{Span}
use Rattle.xr_kinds.specs.Form.{Form}
use Rattle.xr_pool.specs.Overlay.{Blocks, block_at}
use Rattle.xr_block.specs.Rows.{AreRowsOf, Held, min_records, leaves_from, named_below, rows_from}
use Rattle.xr_block.specs.Tree.{IsTreeIn, site_of, tree_held, tree_records}
use Rattle.xr_block.specs.TreeBlock.{Entry, entries_in}
use Rattle.xr_change.specs.Paths.{blocks_wanted, child_of, full_on_path, is_full, path_index}
use Rattle.xr_space.proofs.RunRecordLemmas.{IsRunForm, few_runs}
use Rattle.xr_tree.specs.BoundLaws.{few_blocks, nodes_hold}

one_at_most : (t : Bool) → (if t then 1 else 0) ≤ 1
one_at_most true = omega arith
one_at_most false = omega arith

row_within : {X : Type 0} (held : Held X) (level : ℕ) (row : List ℕ) → length row ≤ length (concat (rows_from held level row))
unfolding rows_from
row_within held zero row = omega (arith, length-append row [])
row_within held (suc level) row = omega (arith, length-append row (concat (rows_from held level (flat_map (named_below held) row))))

module _ {X : Type 0} (form : Form X) (span_of : X → Span) (runs : IsRunForm form span_of) (b : Blocks) (root : ℕ) where
  few_records : (level : ℕ) → IsTreeIn form b root level → length (tree_records form b root level) ≤ 2048
  few_records level tree = few_runs form span_of runs (tree_records form b root level) tree.records.valid tree.records.agree

  half_leaf : form.leaf_max / 2 ≡ 252
  half_leaf = omega (arith, runs.leaf)

  half_node : form.node_max / 2 ≡ 168
  half_node = omega (arith, runs.node)

  -- two levels of nodes would have too many records
  not_high : (level : ℕ) → IsTreeIn form b root (suc (suc level)) → ⊥
  unfolding AreRowsOf leaves_from rows_from min_records
  not_high level tree =
      let held = tree_held form b in
      let row : List ℕ = flat_map (named_below held) (root ∷ []) in
      let below : List ℕ = flat_map (named_below held) row in
      let counts = few_blocks form runs.laws (site_of b) (block_at b) held (suc level) row tree.rows.2 in
      let some = nodes_hold form runs.laws (site_of b) (block_at b) held 2 (suc level) (root ∷ []) tree.rows.0 in
      let more = nodes_hold form runs.laws (site_of b) (block_at b) held (form.node_max / 2) level row tree.rows.2.0 in
      let under : length (row ++ concat (rows_from held level below)) ≡ length row + length (concat (rows_from held level below)) =
      length-append row (concat (rows_from held level below)) in
      let full = rw half_leaf at counts.0 in
      let few = rw half_node at counts.1 in
      let wide = rw half_node at more in
      omega (arith, few_records (suc (suc level)) tree, full, few, wide, some, under, row_within held level below)

  pub is_low : (level : ℕ) → IsTreeIn form b root level → level ≤ 1
  is_low zero tree = omega arith
  is_low (suc zero) tree = omega arith
  is_low (suc (suc level)) tree = absurd (not_high level tree)

  -- a root over leaves isn't full
  root_has_room : IsTreeIn form b root 1 → is_full form b 1 root ≡ false
  unfolding AreRowsOf leaves_from min_records
  root_has_room tree =
      let held = tree_held form b in
      let row : List ℕ = flat_map (named_below held) (root ∷ []) in
      let counts = few_blocks form runs.laws (site_of b) (block_at b) held 0 row tree.rows.2 in
      let long : length row ≡ length (entries_in form (block_at b root)) =
      ap length (append-nil (named_below held root)) ∙ length-map (entries_in form (block_at b root)) (λ (e : Entry). e.child) in
      let few = rw half_leaf at counts.0 in
      ne_eqb (length (entries_in form (block_at b root))) form.node_max (λ full. absurd (omega (arith, few, few_records 1 tree, long, full, runs.node)))

  pub few_wanted : (level : ℕ) (r : X) → IsTreeIn form b root level → blocks_wanted form b level root r ≤ 2
  unfolding full_on_path
  few_wanted zero r tree = omega (arith, one_at_most (is_full form b 0 root))
  few_wanted (suc zero) r tree =
      let child : ℕ = child_of form b root (path_index form r (entries_in form (block_at b root))) in
      rw (root_has_room tree) (omega (arith, one_at_most (is_full form b 0 child)))
  few_wanted (suc (suc level)) r tree = absurd (not_high level tree)
