-- How many records there are under a block of a tree: those of a leaf, or those under each child of a node.
use Rattle.std.proofs.Common.{◌≡◌, ℕ, suc, ◌+◌, ◌<◌, List, [], length, drop, get_or, sym, ap, ◌∙◌}
use Rattle.std.proofs.lemmas.List.{at_drop_more, length-append}
use Rattle.std.specs.List.{flat_map}
use Rattle.xr_block.specs.DescentLaws.{node_holds}
use Rattle.xr_block.specs.Tree.{tree_held, tree_records}
use Rattle.xr_block.specs.TreeBlock.{Entry, entries_in, records_in}
use Rattle.xr_block.specs.Under.{IsUnder}
use Rattle.xr_block.specs.UnderLaws.{leaf_records}
use Rattle.xr_kinds.specs.Form.{Form, IsForm}
use Rattle.xr_pool.specs.Overlay.{Blocks, block_at}

-- how many records there are under the children of a node from the k-th on
abbrev pub count_after : {X : Type 0} → Form X → Blocks → ℕ → ℕ → ℕ → ℕ
count_after form b level n k = length (flat_map (λ (e : Entry). tree_records form b e.child level) (drop k (entries_in form (block_at b n))))

-- those of a leaf
pub in_leaf : {X : Type 0} (form : Form X) (b : Blocks) (level n m : ℕ) → level ≡ 0 → m ≡ length (records_in form (block_at b n))
    → m ≡ length (tree_records form b n level)
in_leaf form b level n m leaf is =
    is ∙ ap length (sym (leaf_records (tree_held form b) n)) ∙ ap (λ (l : ℕ). length (tree_records form b n l)) (sym leaf)

module _ {X : Type 0} (form : Form X) (b : Blocks) (level n : ℕ) where
  pub all_after : (laws : IsForm form) (top : ℕ) → top ≡ suc level → IsUnder form b top n → count_after form b level n 0 ≡ length (tree_records form b n top)
  all_after laws top above under = ap length (sym (node_holds form laws b top level n above under))

  pub next_after : (k c : ℕ) → k < length (entries_in form (block_at b n))
      → ((d : Entry) → (let e = get_or (entries_in form (block_at b n)) k d in c ≡ e.child))
      → count_after form b level n k ≡ length (tree_records form b c level) + count_after form b level n (k + 1)
  next_after k c within child =
      let entries : List Entry = entries_in form (block_at b n) in
      let d : Entry = record { key = []; child = 0 } in
      at_drop_more (λ (es : List Entry). length (flat_map (λ (e : Entry). tree_records form b e.child level) es)) entries k d within
      ∙ length-append (tree_records form b (get_or entries k d).child level) (flat_map (λ (e : Entry). tree_records form b e.child level) (drop (k + 1) entries))
      ∙ ap (λ (m : ℕ). length (tree_records form b m level) + count_after form b level n (k + 1)) (sym (child d))
