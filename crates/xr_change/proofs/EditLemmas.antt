-- A block of a draft that is edited: the edit is told of the block with its checksum, which it may not have yet.
use Rattle.std.proofs.Common.{◌<◌, ◌≡◌, ℕ, zero, suc, List, length, sym, ap, ◌∙◌, subst}
use Rattle.xr_kinds.specs.Form.{Form}
use Rattle.xr_pool.specs.Overlay.{Blocks, block_at, pool_size, with_block}
use Rattle.xr_pool.specs.OverlayLaws.{block_written}
use Rattle.xr_block.specs.Rows.{held_in, key_held, key_of_entries, key_of_records}
use Rattle.xr_block.specs.Tree.{tree_held}
use Rattle.xr_block.specs.TreeBlock.{Entry, Place, Site, tree_block}
use Rattle.xr_change.proofs.ReadLemmas.{read_entries, read_records}
use Rattle.xr_change.specs.Draft.{ReadsAs}
use Rattle.xr_block.specs.Edits.{IsLeafOf, IsNodeOf, sealed}
use Rattle.xr_block.specs.SealLaws.{sealed_block}

module _ {X : Type 0} (form : Form X) (bytes whole : List ℕ) (reads : ReadsAs form bytes whole) (site : Site) (place : Place) where
  pub tree_read : (count : ℕ) (items : List ℕ) → length site.uuid ≡ 16 → whole ≡ tree_block form site place count items → sealed form bytes ≡ whole
  tree_read count items identified is = reads.sealed ∙ ap (sealed form) is ∙ sealed_block form site place count items identified ∙ sym is

  pub leaf_read : (records : List X) → IsLeafOf form site place records whole → IsLeafOf form site place records (sealed form bytes)
  leaf_read records is = subst (IsLeafOf form site place records) (sym (tree_read _ _ is.identified is.whole)) is

  pub node_read : (entries : List Entry) → IsNodeOf form site place entries whole → IsNodeOf form site place entries (sealed form bytes)
  node_read entries is = subst (IsNodeOf form site place entries) (sym (tree_read _ _ is.identified is.whole)) is

-- a node that is edited
pub edited_node : {X : Type 0} (form : Form X) (b : Blocks) (n : ℕ) {bytes : List ℕ} (next : List ℕ) (edit : List Entry → List Entry) → n < pool_size b
    → ReadsAs form bytes (block_at b n)
    → ((site : Site) (place : Place) (entries : List Entry) → IsNodeOf form site place entries (sealed form bytes) → IsNodeOf form site place (edit entries) (sealed form next))
    → (site : Site) (place : Place) (entries : List Entry) → IsNodeOf form site place entries (block_at b n)
    → IsNodeOf form site place (edit entries) (block_at (with_block b n (sealed form next)) n)
edited_node form b n next edit within reads edited site place entries whole =
    subst (IsNodeOf form site place (edit entries)) (sym (block_written b n (sealed form next) within))
    (edited site place entries (node_read form _ _ reads site place entries whole))

-- the key of a block is that of its bytes
pub key_read : {X : Type 0} (form : Form X) (b : Blocks) (bytes : List ℕ) (level n : ℕ) → ReadsAs form bytes (block_at b n)
    → key_held form (held_in form (λ (m : ℕ). bytes)) level n ≡ key_held form (tree_held form b) level n
unfolding key_held
key_read form b bytes zero n reads = ap (key_of_records form) (read_records form bytes (block_at b n) reads)
key_read form b bytes (suc level) n reads = ap (key_of_entries form) (read_entries form bytes (block_at b n) reads)
