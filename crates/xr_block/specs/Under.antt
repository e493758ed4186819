-- A block of a tree as a lookup comes to it: its row is that of a tree, and the records under it ascend.
use Rattle.std.specs.Prelude.{◌≡◌, ℕ, ◌<◌, true, List}
use Rattle.std.specs.List.{All, AllPairs, Contains, concat}
use Rattle.std.specs.declared.cmp.Ordering.TheVariants.{Less}
use Rattle.xr_kinds.specs.Form.{Form}
use Rattle.xr_pool.specs.Overlay.{Blocks, block_at, pool_size}
use Rattle.xr_block.specs.Rows.{AreRowsOf, rows_from}
use Rattle.xr_block.specs.Tree.{site_of, tree_held, tree_records}

pub record IsUnder {X : Type 0} (form : Form X) (b : Blocks) (level n : ℕ) : Type 0 where
  pub least : ℕ
  pub row : List ℕ
  pub within : Contains row n
  pub rows : AreRowsOf form (site_of b) (block_at b) (tree_held form b) least level row
  pub own : All (λ (m : ℕ). m < pool_size b) (concat (rows_from (tree_held form b) level row))
  pub valid : All (λ (r : X). form.is_valid r ≡ true) (tree_records form b n level)
  pub ascend : AllPairs (λ (x y : X). form.order x y ≡ Less) (tree_records form b n level)
  pub agree : AllPairs (λ (x y : X). form.agree x y ≡ true) (tree_records form b n level)
