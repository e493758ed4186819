-- What stays of a group's free blocks where other blocks of their pool are changed.
use Rattle.std.specs.Prelude.{◌≡◌, ◌↔◌, ℕ, List}
use Rattle.std.specs.List.{Contains}
use Rattle.xr_block.specs.Frame.{ChangesOnly}
use Rattle.xr_pool.specs.Overlay.{Blocks}
use Rattle.xr_space.specs.Space.{ArePaired, IsFreeBlock, IsSpace, block_blocks, block_records, size_blocks, size_records, space_blocks}
use Rattle.xr_space.specs.declared.space.Space.{Space}

-- of both trees, where the blocks that were changed are `new` now
pub record SpaceStays (before after : Blocks) (s : Space) (new : List ℕ) : Type 0 where
  pub space : IsSpace after s
  pub same_runs : block_records after s ≡ block_records before s
  pub same_sizes : size_records after s ≡ size_records before s
  pub same_block_blocks : block_blocks after s ≡ block_blocks before s
  pub same_size_blocks : size_blocks after s ≡ size_blocks before s
  pub paired : ArePaired after s ↔ ArePaired before s
  pub free : (n : ℕ) → IsFreeBlock after s n ↔ IsFreeBlock before s n
  pub own : (n : ℕ) → Contains (space_blocks after s) n → ¬ (Contains new n)

abbrev pub SpaceStaysBeside : Type 0
SpaceStaysBeside =
    (before after : Blocks) (s : Space) (old new : List ℕ) → IsSpace before s → ChangesOnly before old after new
    → ((n : ℕ) → Contains (space_blocks before s) n → ¬ (Contains old n)) → SpaceStays before after s new
