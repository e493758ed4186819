-- Blocks of fresh images.
use Rattle.std.specs.Prelude.{◌≡◌, ℕ, ◌<◌, ◌≤◌, List}
use Rattle.xr_base.specs.Image.{block_of}
use Rattle.xr_headers.specs.FreshImage.{fresh_block_of}

-- the blocks from `first` to below `end` are those of a fresh image
abbrev pub HasFreshBlocks : List ℕ → ℕ → ℕ → ℕ → List ℕ → Type 0
HasFreshBlocks uuid cycle first «end» image = (k : ℕ) → first ≤ k → k < «end» → block_of image k ≡ fresh_block_of uuid cycle k
