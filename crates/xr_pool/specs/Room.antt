-- How much room the used blocks of a pool leave in it.
use Rattle.std.specs.Prelude.{◌≡◌, ℕ, ◌+◌, ◌<◌, ◌≤◌, false, List, length}
use Rattle.std.specs.List.{Contains}
use Rattle.xr_pool.specs.Overlay.{Blocks, free_count, is_free, pool_size}

-- some blocks are all that aren't free; block 0 is none of the pool's
abbrev pub HoldAllUsed : Blocks → List ℕ → Type 0
HoldAllUsed b used = (n : ℕ) → 1 ≤ n → n < pool_size b → is_free b n ≡ false → Contains used n

-- the free blocks of a pool are all but block 0 and the used ones
abbrev pub LeavesRoom : Type 0
LeavesRoom = (b : Blocks) (used : List ℕ) → HoldAllUsed b used → pool_size b ≤ free_count b + length used + 1
