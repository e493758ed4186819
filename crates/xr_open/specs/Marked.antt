-- Marks that have all of a pool that is used.
use Rattle.std.specs.Prelude.{◌≡◌, ◌↔◌, ℕ, ◌<◌, ◌≤◌, false, true, List, ◌++◌, replicate, []}
use Rattle.std.specs.List.{Contains}
use Rattle.xr_block.specs.Trees.{Marks}
use Rattle.xr_pool.specs.Bits.{has_bit}
use Rattle.xr_pool.specs.Overlay.{Blocks, is_free, pool_size}
use Rattle.xr_pool.specs.Room.{HoldAllUsed}

-- each block of the pool that isn't free is marked
abbrev pub AreAllMarked : Blocks → List ℕ → Type 0
AreAllMarked b marks = (n : ℕ) → 1 ≤ n → n < pool_size b → is_free b n ≡ false → has_bit marks n ≡ true

-- just these blocks are marked
abbrev pub AreMarkedBlocks : List ℕ → List ℕ → Type 0
AreMarkedBlocks blocks marks = (n : ℕ) → (has_bit marks n ≡ true) ↔ Contains blocks n

-- zeros mark none, and the marks of one tree after another are those of their blocks
abbrev pub ZerosMarkNone : Type 0
ZerosMarkNone = (bytes : ℕ) → AreMarkedBlocks [] (replicate bytes 0)

abbrev pub MarksAddUp : Type 0
MarksAddUp = (old blocks more new : List ℕ) → AreMarkedBlocks blocks old → Marks old more new → AreMarkedBlocks (blocks ++ more) new

-- if just these blocks are marked, all of the pool that is used is marked exactly where these blocks are all of it
abbrev pub MarksAreUsed : Type 0
MarksAreUsed = (b : Blocks) (blocks marks : List ℕ) → AreMarkedBlocks blocks marks → AreAllMarked b marks ↔ HoldAllUsed b blocks
