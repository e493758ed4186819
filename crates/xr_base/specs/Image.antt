-- The bytes of an image, and its parts.
use Rattle.std.specs.Prelude.{ℕ, zero, suc, ◌+◌, ◌*◌, List, [], ◌++◌, length, take, drop}
use Rattle.xr_base.specs.declared.geometry.TheConstants.{BLOCK_BYTES, SECTOR_BYTES}

-- n bytes from a place on
abbrev pub part : ℕ → ℕ → List ℕ → List ℕ
part at n image = take n (drop at image)

-- the image with other bytes from a place on
abbrev pub overlaid : ℕ → List ℕ → List ℕ → List ℕ
overlaid at bytes image = take at image ++ bytes ++ drop (at + length bytes) image

-- the sector and the block with a number
abbrev pub sector_of : List ℕ → ℕ → List ℕ
sector_of image n = part (SECTOR_BYTES * n) SECTOR_BYTES image

abbrev pub block_of : List ℕ → ℕ → List ℕ
block_of image n = part (BLOCK_BYTES * n) BLOCK_BYTES image

-- the first n blocks of an image whose blocks a function gives
unfoldable pub blocks_below : (ℕ → List ℕ) → ℕ → List ℕ
blocks_below block zero = []
blocks_below block (suc n) = blocks_below block n ++ block n
