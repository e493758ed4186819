-- The blocks of a state as they stand in an image; of no public contract.
use Rattle.std.specs.Prelude.{◌≡◌, ℕ, ◌+◌, ◌*◌, ◌<◌, List}
use Rattle.xr_base.specs.Image.{block_of}
use Rattle.xr_base.specs.declared.geometry.TheConstants.{FILE_BLOCKS, FILES, FIRST_DATA_BLOCK}
use Rattle.xr_scan.specs.Replaying.{IsStateBlock}
use Rattle.xr_scan.specs.Scanned.{copy_number, copy_of}

-- the copies are the image's own blocks
abbrev pub AreHomes : List ℕ → List ℕ → Type 0
AreHomes image copies = (block : ℕ) → IsStateBlock block → copy_of copies block ≡ block_of image block

-- so are those below a number
abbrev pub AreHomesBelow : List ℕ → ℕ → List ℕ → Type 0
AreHomesBelow image n copies = (block : ℕ) → IsStateBlock block → copy_number block < n → copy_of copies block ≡ block_of image block

-- how many blocks the files and so many groups have
abbrev pub groups_end : ℕ → ℕ
groups_end groups = FILES * FILE_BLOCKS + FIRST_DATA_BLOCK * groups
