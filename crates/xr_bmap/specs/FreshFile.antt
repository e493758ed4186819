-- The blocks of a fresh image are files that map nothing.
use Rattle.std.specs.Prelude.{◌≡◌, ℕ, ◌+◌, ◌<◌, None, List, [], length, slice_index_or}
use Rattle.xr_base.specs.declared.geometry.TheConstants.{FILES, FILE_BLOCKS, UUID_BYTES}
use Rattle.xr_bmap.specs.File.{IsFile, extents_in, first_of_file}
use Rattle.xr_bmap.specs.Slots.{mapped_in}
use Rattle.xr_headers.specs.FreshImage.{fresh_block_of}
use Rattle.xr_pool.specs.Overlay.{AreWhole}

-- some blocks are those of a file in the image that formatting makes
pub record AreFreshFileBlocks (uuid : List ℕ) (cycle file : ℕ) (blocks : List (List ℕ)) : Type 0 where
  pub whole : AreWhole blocks
  pub long : length blocks ≡ FILE_BLOCKS
  pub each : (k : ℕ) → k < FILE_BLOCKS → slice_index_or blocks k [] ≡ fresh_block_of uuid cycle (first_of_file file + k)

pub record IsEmptyFile (file : ℕ) (uuid : List ℕ) (blocks : List (List ℕ)) : Type 0 where
  pub file_there : IsFile file uuid blocks
  pub none : extents_in file uuid blocks ≡ []
  pub unmapped : (o : ℕ) → mapped_in (extents_in file uuid blocks) o ≡ None

abbrev pub FreshFilesAreEmpty : Type 0
FreshFilesAreEmpty =
    (uuid : List ℕ) (cycle file : ℕ) (blocks : List (List ℕ)) → length uuid ≡ UUID_BYTES → file < FILES → AreFreshFileBlocks uuid cycle file blocks
    → IsEmptyFile file uuid blocks
