-- An image that was unmounted, and what its files and groups hold.
use Rattle.std.specs.Prelude.{ℕ, ◌*◌, ◌<◌, List, map}
use Rattle.std.specs.List.{range_with_len}
use Rattle.xr_base.specs.Image.{part}
use Rattle.xr_base.specs.declared.geometry.TheConstants.{BLOCK_BYTES, FILE_BLOCKS, FILES, FIRST_DATA_BLOCK, GROUPS, OFFSETS}
use Rattle.xr_bmap.specs.File.{IsFile, extents_in, first_of_file}
use Rattle.xr_bmap.specs.Slots.{mapped_in}
use Rattle.xr_commit.specs.LiveStream.{IsLiveIn}
use Rattle.xr_commit.specs.LogEnds.{IsCleanRecord}
use Rattle.xr_commit.specs.LogRecords.{HasSuper, log_of}
use Rattle.xr_group.specs.Group.{GroupState, IsGroup, first_of_group}
use Rattle.xr_group.specs.OpenGroup.{opened_group}
use Rattle.xr_kinds.specs.declared.mapping.Mapping.{Mapping}
use Rattle.xr_maps.specs.FileMaps.{FileMaps, tabulated}
use Rattle.xr_pool.specs.Overlay.{blocks_in}
use Rattle.xr_record.specs.declared.entry.Entry.{Entry}
use Rattle.xr_record.specs.declared.head.Head.{Head}

-- the bytes of a file of an image, and of a group without its data blocks
abbrev pub bytes_of_file : List ℕ → ℕ → List ℕ
bytes_of_file image file = part (BLOCK_BYTES * first_of_file file) (BLOCK_BYTES * FILE_BLOCKS) image

abbrev pub bytes_of_group : List ℕ → ℕ → List ℕ
bytes_of_group image number = part (BLOCK_BYTES * first_of_group number) (BLOCK_BYTES * FIRST_DATA_BLOCK) image

-- a file, or a group, of an image is one
abbrev pub IsFileOfImage : List ℕ → List ℕ → ℕ → Type 0
IsFileOfImage image uuid file = IsFile file uuid (blocks_in FILE_BLOCKS (bytes_of_file image file))

abbrev pub IsGroupOfImage : List ℕ → List ℕ → ℕ → Type 0
IsGroupOfImage image uuid number = IsGroup number uuid (blocks_in FIRST_DATA_BLOCK (bytes_of_group image number))

-- the extents of a file of an image
abbrev pub extents_of_file : List ℕ → List ℕ → ℕ → List Mapping
extents_of_file image uuid file = extents_in file uuid (blocks_in FILE_BLOCKS (bytes_of_file image file))

-- what the files of an image map
unfoldable pub maps_of_image : List ℕ → List ℕ → FileMaps
maps_of_image image uuid = map (λ file. tabulated OFFSETS (mapped_in (extents_of_file image uuid file))) (range_with_len 0 FILES)

-- its first groups, and all
unfoldable pub groups_below : ℕ → List ℕ → List ℕ → List GroupState
groups_below n image uuid = map (λ number. opened_group number uuid (bytes_of_group image number)) (range_with_len 0 n)

abbrev pub groups_of_image : List ℕ → List ℕ → List GroupState
groups_of_image image uuid = groups_below GROUPS image uuid

-- a log's live stream ends with an unmount
pub record IsCleanLog (uuid log : List ℕ) : Type 0 where
  pub heads : List Head
  pub entries : List Entry
  pub live : IsLiveIn uuid log heads entries
  pub clean : IsCleanRecord live.head

-- the image has such a log, under this identifier
pub record HasCleanLog (image uuid : List ℕ) : Type 0 where
  pub superblock : HasSuper image uuid
  pub log : IsCleanLog uuid (log_of image)

-- so many of its files, and of its groups, are right
abbrev pub HasFilesBelow : List ℕ → List ℕ → ℕ → Type 0
HasFilesBelow image uuid n = (file : ℕ) → file < n → IsFileOfImage image uuid file

abbrev pub HasGroupsBelow : List ℕ → List ℕ → ℕ → Type 0
HasGroupsBelow image uuid n = (number : ℕ) → number < n → IsGroupOfImage image uuid number

-- the image was unmounted, and all of its files and groups are right
pub record IsCleanImage (image uuid : List ℕ) : Type 0 where
  pub log : HasCleanLog image uuid
  pub files : HasFilesBelow image uuid FILES
  pub groups : HasGroupsBelow image uuid GROUPS
