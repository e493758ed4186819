-- What a transaction holds, and which blocks it may change.
use Rattle.std.specs.Prelude.{◌≡◌, ◌≢◌, ◌⊎◌, ℕ, ◌+◌, ◌-◌, ◌/◌, ◌%◌, ◌<◌, ◌≤◌, List, [], length}
use Rattle.std.specs.List.{All, AllPairs}
use Rattle.xr_base.specs.declared.geometry.TheConstants.{BLOCK_BYTES, FIRST_FILE_BLOCK, FIRST_GROUP_BLOCK, FILE_BLOCKS, FIRST_INODE, UUID_BYTES}
use Rattle.xr_headers.specs.declared.file_core.Core.{Core}
use Rattle.xr_headers.specs.Headers.{IsCore, core_block}
use Rattle.xr_items.specs.declared.layout.TheConstants.{TRANS_BLOCKS, TRANS_WORKS, TRANS_SLOTS}
use Rattle.xr_items.specs.declared.work.Work.{Work}
use Rattle.xr_items.specs.declared.trans.Logged.{Logged}
use Rattle.xr_items.specs.Valid.{IsBufferBlock, IsWork}

pub record TransView : Type 0 where
  pub blocks : List Logged
  pub works : List Work
  pub done : List ℕ

abbrev pub no_trans : TransView
no_trans = record { blocks = []; works = []; done = [] }

abbrev pub logged : ℕ → List ℕ → Logged
logged block image = record { block = block; image = image }

-- the core of one of the files
pub record IsCoreBlock (block : ℕ) : Type 0 where
  pub first : FIRST_FILE_BLOCK ≤ block
  pub last : block < FIRST_GROUP_BLOCK
  pub core : (block - FIRST_FILE_BLOCK) % FILE_BLOCKS ≡ 0

-- what is written of a valid core of the file whose core stands there
pub record IsCoreImage (block : ℕ) (image : List ℕ) : Type 0 where
  pub core : Core
  pub valid : IsCore core
  pub uuid : length core.uuid ≡ UUID_BYTES
  pub file : core.ino ≡ FIRST_INODE + (block - FIRST_FILE_BLOCK) / FILE_BLOCKS
  pub is : image ≡ core_block core

-- a block that a transaction may change, and what it may change it to
abbrev pub IsLogged : Logged → Type 0
IsLogged block = IsBufferBlock block.block ⊎ (IsCoreBlock block.block × IsCoreImage block.block block.image)

abbrev pub IsNotAmong : ℕ → List Logged → Type 0
IsNotAmong block blocks = All (λ (other : Logged). other.block ≢ block) blocks

-- what each transaction keeps: its blocks are ones that it may change, each once and with whole images, its works are valid,
-- and all fit
pub record IsTrans (trans : TransView) : Type 0 where
  pub logged_blocks : All IsLogged trans.blocks
  pub whole_images : All (λ (block : Logged). length block.image ≡ BLOCK_BYTES) trans.blocks
  pub distinct : AllPairs (λ (one two : Logged). one.block ≢ two.block) trans.blocks
  pub valid_works : All IsWork trans.works
  pub blocks_fit : length trans.blocks ≤ TRANS_BLOCKS
  pub works_fit : length trans.works ≤ TRANS_WORKS
  pub done_fit : length trans.done ≤ TRANS_SLOTS
