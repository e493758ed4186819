-- Which works and items are valid.
use Rattle.std.specs.Prelude.{◌≡◌, ◌⊎◌, ℕ, ◌+◌, ◌-◌, ◌/◌, ◌%◌, ◌<◌, ◌≤◌, ⊤}
use Rattle.xr_base.specs.Address.{IsGoodRun}
use Rattle.xr_base.specs.declared.address.FileNo.{FileNo}
use Rattle.xr_base.specs.declared.geometry.TheConstants.{FILES, FIRST_INODE, OFFSETS, FIRST_FILE_BLOCK, FILE_BLOCKS, FIRST_GROUP_BLOCK, GROUP_BLOCKS, GROUPS, FIRST_DATA_BLOCK, BLOCK_SECTORS, OWN_COW}
use Rattle.xr_items.specs.declared.layout.TheConstants.{IDS}
use Rattle.xr_items.specs.declared.work.OwnKind.{OwnKind}
use Rattle.xr_items.specs.declared.work.OwnKind.TheVariants as own_kind
use Rattle.xr_items.specs.declared.work.Work.{Work}
use Rattle.xr_items.specs.declared.work.Work.TheVariants.{Free, Own, Count, Map, Swap}
use Rattle.xr_items.specs.declared.item.Item.{Item}
use Rattle.xr_items.specs.declared.item.Item.TheVariants.{Buf, Inode, Begin, Done}
use Rattle.xr_items.specs.declared.item.DoneOf.{DoneOf}
use Rattle.xr_items.specs.declared.item.DoneOf.TheVariants.{Efd}

abbrev pub IsId : ℕ → Type 0
IsId id = (1 ≤ id) × (id < IDS)

-- the inode number of a file
abbrev pub IsInode : ℕ → Type 0
IsInode ino = (FIRST_INODE ≤ ino) × (ino < FIRST_INODE + FILES)

-- a block of a file's pool, and the header or a pool block of a group
pub record IsFilePoolBlock (block : ℕ) : Type 0 where
  pub first : FIRST_FILE_BLOCK ≤ block
  pub last : block < FIRST_GROUP_BLOCK
  pub after_core : 1 ≤ (block - FIRST_FILE_BLOCK) % FILE_BLOCKS

pub record IsGroupBlock (block : ℕ) : Type 0 where
  pub first : FIRST_GROUP_BLOCK ≤ block
  pub group : (block - FIRST_GROUP_BLOCK) / GROUP_BLOCKS < GROUPS
  pub before_data : (block - FIRST_GROUP_BLOCK) % GROUP_BLOCKS < FIRST_DATA_BLOCK

-- a block that is logged whole
abbrev pub IsBufferBlock : ℕ → Type 0
IsBufferBlock block = IsFilePoolBlock block ⊎ IsGroupBlock block

abbrev pub IsBufferSector : ℕ → Type 0
IsBufferSector sector = (sector % BLOCK_SECTORS ≡ 0) × IsBufferBlock (sector / BLOCK_SECTORS)

-- the owner that a kind of work is for
abbrev pub SuitsOwner : OwnKind → ℕ → Type 0
SuitsOwner own_kind.MapShared owner = IsInode owner
SuitsOwner own_kind.UnmapShared owner = IsInode owner
SuitsOwner own_kind.Alloc owner = owner ≡ OWN_COW
SuitsOwner own_kind.Free owner = owner ≡ OWN_COW

-- the run's blocks stand at offsets of the owner; staged blocks have none
abbrev pub KeepsOffsets : ℕ → ℕ → ℕ → Type 0
KeepsOffsets owner off len = (IsInode owner → off + len ≤ OFFSETS) × (owner ≡ OWN_COW → off ≡ 0)

-- an exchange of some blocks; of one file the two ranges don't meet
pub record IsSwap (file : FileNo) (off : ℕ) (other : FileNo) (other_off len : ℕ) : Type 0 where
  pub first_file : file.0 < FILES
  pub second_file : other.0 < FILES
  pub some : 1 ≤ len
  pub first_range : off + len ≤ OFFSETS
  pub second_range : other_off + len ≤ OFFSETS
  pub apart : file.0 ≡ other.0 → (off + len ≤ other_off) ⊎ (other_off + len ≤ off)

abbrev pub IsWork : Work → Type 0
IsWork (Free run) = IsGoodRun run
IsWork (Own kind owner off run) = IsGoodRun run × SuitsOwner kind owner × KeepsOffsets owner off run.len
IsWork (Count kind run) = IsGoodRun run
IsWork (Map kind file off run) = IsGoodRun run × (file.0 < FILES) × (off + run.len ≤ OFFSETS)
IsWork (Swap file off other other_off len) = IsSwap file off other other_off len

abbrev pub IsDone : DoneOf → Type 0
IsDone (Efd run) = IsGoodRun run
IsDone _ = ⊤

abbrev pub IsItem : Item → Type 0
IsItem (Buf sector) = IsBufferSector sector
IsItem (Inode ino) = IsInode ino
IsItem (Begin id work) = IsId id × IsWork work
IsItem (Done id done) = IsId id × IsDone done
