-- Which field of a refused header is named.
use Rattle.std.specs.Prelude.{◌≡◌, ◌≢◌, ◌⊎◌, ℕ, ◌+◌, ◌*◌, ◌/◌, ◌%◌, ◌^◌, ◌<◌, ◌≤◌, nat_lt, if◌then◌else◌, List, slice_index, take}
use Rattle.xr_base.specs.declared.geometry.TheConstants.{BLOCK_BYTES, FILE_BLOCKS}
use Rattle.xr_headers.specs.declared.layout.TheConstants.{BLOCK_CRC, CORE_BYTES, CORE_CRC, CORE_FIELDS, CORE_FREE_PLACE, CORE_ROOT_PLACE, FREE_MAP_PLACE, GEOMETRY_PLACE, INODE_PLACE, ROOTS_PLACE, SUPER_BYTES, UUID_PLACE}
use Rattle.xr_headers.specs.declared.superblock.Super.{Super}
use Rattle.xr_headers.specs.declared.group_head.GroupHead.{GroupHead}
use Rattle.xr_headers.specs.declared.file_core.Core.{Core}
use Rattle.xr_headers.specs.Headers.{super_fields, group_fields, core_fields, core_bytes, IsPoolRoot, KeepsFilePool}
use Rattle.xr_base.specs.Checksum.{with_crc}

-- the first place of which a fact holds
pub record IsFirst (Fact : ℕ → Type 0) (place : ℕ) : Type 0 where
  pub here : Fact place
  pub none_before : (k : ℕ) → k < place → Fact k → ⊥

-- a field that begins there is out of its range, or the byte, which stands before the checksum, isn't the wanted one,
-- with zeros after the wanted ones
abbrev pub IsWrong : List ℕ → ℕ → List ℕ → (ℕ → Type 0) → ℕ → Type 0
IsWrong bytes end wanted OutOfRange place = OutOfRange place ⊎ ((place < end) × (slice_index bytes place ≢ slice_index wanted place))

-- the byte that is named is the first wrong one, unless the magic, the first four bytes, is right and the checksum isn't
abbrev pub IsNamedPlace : List ℕ → ℕ → (ℕ → Type 0) → ℕ → Type 0
IsNamedPlace bytes end Wrong place =
    (IsFirst Wrong place × ((place < 4) ⊎ (bytes ≡ with_crc end bytes)))
    ⊎ ((place ≡ end) × (bytes ≢ with_crc end bytes) × ((k : ℕ) → k < 4 → Wrong k → ⊥))

-- the field of the byte that is named
abbrev pub NamesField : (ℕ → ℕ) → List ℕ → ℕ → List ℕ → (ℕ → Type 0) → ℕ → Type 0
NamesField field_of bytes end wanted OutOfRange field =
    (place : ℕ) × IsNamedPlace bytes end (IsWrong bytes end wanted OutOfRange) place × (field ≡ field_of place)

-- where the field of a byte begins. A byte that has to be zero is a field of its own.
abbrev pub super_field : ℕ → ℕ
super_field place =
    if nat_lt place UUID_PLACE then place / 4 * 4 else if nat_lt place GEOMETRY_PLACE then UUID_PLACE
    else if nat_lt place SUPER_BYTES then place / 4 * 4 else place

abbrev pub group_field : ℕ → ℕ
group_field place =
    if nat_lt place 12 then place / 4 * 4 else if nat_lt place UUID_PLACE then place else if nat_lt place ROOTS_PLACE then UUID_PLACE
    else if nat_lt place FREE_MAP_PLACE then place / 4 * 4 else place

abbrev pub core_field : ℕ → ℕ
core_field place =
    if nat_lt place INODE_PLACE then place / 4 * 4 else if nat_lt place UUID_PLACE then INODE_PLACE
    else if nat_lt place CORE_ROOT_PLACE then UUID_PLACE else if nat_lt place CORE_FIELDS then place / 4 * 4 else place

-- a superblock: its identifier may be any
abbrev pub NamesSuperField : List ℕ → Super → ℕ → Type 0
NamesSuperField bytes s field = NamesField super_field bytes BLOCK_CRC (super_fields s) (λ (place : ℕ). ⊥) field

-- a group header: a root is outside the pool, or the map gives the header's own block away
abbrev pub IsGroupOutOfRange : GroupHead → ℕ → Type 0
IsGroupOutOfRange head place =
    ((i : ℕ) × (i < 4) × (place ≡ ROOTS_PLACE + 4 * i) × (IsPoolRoot (slice_index head.roots i) → ⊥))
    ⊎ ((place ≡ FREE_MAP_PLACE) × (slice_index head.free 0 % 2 ≡ 1))

abbrev pub NamesGroupField : List ℕ → GroupHead → ℕ → Type 0
NamesGroupField bytes head field = NamesField group_field bytes BLOCK_CRC (group_fields head) (IsGroupOutOfRange head) field

-- a file core: the root is outside the pool, or the mask has a bit for no block of the pool
abbrev pub IsCoreOutOfRange : Core → ℕ → Type 0
IsCoreOutOfRange core place =
    ((place ≡ CORE_ROOT_PLACE) × ((core.root ≡ 0) ⊎ (FILE_BLOCKS ≤ core.root)))
    ⊎ ((place ≡ CORE_FREE_PLACE) × ((2 ^ FILE_BLOCKS ≤ core.free) ⊎ (core.free % 2 ≡ 1)))

abbrev pub NamesCoreField : List ℕ → Core → ℕ → Type 0
NamesCoreField bytes core field = NamesField core_field bytes CORE_CRC (core_fields core) (IsCoreOutOfRange core) field

-- a core's block: the core itself, with the ranges of its fields, goes before what follows it, which has to be zero
abbrev pub NamesCoreBlockField : List ℕ → Core → ℕ → Type 0
NamesCoreBlockField bytes core field =
    NamesCoreField (take CORE_BYTES bytes) core field
    ⊎ ((take CORE_BYTES bytes ≡ core_bytes core) × KeepsFilePool core
    × IsFirst (λ (place : ℕ). (CORE_BYTES ≤ place) × (place < BLOCK_BYTES) × (slice_index bytes place ≢ 0)) field)
