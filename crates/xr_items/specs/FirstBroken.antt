-- Which byte is named where a region isn't an item: the rules of its fields, in the order of the fields, of which the
-- first that is broken counts. A rule on two fields stands at the later one.
use Rattle.std.specs.Prelude.{◌≡◌, ◌≢◌, ◌⊎◌, ℕ, ◌+◌, ◌<◌, ◌≤◌, List, length, slice_index}
use Rattle.xr_base.specs.Address.{IsData, IsGoodRun, address_of}
use Rattle.xr_base.specs.declared.address.Run.{Run}
use Rattle.xr_base.specs.declared.geometry.TheConstants.{OFFSETS, BLOCK_SECTORS, OWN_COW}
use Rattle.xr_headers.specs.FirstWrong.{IsFirst}
use Rattle.xr_items.specs.declared.layout.TheConstants.{WHOLE_BLOCK, REGIONS_PLACE, EXTENTS_PLACE, ID_PLACE, BUF_FLAGS_PLACE, BUF_LEN_PLACE, BUF_SECTOR_PLACE, BUF_WORDS_PLACE, BUF_MAP_PLACE, RUN_START_PLACE, RUN_LEN_PLACE, RUN_FLAGS_PLACE, OWNER_PLACE, MAP_START_PLACE, MAP_OFF_PLACE, MAP_LEN_PLACE, MAP_FLAGS_PLACE, SWAP_INO_PLACE, SWAP_OTHER_PLACE, SWAP_OFF_PLACE, SWAP_OTHER_OFF_PLACE, SWAP_LEN_PLACE}
use Rattle.xr_items.specs.declared.work.OwnKind.{OwnKind}
use Rattle.xr_items.specs.declared.work.CountKind.{CountKind}
use Rattle.xr_items.specs.declared.work.MapKind.{MapKind}
use Rattle.xr_items.specs.declared.item.ItemKind.{ItemKind}
use Rattle.xr_items.specs.declared.item.ItemKind.TheVariants.{Buf, Inode, Efi, Efd, Rui, Rud, Cui, Cud, Bui, Bud, Xmi, Xmd}
use Rattle.xr_items.specs.declared.item.ItemFault.{ItemFault}
use Rattle.xr_items.specs.declared.item.ItemFault.TheVariants.{ItemType, Size, Field}
use Rattle.xr_base.specs.Fields.{le64_at, le32_at, le16_at}
use Rattle.xr_items.specs.Items.{own_code, count_code, map_code, type_code, regions_of, length_of}
use Rattle.xr_items.specs.Valid.{IsId, IsInode, IsBufferSector, SuitsOwner}

-- no rule is left
abbrev pub NamesNone : ℕ → Type 0
NamesNone place = ⊥

-- the rule of the field at a place is broken, or it is kept and a later one is the first
abbrev pub NamesRule : ℕ → Type 0 → (ℕ → Type 0) → ℕ → Type 0
NamesRule at Kept Later place = ((place ≡ at) × (Kept → ⊥)) ⊎ (Kept × Later place)

-- four bytes that have to be zero, each a field of its own
abbrev pub NamesZeros : ℕ → List ℕ → (ℕ → Type 0) → ℕ → Type 0
NamesZeros at bytes Later place =
    IsFirst (λ (k : ℕ). (at ≤ k) × (k < at + 4) × (slice_index bytes k ≢ 0)) place
    ⊎ ((le32_at bytes at ≡ 0) × Later place)

-- a run by the numbers of its fields
abbrev pub run_of : ℕ → ℕ → Run
run_of start len = record { start = address_of start; len = len }

-- one extent, and the item's id
abbrev pub NamesOpening : List ℕ → (ℕ → Type 0) → ℕ → Type 0
NamesOpening bytes Later = NamesRule EXTENTS_PLACE (le32_at bytes EXTENTS_PLACE ≡ 1) (NamesRule ID_PLACE (IsId (le64_at bytes ID_PLACE)) Later)

abbrev pub NamesRun : List ℕ → (ℕ → Type 0) → ℕ → Type 0
NamesRun bytes Later =
    NamesRule RUN_START_PLACE (IsData (address_of (le64_at bytes RUN_START_PLACE)))
    (NamesRule RUN_LEN_PLACE (IsGoodRun (run_of (le64_at bytes RUN_START_PLACE) (le32_at bytes RUN_LEN_PLACE))) Later)

-- an owner is a file or that of staged blocks; an offset suits an owner where some length does
abbrev pub IsKnownOwner : ℕ → Type 0
IsKnownOwner owner = IsInode owner ⊎ (owner ≡ OWN_COW)

abbrev pub MayBeginAt : ℕ → ℕ → Type 0
MayBeginAt owner off = (IsInode owner → off < OFFSETS) × (owner ≡ OWN_COW → off ≡ 0)

abbrev pub EndsInOffsets : ℕ → ℕ → ℕ → Type 0
EndsInOffsets owner off len = IsInode owner → off + len ≤ OFFSETS

-- the two ranges of an exchange end within their files, and don't meet in one file
pub record AreSwappable (ino other off other_off len : ℕ) : Type 0 where
  pub some : 1 ≤ len
  pub first_range : off + len ≤ OFFSETS
  pub second_range : other_off + len ≤ OFFSETS
  pub apart : ino ≡ other → (off + len ≤ other_off) ⊎ (other_off + len ≤ off)

-- the rules of each form, after type and regions
abbrev pub NamesBufField : List ℕ → ℕ → Type 0
NamesBufField bytes =
    NamesRule BUF_FLAGS_PLACE (le16_at bytes BUF_FLAGS_PLACE ≡ 0)
    (NamesRule BUF_LEN_PLACE (le16_at bytes BUF_LEN_PLACE ≡ BLOCK_SECTORS)
    (NamesRule BUF_SECTOR_PLACE (IsBufferSector (le64_at bytes BUF_SECTOR_PLACE))
    (NamesRule BUF_WORDS_PLACE (le32_at bytes BUF_WORDS_PLACE ≡ 1)
    (NamesRule BUF_MAP_PLACE (le32_at bytes BUF_MAP_PLACE ≡ WHOLE_BLOCK) NamesNone))))

abbrev pub NamesInodeField : List ℕ → ℕ → Type 0
NamesInodeField bytes = NamesZeros EXTENTS_PLACE bytes (NamesRule ID_PLACE (IsInode (le64_at bytes ID_PLACE)) NamesNone)

abbrev pub NamesShortField : List ℕ → ℕ → Type 0
NamesShortField bytes = NamesZeros EXTENTS_PLACE bytes (NamesRule ID_PLACE (IsId (le64_at bytes ID_PLACE)) NamesNone)

abbrev pub NamesFreeField : List ℕ → ℕ → Type 0
NamesFreeField bytes = NamesOpening bytes (NamesRun bytes (NamesZeros RUN_FLAGS_PLACE bytes NamesNone))

abbrev pub NamesCountField : List ℕ → ℕ → Type 0
NamesCountField bytes =
    NamesOpening bytes (NamesRun bytes (NamesRule RUN_FLAGS_PLACE ((kind : CountKind) × (count_code kind ≡ le32_at bytes RUN_FLAGS_PLACE)) NamesNone))

abbrev pub NamesOwnField : List ℕ → ℕ → Type 0
NamesOwnField bytes =
    let owner : ℕ = le64_at bytes OWNER_PLACE in
    let start : ℕ = le64_at bytes MAP_START_PLACE in
    let off : ℕ = le64_at bytes MAP_OFF_PLACE in
    let len : ℕ = le32_at bytes MAP_LEN_PLACE in
    NamesOpening bytes
    (NamesRule OWNER_PLACE (IsKnownOwner owner)
    (NamesRule MAP_START_PLACE (IsData (address_of start))
    (NamesRule MAP_OFF_PLACE (MayBeginAt owner off)
    (NamesRule MAP_LEN_PLACE (IsGoodRun (run_of start len) × EndsInOffsets owner off len)
    (NamesRule MAP_FLAGS_PLACE ((kind : OwnKind) × (own_code kind ≡ le32_at bytes MAP_FLAGS_PLACE) × SuitsOwner kind owner) NamesNone)))))

abbrev pub NamesMapField : List ℕ → ℕ → Type 0
NamesMapField bytes =
    let start : ℕ = le64_at bytes MAP_START_PLACE in
    let off : ℕ = le64_at bytes MAP_OFF_PLACE in
    let len : ℕ = le32_at bytes MAP_LEN_PLACE in
    NamesOpening bytes
    (NamesRule OWNER_PLACE (IsInode (le64_at bytes OWNER_PLACE))
    (NamesRule MAP_START_PLACE (IsData (address_of start))
    (NamesRule MAP_OFF_PLACE (off < OFFSETS)
    (NamesRule MAP_LEN_PLACE (IsGoodRun (run_of start len) × (off + len ≤ OFFSETS))
    (NamesRule MAP_FLAGS_PLACE ((kind : MapKind) × (map_code kind ≡ le32_at bytes MAP_FLAGS_PLACE)) NamesNone)))))

abbrev pub NamesSwapRange : List ℕ → ℕ → Type 0
NamesSwapRange bytes =
    let ino : ℕ = le64_at bytes SWAP_INO_PLACE in
    let other : ℕ = le64_at bytes SWAP_OTHER_PLACE in
    let off : ℕ = le64_at bytes SWAP_OFF_PLACE in
    let other_off : ℕ = le64_at bytes SWAP_OTHER_OFF_PLACE in
    NamesRule ID_PLACE (IsId (le64_at bytes ID_PLACE))
    (NamesRule SWAP_INO_PLACE (IsInode ino)
    (NamesRule SWAP_OTHER_PLACE (IsInode other)
    (NamesRule SWAP_OFF_PLACE (off < OFFSETS)
    (NamesRule SWAP_OTHER_OFF_PLACE (other_off < OFFSETS)
    (NamesRule SWAP_LEN_PLACE (AreSwappable ino other off other_off (le64_at bytes SWAP_LEN_PLACE)) NamesNone)))))

abbrev pub NamesSwapField : List ℕ → ℕ → Type 0
NamesSwapField bytes = NamesZeros EXTENTS_PLACE bytes (NamesSwapRange bytes)

abbrev pub NamesItemField : ItemKind → List ℕ → ℕ → Type 0
NamesItemField Buf bytes = NamesBufField bytes
NamesItemField Inode bytes = NamesInodeField bytes
NamesItemField Efi bytes = NamesFreeField bytes
NamesItemField Efd bytes = NamesFreeField bytes
NamesItemField Rui bytes = NamesOwnField bytes
NamesItemField Cui bytes = NamesCountField bytes
NamesItemField Bui bytes = NamesMapField bytes
NamesItemField Xmi bytes = NamesSwapField bytes
NamesItemField Rud bytes = NamesShortField bytes
NamesItemField Cud bytes = NamesShortField bytes
NamesItemField Bud bytes = NamesShortField bytes
NamesItemField Xmd bytes = NamesShortField bytes

-- a region of a kind of item, by its type; and one that also has the length and the number of regions of its kind
pub record IsOfKind (kind : ItemKind) (bytes : List ℕ) : Type 0 where
  pub room : EXTENTS_PLACE ≤ length bytes
  pub type_is : type_code kind ≡ le16_at bytes 0

pub record IsItemFramed (kind : ItemKind) (bytes : List ℕ) : Type 0 where
  pub of_kind : IsOfKind kind bytes
  pub long : length bytes ≡ length_of kind
  pub regions : le16_at bytes REGIONS_PLACE ≡ regions_of kind

-- why a region isn't an item: its type first, then its length, then its number of regions, then its fields
abbrev pub RefusesItem : List ℕ → ItemFault → Type 0
RefusesItem bytes (ItemType place) = (place ≡ 0) × ((kind : ItemKind) → IsOfKind kind bytes → ⊥)
RefusesItem bytes (Size place) =
    ((kind : ItemKind) × IsOfKind kind bytes × (length bytes ≢ length_of kind) × (place ≡ 0))
    ⊎ ((kind : ItemKind) × IsOfKind kind bytes × (length bytes ≡ length_of kind) × (le16_at bytes REGIONS_PLACE ≢ regions_of kind) × (place ≡ REGIONS_PLACE))
RefusesItem bytes (Field place) = (kind : ItemKind) × IsItemFramed kind bytes × NamesItemField kind bytes place
