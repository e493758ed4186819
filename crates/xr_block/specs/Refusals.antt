-- Which rule a block is refused for: the first that it breaks, in the order in which its rules are tested.
use Rattle.std.specs.Prelude.{◌≡◌, ◌≢◌, ◌⊎◌, ℕ, ◌≤◌, List}
use Rattle.byteorder.specs.Endian.{big_bytes}
use Rattle.xr_base.specs.Image.{part}
use Rattle.xr_block.specs.Checks.{HasFields, HasHeader, HasRecords, HasZeroPadding}
use Rattle.xr_block.specs.declared.fault.TreeKind.{TreeKind}
use Rattle.xr_block.specs.declared.fault.TreeKind.TheVariants.{Checksum, Count, Field, Header, Magic}
use Rattle.xr_block.specs.TreeBlock.{Site, count_in, crc_place}
use Rattle.xr_kinds.specs.Form.{Form}
use Rattle.xr_base.specs.Checksum.{with_crc}

-- a header: the magic, then the checksum, then the other fields
abbrev pub RefusesHeader : {X : Type 0} → Form X → Site → ℕ → ℕ → List ℕ → TreeKind → Type 0
RefusesHeader form site n level bytes kind =
    ((kind ≡ Magic) × (part 0 4 bytes ≢ big_bytes 4 form.magic))
    ⊎ ((kind ≡ Checksum) × (part 0 4 bytes ≡ big_bytes 4 form.magic) × (bytes ≢ with_crc (crc_place form) bytes))
    ⊎ ((kind ≡ Header) × (part 0 4 bytes ≡ big_bytes 4 form.magic) × (bytes ≡ with_crc (crc_place form) bytes)
    × (HasFields form site n level bytes → ⊥))

-- there are too few items or too many
abbrev pub RefusesCount : ℕ → ℕ → List ℕ → TreeKind → Type 0
RefusesCount least most bytes kind = (kind ≡ Count) × ((least ≤ count_in bytes) × (count_in bytes ≤ most) → ⊥)

-- a leaf: its header, then how many records there are, then these and the room after them
abbrev pub RefusesLeaf : {X : Type 0} → Form X → Site → ℕ → ℕ → List ℕ → TreeKind → Type 0
RefusesLeaf form site least n bytes kind =
    RefusesHeader form site n 0 bytes kind
    ⊎ (HasHeader form site n 0 bytes × RefusesCount least form.leaf_max bytes kind)
    ⊎ (HasHeader form site n 0 bytes × (least ≤ count_in bytes) × (count_in bytes ≤ form.leaf_max)
    × (kind ≡ Field) × (HasRecords form (count_in bytes) bytes → ⊥))

-- a node: its header, then how many children there are, then the room after their keys and after their pointers
abbrev pub RefusesNode : {X : Type 0} → Form X → Site → ℕ → ℕ → ℕ → List ℕ → TreeKind → Type 0
RefusesNode form site least n level bytes kind =
    RefusesHeader form site n level bytes kind
    ⊎ (HasHeader form site n level bytes × RefusesCount least form.node_max bytes kind)
    ⊎ (HasHeader form site n level bytes × (least ≤ count_in bytes) × (count_in bytes ≤ form.node_max)
    × (kind ≡ Field) × (HasZeroPadding form (count_in bytes) bytes → ⊥))
