-- What the tests of a block ask of its bytes: a header, whose siblings may be any, and room after it.
use Rattle.std.specs.Prelude.{◌≡◌, ℕ, ◌+◌, ◌-◌, ◌*◌, ◌^◌, ◌<◌, ◌≤◌, ◌==◌, IsSome, if◌then◌else◌, Option, Some, None, List, length, drop, replicate}
use Rattle.byteorder.specs.Endian.{big_bytes, big_number}
use Rattle.xr_base.specs.Image.{part}
use Rattle.xr_kinds.specs.Form.{Form, header_size, key_size, pointer_size}
use Rattle.xr_block.specs.TreeBlock.{Place, Site, count_in, crc_place, bb_blkno, bb_lsn, bb_owner, bb_rightsib, bb_uuid}
use Rattle.xr_base.specs.declared.layout.TheConstants.{BB_BLKNO_BYTES, BB_LEFTSIB, BB_LEVEL, BB_LSN_BYTES}
use Rattle.xr_base.specs.declared.geometry.TheConstants.{BLOCK_SECTORS, UUID_BYTES}
use Rattle.xr_base.specs.Checksum.{with_crc}

-- the sibling that stands in the first bytes, if there is one
abbrev pub sibling_in : ℕ → List ℕ → Option ℕ
sibling_in width bytes = if big_number width bytes == 256 ^ width - 1 then None else Some (big_number width bytes)

abbrev pub left_in : {X : Type 0} → Form X → List ℕ → Option ℕ
left_in form bytes = sibling_in (pointer_size form) (drop BB_LEFTSIB bytes)

abbrev pub right_in : {X : Type 0} → Form X → List ℕ → Option ℕ
right_in form bytes = sibling_in (pointer_size form) (drop (bb_rightsib form) bytes)

-- the place that a block has with the siblings that it names
abbrev pub place_in : {X : Type 0} → Form X → ℕ → ℕ → List ℕ → Place
place_in form n level bytes = record { number = n; level = level; left = left_in form bytes; right = right_in form bytes }

abbrev pub AreZeros : List ℕ → Type 0
AreZeros bytes = bytes ≡ replicate (length bytes) 0

-- the fields of a header but the magic, the checksum, the count and the siblings
pub record HasFields {X : Type 0} (form : Form X) (site : Site) (n level : ℕ) (bytes : List ℕ) : Type 0 where
  pub low_level : level < 2 ^ 16
  pub level_is : part BB_LEVEL 2 bytes ≡ big_bytes 2 level
  pub sector : part (bb_blkno form) BB_BLKNO_BYTES bytes ≡ big_bytes BB_BLKNO_BYTES ((site.first + n) * BLOCK_SECTORS)
  pub unlogged : part (bb_lsn form) BB_LSN_BYTES bytes ≡ big_bytes BB_LSN_BYTES 0
  pub identified : part (bb_uuid form) UUID_BYTES bytes ≡ site.uuid
  pub owned : part (bb_owner form) (pointer_size form) bytes ≡ big_bytes (pointer_size form) site.owner
  pub zeros : part (crc_place form + 4) (header_size form - (crc_place form + 4)) bytes ≡ replicate (header_size form - (crc_place form + 4)) 0

pub record HasHeader {X : Type 0} (form : Form X) (site : Site) (n level : ℕ) (bytes : List ℕ) : Type 0 where
  pub magic : part 0 4 bytes ≡ big_bytes 4 form.magic
  pub checked : bytes ≡ with_crc (crc_place form) bytes
  pub fields : HasFields form site n level bytes

-- a leaf's places hold valid records, and the room after them is zero
pub record HasRecords {X : Type 0} (form : Form X) (count : ℕ) (bytes : List ℕ) : Type 0 where
  pub valid : (k : ℕ) → k < count → IsSome (form.taken (part (header_size form + form.size * k) form.size bytes))
  pub zeros : AreZeros (drop (header_size form + form.size * count) bytes)

-- the room after a node's keys is zero, and that after its pointers
pub record HasZeroPadding {X : Type 0} (form : Form X) (count : ℕ) (bytes : List ℕ) : Type 0 where
  pub between : AreZeros (part (header_size form + key_size form * count) (key_size form * form.node_max - key_size form * count) bytes)
  pub zeros : AreZeros (drop (header_size form + key_size form * form.node_max + pointer_size form * count) bytes)

pub record IsCheckedLeaf {X : Type 0} (form : Form X) (site : Site) (least n : ℕ) (bytes : List ℕ) : Type 0 where
  pub framed : HasHeader form site n 0 bytes
  pub least_items : least ≤ count_in bytes
  pub most_items : count_in bytes ≤ form.leaf_max
  pub records : HasRecords form (count_in bytes) bytes

pub record IsCheckedNode {X : Type 0} (form : Form X) (site : Site) (least n level : ℕ) (bytes : List ℕ) : Type 0 where
  pub framed : HasHeader form site n level bytes
  pub least_items : least ≤ count_in bytes
  pub most_items : count_in bytes ≤ form.node_max
  pub room : HasZeroPadding form (count_in bytes) bytes

-- a leaf, as far as its records go
pub record HoldsRecords {X : Type 0} (form : Form X) (bytes : List ℕ) : Type 0 where
  pub most_items : count_in bytes ≤ form.leaf_max
  pub records : HasRecords form (count_in bytes) bytes
