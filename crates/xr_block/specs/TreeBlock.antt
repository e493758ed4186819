-- The blocks of a tree as bytes: the header, and the records of a leaf or the keys and pointers of a node.
use Rattle.std.specs.Prelude.{ℕ, zero, suc, ◌+◌, ◌-◌, ◌*◌, Option, Some, None, if◌then◌else◌, List, [], ◌∷◌, ◌++◌, length, take, drop, replicate}
use Rattle.std.specs.List.{flat_map}
use Rattle.std.specs.Option.{option_to_list}
use Rattle.byteorder.specs.Endian.{big_bytes, big_number}
use Rattle.xr_base.specs.Checksum.{with_crc}
use Rattle.xr_base.specs.declared.geometry.TheConstants.{BLOCK_BYTES, BLOCK_SECTORS, UUID_BYTES}
use Rattle.xr_kinds.specs.Form.{Form, header_size, key_size, pointer_size}
use Rattle.xr_base.specs.declared.layout.TheConstants.{BB_BLKNO_BYTES, BB_LEFTSIB, BB_LSN_BYTES, BB_NUMRECS, LONG_BB_CRC, SHORT_BB_CRC}
use Rattle.xr_base.specs.Fields.{be16_at}

-- what all blocks of a tree say: the image block of block 0, and whose they are
pub record Site : Type 0 where
  pub first : ℕ
  pub owner : ℕ
  pub uuid : List ℕ

-- a block's number, its level above the leaves, and its siblings in its level
pub record Place : Type 0 where
  pub number : ℕ
  pub level : ℕ
  pub left : Option ℕ
  pub right : Option ℕ

-- a child of a node: its low key with its high key, if the tree has one, and its block
pub record Entry : Type 0 where
  pub key : List ℕ
  pub child : ℕ

-- bytes with zeros after them, n in all
abbrev pub zero_filled : ℕ → List ℕ → List ℕ
zero_filled n bytes = bytes ++ replicate (n - length bytes) 0

-- where the fields stand that follow the left sibling
abbrev pub bb_rightsib : {X : Type 0} → Form X → ℕ
bb_rightsib form = BB_LEFTSIB + pointer_size form

abbrev pub bb_blkno : {X : Type 0} → Form X → ℕ
bb_blkno form = BB_LEFTSIB + 2 * pointer_size form

abbrev pub bb_lsn : {X : Type 0} → Form X → ℕ
bb_lsn form = BB_LEFTSIB + BB_BLKNO_BYTES + 2 * pointer_size form

abbrev pub bb_uuid : {X : Type 0} → Form X → ℕ
bb_uuid form = BB_LEFTSIB + BB_BLKNO_BYTES + BB_LSN_BYTES + 2 * pointer_size form

abbrev pub bb_owner : {X : Type 0} → Form X → ℕ
bb_owner form = BB_LEFTSIB + BB_BLKNO_BYTES + BB_LSN_BYTES + UUID_BYTES + 2 * pointer_size form

-- where the checksum stands
abbrev pub crc_place : {X : Type 0} → Form X → ℕ
crc_place form = if form.long then LONG_BB_CRC else SHORT_BB_CRC

-- all bits are set where there is no sibling
abbrev pub sibling : ℕ → Option ℕ → List ℕ
sibling width None = replicate width 255
sibling width (Some n) = big_bytes width n

-- a block belongs to no record of the log, and the checksum's room is zero
unfoldable pub header : {X : Type 0} → Form X → Site → Place → ℕ → List ℕ
header form site place count =
    big_bytes 4 form.magic ++ big_bytes 2 place.level ++ big_bytes 2 count
    ++ sibling (pointer_size form) place.left ++ sibling (pointer_size form) place.right
    ++ big_bytes BB_BLKNO_BYTES ((site.first + place.number) * BLOCK_SECTORS) ++ big_bytes BB_LSN_BYTES 0 ++ site.uuid
    ++ big_bytes (pointer_size form) site.owner ++ replicate (header_size form - crc_place form) 0

unfoldable pub tree_block : {X : Type 0} → Form X → Site → Place → ℕ → List ℕ → List ℕ
tree_block form site place count items = with_crc (crc_place form) (zero_filled BLOCK_BYTES (header form site place count ++ items))

abbrev pub leaf_bytes : {X : Type 0} → Form X → Site → Place → List X → List ℕ
leaf_bytes form site place records = tree_block form site place (length records) (flat_map form.bytes_of records)

-- the keys stand first, in room for as many as a node can have
abbrev pub node_items : {X : Type 0} → Form X → List Entry → List ℕ
node_items form entries =
    zero_filled (form.node_max * key_size form) (flat_map (λ (e : Entry). e.key) entries)
    ++ flat_map (λ (e : Entry). big_bytes (pointer_size form) e.child) entries

abbrev pub node_bytes : {X : Type 0} → Form X → Site → Place → List Entry → List ℕ
node_bytes form site place entries = tree_block form site place (length entries) (node_items form entries)

-- what a block's bytes hold
abbrev pub count_in : List ℕ → ℕ
count_in bytes = be16_at bytes BB_NUMRECS

unfoldable pub records_from : {X : Type 0} → Form X → ℕ → List ℕ → List X
records_from form zero bytes = []
records_from form (suc n) bytes = option_to_list (form.taken (take form.size bytes)) ++ records_from form n (drop form.size bytes)

abbrev pub records_in : {X : Type 0} → Form X → List ℕ → List X
records_in form bytes = records_from form (count_in bytes) (drop (header_size form) bytes)

unfoldable pub entries_from : ℕ → ℕ → ℕ → List ℕ → List ℕ → List Entry
entries_from key width zero keys pointers = []
entries_from key width (suc n) keys pointers =
    record { key = take key keys; child = big_number width pointers } ∷ entries_from key width n (drop key keys) (drop width pointers)

abbrev pub entries_in : {X : Type 0} → Form X → List ℕ → List Entry
entries_in form bytes =
    let keys : List ℕ = drop (header_size form) bytes in
    entries_from (key_size form) (pointer_size form) (count_in bytes) keys (drop (form.node_max * key_size form) keys)
