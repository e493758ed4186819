-- What is read back from the blocks of a tree is what was written to them.
use Rattle.std.proofs.Common.{◌≡◌, ℕ, suc, ◌+◌, ◌-◌, ◌*◌, ◌^◌, ◌<◌, ◌≤◌, Bool, true, false, if◌then◌else◌, Option, Some, None, List, [], ◌∷◌, ◌++◌, length, take, drop, replicate, refl, sym, ap, ◌∙◌, arith}
use Rattle.std.proofs.Math.Nat.{mul-le-mul_right}
use Rattle.std.proofs.lemmas.List.{append_assoc, drop_at, length-append, length-replicate, take_at}
use Rattle.std.specs.List.{All, flat_map}
use Rattle.byteorder.specs.Endian.{big_bytes, big_number}
use Rattle.byteorder.specs.Numbers.{big_from-take, big_number-reads_back, length-bytes_high_first}
use Rattle.xr_base.specs.Checksum.{with_crc, sum_bytes}
use Rattle.xr_base.specs.Image.{part}
use Rattle.xr_base.specs.ImageLaws.{length-overlaid, part_below, drop_overlaid}
use Rattle.xr_base.specs.declared.geometry.TheConstants.{BLOCK_BYTES}
use Rattle.xr_kinds.specs.BigEndianLaws.{drop-bytes, reads_alone}
use Rattle.xr_kinds.specs.Form.{Form, IsForm, header_size, key_size, pointer_size}
use Rattle.xr_block.specs.TreeBlock.{Entry, Place, Site, count_in, entries_from, entries_in, zero_filled, header, leaf_bytes, sibling, node_bytes, node_items, records_from, records_in, crc_place, tree_block}
use Rattle.xr_base.specs.ChecksumLaws.{with_crc_same}

-- the fields of a header fill it, with the checksum and what is after it
pub fields_fill : (long : Bool) → (let pointer : ℕ = if long then 8 else 4 in let size : ℕ = if long then 72 else 56 in let sum : ℕ = if long then 64 else 52 in
    (40 + 3 * pointer + (size - sum) ≡ size) × (8 ≤ sum) × (sum + 4 ≤ size) × (size ≤ 72))
fields_fill true = (refl, omega arith, omega arith, omega arith)
fields_fill false = (refl, omega arith, omega arith, omega arith)

pub length-sibling : (width : ℕ) (o : Option ℕ) → length (sibling width o) ≡ width
length-sibling width None = length-replicate width 255
length-sibling width (Some n) = length-bytes_high_first width n

pub length-header : {X : Type 0} (form : Form X) (site : Site) (place : Place) (count : ℕ) → length site.uuid ≡ 16
    → length (header form site place count) ≡ header_size form
unfolding header
length-header form site place count whole =
    let fill = fields_fill form.long in
    simp length-append
    (omega (
      arith,
      fill,
      whole,
      length-sibling (pointer_size form) place.left,
      length-sibling (pointer_size form) place.right,
      length-bytes_high_first (pointer_size form) site.owner,
      length-replicate {A = ℕ} (header_size form - crc_place form) 0,
    ))

pub length-zero_filled : (n : ℕ) (bytes : List ℕ) → length bytes ≤ n → length (zero_filled n bytes) ≡ n
length-zero_filled n bytes fits = length-append bytes (replicate (n - length bytes) 0) ∙ omega (arith, length-replicate {A = ℕ} (n - length bytes) 0)

module _ {X : Type 0} (form : Form X) (site : Site) (place : Place) (count : ℕ) (items : List ℕ) (whole : length site.uuid ≡ 16) (room : header_size form + length items ≤ BLOCK_BYTES) where
  fields : List ℕ
  fields = header form site place count ++ items

  length-fields : length fields ≤ BLOCK_BYTES
  unfolding fields
  length-fields = omega (arith, length-append (header form site place count) items, length-header form site place count whole)

  pub length-tree_block : length (tree_block form site place count items) ≡ BLOCK_BYTES
  unfolding tree_block with_crc fields
  length-tree_block =
      let fill = fields_fill form.long in
      let long = length-zero_filled BLOCK_BYTES fields length-fields in
      let sum : List ℕ = sum_bytes (crc_place form) (zero_filled BLOCK_BYTES fields) in
      length-overlaid (crc_place form) sum (zero_filled BLOCK_BYTES fields) (omega (arith, fill, long)) ∙ long

  -- the items stand after the header
  pub items_in_block : drop (header_size form) (tree_block form site place count items) ≡ items ++ replicate (BLOCK_BYTES - length (header form site place count ++ items)) 0
  unfolding tree_block with_crc fields
  items_in_block =
      let fill = fields_fill form.long in
      let long = length-zero_filled BLOCK_BYTES fields length-fields in
      let sum : List ℕ = sum_bytes (crc_place form) (zero_filled BLOCK_BYTES fields) in
      let zeros : List ℕ = replicate (BLOCK_BYTES - length fields) 0 in
      drop_overlaid (crc_place form) (header_size form) sum (zero_filled BLOCK_BYTES fields) (omega (arith, fill)) (omega (arith, fill, long))
      ∙ ap (drop (header_size form)) (append_assoc (header form site place count) items zeros)
      ∙ drop_at (header form site place count) (items ++ zeros) (header_size form) (length-header form site place count whole)

  pub count_in_block : count < 2 ^ 16 → count_in (tree_block form site place count items) ≡ count
  unfolding tree_block with_crc fields header
  count_in_block small =
      let fill = fields_fill form.long in
      let long = length-zero_filled BLOCK_BYTES fields length-fields in
      let sum : List ℕ = sum_bytes (crc_place form) (zero_filled BLOCK_BYTES fields) in
      let field : part 6 2 (tree_block form site place count items) ≡ big_bytes 2 count =
      part_below (crc_place form) 2 6 sum (zero_filled BLOCK_BYTES fields) (omega (arith, fill)) (omega (arith, fill, long)) in
      sym (big_from-take 0 2 2 (drop 6 (tree_block form site place count items)) (omega arith))
      ∙ ap (big_number 2) field ∙ reads_alone 2 count small

-- bytes with the right sum are a tree's block where they are its fields, items and zeros beside the sum
pub block_is : {X : Type 0} (form : Form X) (site : Site) (place : Place) (count : ℕ) (items bytes : List ℕ) → bytes ≡ with_crc (crc_place form) bytes
    → (let laid = zero_filled BLOCK_BYTES (header form site place count ++ items) in
    (take (crc_place form) bytes ≡ take (crc_place form) laid) × (drop (crc_place form + 4) bytes ≡ drop (crc_place form + 4) laid))
    → bytes ≡ tree_block form site place count items
unfolding tree_block
block_is form site place count items bytes sum same =
    sum ∙ with_crc_same (crc_place form) bytes (zero_filled BLOCK_BYTES (header form site place count ++ items)) same.0 same.1

-- records are read back one after the other
pub records_back : {X : Type 0} (form : Form X) (laws : IsForm form) (records : List X) (rest : List ℕ) → All (λ (r : X). form.is_valid r ≡ true) records
    → records_from form (length records) (flat_map form.bytes_of records ++ rest) ≡ records
unfolding records_from
records_back form laws [] rest valid = refl
records_back form laws (r ∷ rs) rest valid =
    let after : List ℕ = flat_map form.bytes_of rs ++ rest in
    let split : flat_map form.bytes_of (r ∷ rs) ++ rest ≡ form.bytes_of r ++ after = append_assoc (form.bytes_of r) (flat_map form.bytes_of rs) rest in
    let front : take form.size (form.bytes_of r ++ after) ≡ form.bytes_of r = take_at (form.bytes_of r) after form.size (laws.sized r) in
    let next : drop form.size (form.bytes_of r ++ after) ≡ after = drop_at (form.bytes_of r) after form.size (laws.sized r) in
    let first : form.taken (form.bytes_of r) ≡ Some r = laws.takes_back r (valid 0 r (omega arith)) in
    let others : records_from form (length rs) after ≡ rs = records_back form laws rs rest (λ k d within. valid (suc k) d (omega arith)) in
    rw (split, front, first, next, others) refl

pub length-items : {I : Type 0} (bytes_of : I → List ℕ) (size : ℕ) (items : List I) → ((i : I) → length (bytes_of i) ≡ size)
    → length (flat_map bytes_of items) ≡ length items * size
length-items bytes_of size [] sized = omega arith
length-items bytes_of size (i ∷ is) sized =
    length-append (bytes_of i) (flat_map bytes_of is) ∙ omega (arith, sized i, length-items bytes_of size is sized)

-- a leaf holds the records that were written
pub records_of_leaf : {X : Type 0} (form : Form X) (laws : IsForm form) (site : Site) (place : Place) (records : List X) → length site.uuid ≡ 16
    → length records ≤ form.leaf_max → All (λ (r : X). form.is_valid r ≡ true) records → records_in form (leaf_bytes form site place records) ≡ records
records_of_leaf form laws site place records whole few valid =
    let items : List ℕ = flat_map form.bytes_of records in
    let size : length records * form.size ≤ form.leaf_max * form.size = mul-le-mul_right form.size few in
    let room : header_size form + length items ≤ BLOCK_BYTES = omega (arith, laws.leaf_fits, length-items form.bytes_of form.size records laws.sized) in
    let count = count_in_block form site place (length records) items whole room (omega (arith, laws.leaf_few)) in
    let found = items_in_block form site place (length records) items whole room in
    rw (count, found) (records_back form laws records (replicate (BLOCK_BYTES - length (header form site place (length records) ++ items)) 0) valid)

-- keys of one length, and children that fit their pointers
abbrev pub AreEntries : {X : Type 0} → Form X → List Entry → Type 0
AreEntries form entries = All (λ (e : Entry). (length e.key ≡ key_size form) × (e.child < 256 ^ pointer_size form)) entries

-- keys and pointers are read back one after the other
pub entries_back : {X : Type 0} (form : Form X) (entries : List Entry) (after_keys after_pointers : List ℕ) → AreEntries form entries
    → entries_from (key_size form) (pointer_size form) (length entries) (flat_map (λ (e : Entry). e.key) entries ++ after_keys)
    (flat_map (λ (e : Entry). big_bytes (pointer_size form) e.child) entries ++ after_pointers) ≡ entries
unfolding entries_from
entries_back form [] after_keys after_pointers all = refl
entries_back form (e ∷ es) after_keys after_pointers all =
    let good = all 0 e (omega arith) in
    let pointer : List ℕ = big_bytes (pointer_size form) e.child in
    let keys : List ℕ = flat_map (λ (entry : Entry). entry.key) es ++ after_keys in
    let pointers : List ℕ = flat_map (λ (entry : Entry). big_bytes (pointer_size form) entry.child) es ++ after_pointers in
    let split_keys : flat_map (λ (entry : Entry). entry.key) (e ∷ es) ++ after_keys ≡ e.key ++ keys = append_assoc e.key _ after_keys in
    let split_pointers : flat_map (λ (entry : Entry). big_bytes (pointer_size form) entry.child) (e ∷ es) ++ after_pointers ≡ pointer ++ pointers =
    append_assoc pointer _ after_pointers in
    let key : take (key_size form) (e.key ++ keys) ≡ e.key = take_at e.key keys (key_size form) good.0 in
    let next_keys : drop (key_size form) (e.key ++ keys) ≡ keys = drop_at e.key keys (key_size form) good.0 in
    let child : big_number (pointer_size form) (pointer ++ pointers) ≡ e.child = big_number-reads_back (pointer_size form) e.child pointers good.1 in
    let next_pointers : drop (pointer_size form) (pointer ++ pointers) ≡ pointers = drop-bytes (pointer_size form) e.child pointers in
    let others = entries_back form es after_keys after_pointers (λ k d within. all (suc k) d (omega arith)) in
    rw (split_keys, split_pointers, key, child, next_keys, next_pointers, others) refl

length-keys : {X : Type 0} (form : Form X) (entries : List Entry) → AreEntries form entries
    → length (flat_map (λ (e : Entry). e.key) entries) ≡ length entries * key_size form
length-keys form [] all = omega arith
length-keys form (e ∷ es) all =
    let good = all 0 e (omega arith) in
    length-append e.key (flat_map (λ (entry : Entry). entry.key) es)
    ∙ omega (arith, good.0, length-keys form es (λ k d within. all (suc k) d (omega arith)))

-- a node holds the keys and children that were written
pub entries_of_node : {X : Type 0} (form : Form X) (laws : IsForm form) (site : Site) (place : Place) (entries : List Entry) → length site.uuid ≡ 16
    → length entries ≤ form.node_max → AreEntries form entries → entries_in form (node_bytes form site place entries) ≡ entries
entries_of_node form laws site place entries whole few all =
    let keys : List ℕ = flat_map (λ (e : Entry). e.key) entries in
    let pointers : List ℕ = flat_map (λ (e : Entry). big_bytes (pointer_size form) e.child) entries in
    let key_room : ℕ = form.node_max * key_size form in
    let size : length entries * key_size form ≤ key_room = mul-le-mul_right (key_size form) few in
    let width : length entries * pointer_size form ≤ form.node_max * pointer_size form = mul-le-mul_right (pointer_size form) few in
    let long_keys = length-keys form entries all in
    let long_room : length (zero_filled key_room keys) ≡ key_room = length-zero_filled key_room keys (omega arith) in
    let long_pointers : length pointers ≡ length entries * pointer_size form =
    length-items (λ (e : Entry). big_bytes (pointer_size form) e.child) (pointer_size form) entries
    (λ e. length-bytes_high_first (pointer_size form) e.child) in
    let items : List ℕ = node_items form entries in
    let room : header_size form + length items ≤ BLOCK_BYTES =
    omega (arith, laws.node_fits, length-append (zero_filled key_room keys) pointers, long_room, long_pointers, width) in
    let count = count_in_block form site place (length entries) items whole room (omega (arith, laws.node_few)) in
    let found = items_in_block form site place (length entries) items whole room in
    let zeros : List ℕ = replicate (BLOCK_BYTES - length (header form site place (length entries) ++ items)) 0 in
    let room_zeros : List ℕ = replicate (key_room - length keys) 0 in
    let after : drop key_room (items ++ zeros) ≡ pointers ++ zeros =
    ap (drop key_room) (append_assoc (zero_filled key_room keys) pointers zeros) ∙ drop_at (zero_filled key_room keys) (pointers ++ zeros) key_room long_room in
    let in_front : items ++ zeros ≡ keys ++ (room_zeros ++ (pointers ++ zeros)) =
    append_assoc (zero_filled key_room keys) pointers zeros ∙ append_assoc keys room_zeros (pointers ++ zeros) in
    rw (count, found, after, in_front) (entries_back form entries (room_zeros ++ (pointers ++ zeros)) zeros all)
