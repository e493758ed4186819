-- What is known of a whole leaf and of a whole node with their items, and where the items' bytes stand.
use Rattle.std.proofs.Common.{◌≡◌, ℕ, ◌+◌, ◌-◌, ◌*◌, ◌^◌, ◌<◌, ◌≤◌, true, false, Option, Some, None, IsSome, List, ◌++◌, length, take, drop, replicate, get_or, refl, sym, ap, subst, ◌∙◌, arith}
use Rattle.std.proofs.Math.Nat.{mul-le-mul_right}
use Rattle.std.proofs.lemmas.List.{append_assoc, drop-append-le, length-append, length-drop, take-append-le, take_all, take_at}
use Rattle.std.specs.List.{flat_map}
use Rattle.byteorder.specs.Endian.{big_bytes}
use Rattle.byteorder.specs.Numbers.{big_from-lt, length-bytes_high_first}
use Rattle.xr_base.specs.Image.{part}
use Rattle.xr_base.specs.declared.geometry.TheConstants.{BLOCK_BYTES}
use Rattle.xr_block.specs.BlockLaws.{AreEntries, entries_of_node, length-zero_filled, records_of_leaf}
use Rattle.xr_kinds.specs.BigEndianLaws.{dropped_bytes}
use Rattle.xr_kinds.specs.Form.{Form, IsForm, header_size, key_size, pointer_size}
use Rattle.xr_base.specs.Fields.{AreBytes}
use Rattle.xr_block.specs.Rows.{IsWhole}
use Rattle.xr_block.specs.TreeBlock.{Entry, Place, Site, count_in, entries_in, zero_filled, leaf_bytes, node_bytes, node_items, records_in}
use Rattle.xr_block.specs.CheckLaws.{block_read, rest_of}
use Rattle.xr_block.specs.ItemCheckLaws.{held_record, leaf_holds, leaf_room, node_room}
use Rattle.xr_block.specs.KeyLaws.{length-key}
use Rattle.xr_block.specs.Checks.{HoldsRecords}
use Rattle.xr_block.specs.NodeEntryLaws.{count_of_block, entry_read, length-entries}
use Rattle.xr_block.specs.ItemByteLaws.{AreSized, length-sized}
use Rattle.xr_block.specs.Edits.{IsLeafOf, IsNodeOf}

-- after a header stand the items and zeros
pub rest_filled : {X : Type 0} (form : Form X) (items : List ℕ) → rest_of form items ≡ zero_filled (BLOCK_BYTES - header_size form) items
rest_filled form items =
    ap (λ (n : ℕ). items ++ replicate n 0) (let e : BLOCK_BYTES - (header_size form + length items) ≡ BLOCK_BYTES - header_size form - length items = omega arith in e)

-- after a node's header stand the keys and the pointers, each with zeros
abbrev pub keys_of : List Entry → List ℕ
keys_of entries = flat_map (λ (e : Entry). e.key) entries

abbrev pub pointers_of : {X : Type 0} → Form X → List Entry → List ℕ
pointers_of form entries = flat_map (λ (e : Entry). big_bytes (pointer_size form) e.child) entries

abbrev pub key_room : {X : Type 0} → Form X → ℕ
key_room form = form.node_max * key_size form

module _ {X : Type 0} (form : Form X) (laws : IsForm form) (entries : List Entry) (fit : AreEntries form entries) (few : length entries ≤ form.node_max) where
  pub keys_sized : AreSized (λ (e : Entry). e.key) (key_size form) entries
  keys_sized k d within = (fit k d within).0

  pub pointers_sized : AreSized (λ (e : Entry). big_bytes (pointer_size form) e.child) (pointer_size form) entries
  pointers_sized k d within = length-bytes_high_first (pointer_size form) (get_or entries k d).child

  pub length-keys : length (keys_of entries) ≡ key_size form * length entries
  length-keys = length-sized (λ (e : Entry). e.key) (key_size form) entries keys_sized

  pub keys_fit : key_size form * length entries ≤ key_room form
  keys_fit = let most : length entries * key_size form ≤ form.node_max * key_size form = mul-le-mul_right (key_size form) few in omega (arith, most)

  pub items_fit : header_size form + length (node_items form entries) ≤ BLOCK_BYTES
  items_fit = (node_room form laws entries (key_size form * length entries) length-keys keys_fit few).1

  pub node_filled : rest_of form (node_items form entries)
      ≡ zero_filled (key_room form) (keys_of entries) ++ zero_filled (BLOCK_BYTES - header_size form - key_room form) (pointers_of form entries)
  node_filled =
      let room : ℕ = BLOCK_BYTES - header_size form in
      let keys : List ℕ = zero_filled (key_room form) (keys_of entries) in
      let pointers : List ℕ = pointers_of form entries in
      let long : length keys ≡ key_room form = length-zero_filled (key_room form) (keys_of entries) (omega (arith, length-keys, keys_fit)) in
      rest_filled form (node_items form entries) ∙ append_assoc keys pointers (replicate (room - length (keys ++ pointers)) 0)
      ∙ ap (λ (n : ℕ). keys ++ (pointers ++ replicate n 0))
      (let e : room - length (keys ++ pointers) ≡ room - key_room form - length pointers = omega (arith, length-append keys pointers, long) in e)

module _ {X : Type 0} (form : Form X) (laws : IsForm form) (site : Site) (place : Place) (bytes : List ℕ) where
  pub leaf_records : (records : List X) → IsLeafOf form site place records bytes → records_in form bytes ≡ records
  leaf_records records is = ap (records_in form) is.whole ∙ records_of_leaf form laws site place records is.identified is.few is.valid

  pub leaf_count : (records : List X) → IsLeafOf form site place records bytes → count_in bytes ≡ length records
  leaf_count records is =
      ap count_in is.whole
      ∙ count_of_block form site place (length records) (flat_map form.bytes_of records) (omega (arith, is.few, laws.leaf_few))

  -- a leaf of a tree has the records that are read from it
  pub whole_of_leaf : (least : ℕ) (records : List X) → IsLeafOf form site place records bytes → least ≤ length records
      → IsWhole least form.leaf_max (leaf_bytes form site) (records_in form bytes) place bytes
  whole_of_leaf least records is some =
      subst (λ (rs : List X). IsWhole least form.leaf_max (leaf_bytes form site) rs place bytes) (sym (leaf_records records is))
      (record { whole = is.whole; least_items = some; most_items = is.few })

  valid_at : (k : ℕ) (d : X) (o : Option X) → length bytes ≡ BLOCK_BYTES → AreBytes bytes → HoldsRecords form bytes → k < count_in bytes
      → form.taken (part (header_size form + form.size * k) form.size bytes) ≡ o → IsSome o → form.is_valid (get_or (records_in form bytes) k d) ≡ true
  valid_at k d None long all holds within taken some = let lie : false ≡ true = some in absurd cc
  valid_at k d (Some x) long all holds within taken some =
      let held = held_record form laws bytes k x long all holds within taken in
      subst (λ (r : X). form.is_valid r ≡ true) (held.0 d) held.1

  pub leaf_of_whole : (least : ℕ) → length site.uuid ≡ 16 → length bytes ≡ BLOCK_BYTES → AreBytes bytes
      → IsWhole least form.leaf_max (leaf_bytes form site) (records_in form bytes) place bytes → IsLeafOf form site place (records_in form bytes) bytes
  leaf_of_whole least identified long all whole =
      let have = leaf_holds form laws site least place bytes identified whole in
      let holds : HoldsRecords form bytes = record { most_items = omega (arith, have.0, whole.most_items); records = have.1 } in
      record {
        identified = identified;
        valid = λ k d within. let inside : k < count_in bytes = omega (arith, have.0, within) in
            valid_at k d _ long all holds inside refl (have.1.valid k inside);
        few = whole.most_items;
        whole = whole.whole;
      }

  pub holds_records : (records : List X) → IsLeafOf form site place records bytes → HoldsRecords form bytes
  holds_records records is = record {
    most_items = omega (arith, leaf_count records is, is.few);
    records = (leaf_holds form laws site 0 place bytes is.identified (whole_of_leaf 0 records is (omega arith))).1;
  }

  pub leaf_rest : (records : List X) → IsLeafOf form site place records bytes
      → drop (header_size form) bytes ≡ zero_filled (BLOCK_BYTES - header_size form) (flat_map form.bytes_of records)
  leaf_rest records is =
      (block_read form site place (length records) (flat_map form.bytes_of records) bytes is.identified (leaf_room form laws records is.few) is.whole).rest
      ∙ rest_filled form (flat_map form.bytes_of records)

  pub node_entries : (entries : List Entry) → IsNodeOf form site place entries bytes → entries_in form bytes ≡ entries
  node_entries entries is = ap (entries_in form) is.whole ∙ entries_of_node form laws site place entries is.identified is.few is.fit

  pub node_count : (entries : List Entry) → IsNodeOf form site place entries bytes → count_in bytes ≡ length entries
  node_count entries is =
      ap count_in is.whole ∙ count_of_block form site place (length entries) (node_items form entries) (omega (arith, is.few, laws.node_few))

  pub node_of_whole : (least : ℕ) → length site.uuid ≡ 16 → length bytes ≡ BLOCK_BYTES → AreBytes bytes
      → IsWhole least form.node_max (node_bytes form site) (entries_in form bytes) place bytes → IsNodeOf form site place (entries_in form bytes) bytes
  node_of_whole least identified long all whole = record {
    identified = identified;
    fit = λ k d within.
        let inside : k < count_in bytes = omega (arith, length-entries form bytes, within) in
        subst (λ (e : Entry). (length e.key ≡ key_size form) × (e.child < 256 ^ pointer_size form)) (sym (entry_read form bytes k d inside)) (
          length-key form laws k bytes long (omega (arith, length-entries form bytes, within, whole.most_items)),
          big_from-lt 0 (pointer_size form) _ (dropped_bytes (header_size form + key_room form + pointer_size form * k) bytes all),
        );
    few = whole.most_items;
    whole = whole.whole;
  }

  pub node_moved : (other : Place) (entries : List Entry) (next : List ℕ) → IsNodeOf form site place entries bytes → next ≡ node_bytes form site other entries
      → IsNodeOf form site other entries next
  node_moved other entries next is moved = record { identified = is.identified; fit = is.fit; few = is.few; whole = moved }

  pub node_rest : (entries : List Entry) → IsNodeOf form site place entries bytes
      → drop (header_size form) bytes
      ≡ zero_filled (key_room form) (keys_of entries) ++ zero_filled (BLOCK_BYTES - header_size form - key_room form) (pointers_of form entries)
  node_rest entries is =
      (block_read form site place (length entries) (node_items form entries) bytes is.identified (items_fit form laws entries is.fit is.few) is.whole).rest
      ∙ node_filled form laws entries is.fit is.few

-- stretches of two rows of items: the first of the first row, the others of it, all from a place on, and all
module _ {I : Type 0} (xs ys : List I) where
  pub first_stretch : (m : ℕ) → m ≤ length xs → take (m - 0) (drop 0 (xs ++ ys)) ≡ take m xs
  first_stretch m within = ap (λ (n : ℕ). take n (xs ++ ys)) (let e : m - 0 ≡ m = omega arith in e) ∙ take-append-le m xs ys within

  pub other_stretch : (m n : ℕ) → m ≤ n → n ≡ length xs → take (n - m) (drop m (xs ++ ys)) ≡ drop m xs
  other_stretch m n order all =
      ap (take (n - m)) (drop-append-le m xs ys (omega (arith, order, all)))
      ∙ take_at (drop m xs) ys (n - m) (length-drop m xs ∙ omega (arith, all))

  pub last_stretch : (m n : ℕ) → n ≡ length xs + length ys → take (n - m) (drop m (xs ++ ys)) ≡ drop m (xs ++ ys)
  last_stretch m n all = take_all (n - m) (drop m (xs ++ ys)) (omega (arith, length-drop m (xs ++ ys), length-append xs ys, all))

  pub whole_stretch : (n : ℕ) → n ≡ length xs + length ys → take (n - 0) (drop 0 (xs ++ ys)) ≡ xs ++ ys
  whole_stretch n all = last_stretch 0 n all
