-- A node that is built of keys' and pointers' bytes, of its own or of two others.
use Rattle.std.proofs.Common.{◌≡◌, ℕ, ◌+◌, ◌-◌, ◌*◌, ◌/◌, ◌^◌, ◌<◌, ◌≤◌, Bool, true, false, if◌then◌else◌, List, [], ◌++◌, length, take, drop, replicate, get_or, sym, ap, ◌∙◌, arith}
use Rattle.std.proofs.Math.Nat.{mul-div_cancel_left}
use Rattle.std.proofs.lemmas.Grind.{flat_map-append}
use Rattle.std.proofs.lemmas.List.{append-nil, append_assoc, drop-drop, drop_at, length-append, length-drop, length-take-le, take_at}
use Rattle.std.proofs.lemmas.List.Elements.{All-append, All-drop, All-take}
use Rattle.byteorder.specs.Endian.{big_bytes}
use Rattle.byteorder.specs.Numbers.{length-bytes_high_first}
use Rattle.xr_base.specs.Image.{part}
use Rattle.xr_base.specs.declared.geometry.TheConstants.{BLOCK_BYTES}
use Rattle.xr_block.specs.BlockLaws.{AreEntries, length-zero_filled, length-items}
use Rattle.xr_kinds.specs.Form.{Form, IsForm, header_size, key_size, pointer_size}
use Rattle.xr_block.specs.TreeBlock.{Entry, Place, Site, count_in, zero_filled, header, node_items, tree_block}
use Rattle.xr_block.specs.Edits.{IsHeader, IsNodeOf, sealed}
use Rattle.xr_block.specs.SealLaws.{sealed_count, sealed_rest}
use Rattle.xr_block.specs.declared.header.Header.{Header}
use Rattle.xr_block.specs.EditLaws.{key_room, keys_fit, keys_of, length-keys, node_count, node_filled, node_rest, pointers_of, rest_filled}
use Rattle.xr_block.specs.ItemByteLaws.{part_of_items}
use Rattle.xr_block.proofs.LaidBlockLemmas.{built_block}
use Rattle.xr_block.proofs.LeafBuildLemmas.{least_factor, stretch_size}

pointer_some : (long : Bool) → 1 ≤ (if long then 8 else 4)
pointer_some true = omega arith
pointer_some false = omega arith

module _ {X : Type 0} (form : Form X) (laws : IsForm form) (site : Site) where
  -- a node's count
  counted_in : (one : Place) (entries : List Entry) (bytes : List ℕ) → length bytes ≡ BLOCK_BYTES → IsNodeOf form site one entries (sealed form bytes)
      → count_in bytes ≡ length entries
  counted_in one entries bytes full is = sym (sealed_count form bytes full) ∙ node_count form laws site one (sealed form bytes) entries is

  -- the bytes of a node's keys and of its pointers
  keys_part : (one : Place) (entries : List Entry) (bytes : List ℕ) → length bytes ≡ BLOCK_BYTES → IsNodeOf form site one entries (sealed form bytes)
      → part (header_size form) (key_size form * count_in bytes) bytes ≡ keys_of entries
  keys_part one entries bytes full is =
      let keys : List ℕ = keys_of entries in
      let zeros : List ℕ = replicate (key_room form - length keys) 0 in
      let size : length keys ≡ key_size form * count_in bytes =
      length-keys form laws entries is.fit is.few ∙ ap (λ (n : ℕ). key_size form * n) (sym (counted_in one entries bytes full is)) in
      ap (take (key_size form * count_in bytes)) (sym (sealed_rest form bytes full) ∙ node_rest form laws site one (sealed form bytes) entries is ∙ append_assoc keys zeros _)
      ∙ take_at keys _ (key_size form * count_in bytes) size

  pointers_part : (one : Place) (entries : List Entry) (bytes : List ℕ) → length bytes ≡ BLOCK_BYTES → IsNodeOf form site one entries (sealed form bytes)
      → part (header_size form + key_room form) (pointer_size form * count_in bytes) bytes ≡ pointers_of form entries
  pointers_part one entries bytes full is =
      let keys : List ℕ = zero_filled (key_room form) (keys_of entries) in
      let pointers : List ℕ = pointers_of form entries in
      let long : length keys ≡ key_room form = length-zero_filled (key_room form) (keys_of entries)
      (omega (arith, length-keys form laws entries is.fit is.few, keys_fit form laws entries is.fit is.few)) in
      let size : length pointers ≡ pointer_size form * count_in bytes =
      length-items (λ (e : Entry). big_bytes (pointer_size form) e.child) (pointer_size form) entries (λ e. length-bytes_high_first (pointer_size form) e.child)
      ∙ ap (λ (n : ℕ). n * pointer_size form) (sym (counted_in one entries bytes full is)) ∙ omega arith in
      ap (take (pointer_size form * count_in bytes))
      (sym (drop-drop (key_room form) (header_size form) bytes)
      ∙ ap (drop (key_room form)) (sym (sealed_rest form bytes full) ∙ node_rest form laws site one (sealed form bytes) entries is)
      ∙ drop_at keys _ (key_room form) long)
      ∙ take_at pointers _ (pointer_size form * count_in bytes) size

  module _ (place : Place) (fields : Header) (names : IsHeader fields site place) (count key_bytes pointer_bytes : ℕ) (head keys pointers : List ℕ)
      (heads : head ≡ header form site place count) (key_rooms : key_bytes ≡ key_room form) (rooms : pointer_bytes + key_bytes + header_size form ≡ BLOCK_BYTES) where
    node_made : (next : List Entry) → AreEntries form next → length next ≤ form.node_max → count ≡ length next
        → keys ≡ zero_filled key_bytes (keys_of next) → pointers ≡ zero_filled pointer_bytes (pointers_of form next)
        → IsNodeOf form site place next (sealed form (head ++ (keys ++ pointers)))
    node_made next fit few counted is_keys is_pointers =
        let left : pointer_bytes ≡ BLOCK_BYTES - header_size form - key_room form = omega (arith, rooms, key_rooms) in
        let area : keys ++ pointers ≡ zero_filled (BLOCK_BYTES - header_size form) (node_items form next) =
        ap (λ (xs : List ℕ). xs ++ pointers) (is_keys ∙ ap (λ (n : ℕ). zero_filled n (keys_of next)) key_rooms)
        ∙ ap (λ (xs : List ℕ). zero_filled (key_room form) (keys_of next) ++ xs) (is_pointers ∙ ap (λ (n : ℕ). zero_filled n (pointers_of form next)) left)
        ∙ sym (node_filled form laws next fit few) ∙ rest_filled form (node_items form next) in
        record {
          identified = names.identified;
          fit = fit;
          few = few;
          whole = built_block form site place count (BLOCK_BYTES - header_size form) (node_items form next) head (keys ++ pointers) names.identified heads area
              (omega (arith, rooms))
              ∙ ap (λ (n : ℕ). tree_block form site place n (node_items form next)) counted;
        }

    pub node_built : (entries : List Entry) (listed numbers : List ℕ) → AreEntries form entries → listed ≡ keys_of entries → numbers ≡ pointers_of form entries
        → length numbers ≤ form.node_max * pointer_size form → count ≡ length numbers / pointer_size form
        → keys ≡ zero_filled key_bytes (listed ++ []) → pointers ≡ zero_filled pointer_bytes (numbers ++ [])
        → IsNodeOf form site place entries (sealed form (head ++ (keys ++ pointers)))
    node_built entries listed numbers fit same_keys same_pointers few counted is_keys is_pointers =
        let p : ℕ = pointer_size form in
        let some = pointer_some form.long in
        let long : length numbers ≡ p * length entries =
        ap length same_pointers ∙ length-items (λ (e : Entry). big_bytes p e.child) p entries (λ e. length-bytes_high_first p e.child) ∙ omega arith in
        node_made entries fit (least_factor p (length entries) form.node_max some (omega (arith, long, few)))
        (counted ∙ ap (λ (n : ℕ). n / p) long ∙ mul-div_cancel_left (length entries) some)
        (is_keys ∙ ap (zero_filled key_bytes) (append-nil listed ∙ same_keys)) (is_pointers ∙ ap (zero_filled pointer_bytes) (append-nil numbers ∙ same_pointers))

    pub node_gathered : (one other : Place) (xs ys : List Entry) (from to : ℕ) (first second : List ℕ)
        → length first ≡ BLOCK_BYTES → length second ≡ BLOCK_BYTES → IsNodeOf form site one xs (sealed form first) → IsNodeOf form site other ys (sealed form second)
        → from ≤ to → to ≤ count_in first + count_in second → to - from ≤ form.node_max → count ≡ to - from
        → keys ≡ zero_filled key_bytes (part (key_size form * from) (key_size form * to - key_size form * from)
        (part (header_size form) (key_size form * count_in first) first ++ part (header_size form) (key_size form * count_in second) second))
        → pointers ≡ zero_filled pointer_bytes (part (pointer_size form * from) (pointer_size form * to - pointer_size form * from)
        (part (header_size form + key_room form) (pointer_size form * count_in first) first ++ part (header_size form + key_room form) (pointer_size form * count_in second) second))
        → IsNodeOf form site place (take (to - from) (drop from (xs ++ ys))) (sealed form (head ++ (keys ++ pointers)))
    node_gathered one other xs ys from to first second full_first full_second is_first is_second order within few counted is_keys is_pointers =
        let Fits = λ (e : Entry). (length e.key ≡ key_size form) × (e.child < 256 ^ pointer_size form) in
        let p : ℕ = pointer_size form in
        let key_of = λ (e : Entry). e.key in
        let pointer_of = λ (e : Entry). big_bytes p e.child in
        let items : List Entry = xs ++ ys in
        let all : length items ≡ count_in first + count_in second =
        length-append xs ys ∙ omega (arith, counted_in one xs first full_first is_first, counted_in other ys second full_second is_second) in
        let fit : AreEntries form items = All-append Fits xs ys is_first.fit is_second.fit in
        let next : List Entry = take (to - from) (drop from items) in
        let size : length next ≡ to - from = length-take-le (to - from) (drop from items) (omega (arith, length-drop from items, all)) in
        let both_keys : part (header_size form) (key_size form * count_in first) first ++ part (header_size form) (key_size form * count_in second) second ≡ keys_of items =
        ap (λ (zs : List ℕ). zs ++ part (header_size form) (key_size form * count_in second) second) (keys_part one xs first full_first is_first)
        ∙ ap (λ (zs : List ℕ). keys_of xs ++ zs) (keys_part other ys second full_second is_second) ∙ sym (flat_map-append key_of xs ys) in
        let both_pointers : part (header_size form + key_room form) (p * count_in first) first ++ part (header_size form + key_room form) (p * count_in second) second
        ≡ pointers_of form items =
        ap (λ (zs : List ℕ). zs ++ part (header_size form + key_room form) (p * count_in second) second) (pointers_part one xs first full_first is_first)
        ∙ ap (λ (zs : List ℕ). pointers_of form xs ++ zs) (pointers_part other ys second full_second is_second) ∙ sym (flat_map-append pointer_of xs ys) in
        node_made next (All-take Fits (to - from) (drop from items) (All-drop Fits from items fit)) (omega (arith, size, few)) (counted ∙ sym size)
        (is_keys ∙ ap (zero_filled key_bytes)
        (ap (part (key_size form * from) (key_size form * to - key_size form * from)) both_keys
        ∙ ap (λ (n : ℕ). part (key_size form * from) n (keys_of items)) (stretch_size (key_size form) from to order)
        ∙ part_of_items key_of (key_size form) items from (to - from) (λ k d inside. (fit k d inside).0) (omega (arith, all))))
        (is_pointers ∙ ap (zero_filled pointer_bytes)
        (ap (part (p * from) (p * to - p * from)) both_pointers
        ∙ ap (λ (n : ℕ). part (p * from) n (pointers_of form items)) (stretch_size p from to order)
        ∙ part_of_items pointer_of p items from (to - from) (λ k d inside. length-bytes_high_first p (get_or items k d).child) (omega (arith, all))))
