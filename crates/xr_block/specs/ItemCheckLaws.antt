-- The items of a leaf and of a node as their bytes: a block that passed its tests is a whole one, and a whole one passes.
use Rattle.std.proofs.Common.{get_or, subst, false, true, ◌≡◌, ℕ, zero, suc, ◌+◌, ◌-◌, ◌*◌, ◌^◌, ◌<◌, ◌≤◌, Option, Some, None, List, ◌++◌, length, take, drop, replicate, refl, sym, ap, ◌∙◌, arith, IsSome}
use Rattle.std.proofs.Math.Nat.{mul-le-mul_right}
use Rattle.std.proofs.Math.Seq.{take-add}
use Rattle.std.proofs.lemmas.List.{append-nil, append_assoc, drop_at, drop-drop, length-append, length-drop, length-replicate, length-take-le, take-append-drop, take_at}
use Rattle.std.proofs.lemmas.Grind.{flat_map-append}
use Rattle.std.specs.List.{flat_map}
use Rattle.std.specs.Option.{option_to_list}
use Rattle.byteorder.specs.Endian.{big_bytes, big_number}
use Rattle.byteorder.specs.Numbers.{big_from-take, length-bytes_high_first}
use Rattle.xr_base.specs.Image.{part}
use Rattle.xr_base.specs.declared.geometry.TheConstants.{BLOCK_BYTES}
use Rattle.xr_kinds.specs.BigEndianLaws.{bytes_again, dropped_bytes, taken_bytes}
use Rattle.xr_block.specs.BlockLaws.{length-zero_filled, length-items}
use Rattle.xr_block.specs.Checks.{AreZeros, HasRecords, HoldsRecords, HasHeader, IsCheckedLeaf, IsCheckedNode, place_in}
use Rattle.xr_kinds.specs.Form.{Form, IsForm, header_size, key_size, pointer_size}
use Rattle.xr_base.specs.Fields.{AreBytes}
use Rattle.xr_block.specs.NodeEntryLaws.{length-entries}
use Rattle.xr_block.specs.Rows.{IsWhole}
use Rattle.xr_block.specs.TreeBlock.{Entry, Place, Site, count_in, entries_from, entries_in, zero_filled, leaf_bytes, node_bytes, node_items, records_from, records_in, tree_block}
use Rattle.xr_block.specs.CheckLaws.{IsRead, block_read, framed_block, rest_of}

-- n records stand in some bytes
abbrev pub HaveRecords : {X : Type 0} → Form X → ℕ → List ℕ → Type 0
HaveRecords form n bytes = (k : ℕ) → k < n → IsSome (form.taken (part (form.size * k) form.size bytes))

later : {X : Type 0} (form : Form X) (n : ℕ) (bytes : List ℕ) → HaveRecords form (suc n) bytes → HaveRecords form n (drop form.size bytes)
later form n bytes all k within =
    let next : form.size * suc k ≡ form.size + form.size * k = omega arith in
    rw (drop-drop (form.size * k) form.size bytes, ← next) (all (suc k) (omega arith))

first_taken : {X : Type 0} (form : Form X) (n : ℕ) (bytes : List ℕ) → HaveRecords form (suc n) bytes → IsSome (form.taken (take form.size bytes))
first_taken form n bytes all =
    let none : form.size * 0 ≡ 0 = omega arith in subst (λ (m : ℕ). IsSome (form.taken (part m form.size bytes))) none (all 0 (omega arith))

listed : {X : Type 0} (form : Form X) (o : Option X) (bytes : List ℕ) → form.taken bytes ≡ o → IsSome o → IsForm form → length bytes ≡ form.size → AreBytes bytes
    → (length (option_to_list o) ≡ 1) × (flat_map form.bytes_of (option_to_list o) ≡ bytes)
listed form None bytes is some laws long all = let lie : false ≡ true = some in absurd cc
listed form (Some r) bytes is some laws long all =
    (refl, append-nil (form.bytes_of r) ∙ (laws.takes_only bytes r long all is).1)

pub records_are : {X : Type 0} (form : Form X) (laws : IsForm form) (n : ℕ) (bytes : List ℕ) → form.size * n ≤ length bytes → AreBytes bytes
    → HaveRecords form n bytes
    → (length (records_from form n bytes) ≡ n) × (flat_map form.bytes_of (records_from form n bytes) ≡ take (form.size * n) bytes)
unfolding records_from
records_are form laws zero bytes fits all have = (refl, let none : form.size * 0 ≡ 0 = omega arith in rw none refl)
records_are form laws (suc n) bytes fits all have =
    let o = form.taken (take form.size bytes) in
    let rest : List ℕ = drop form.size bytes in
    let size : form.size * suc n ≡ form.size + form.size * n = omega arith in
    let first = listed form o (take form.size bytes) refl (first_taken form n bytes have) laws
    (length-take-le form.size bytes (omega (arith, fits, size))) (taken_bytes form.size bytes all) in
    let others = records_are form laws n rest (omega (arith, fits, size, length-drop form.size bytes)) (dropped_bytes form.size bytes all) (later form n bytes have) in (
      length-append (option_to_list o) (records_from form n rest) ∙ omega (arith, first.0, others.0),
      flat_map-append form.bytes_of (option_to_list o) (records_from form n rest)
          ∙ ap (λ (xs : List ℕ). xs ++ flat_map form.bytes_of (records_from form n rest)) first.1
          ∙ ap (λ (xs : List ℕ). take form.size bytes ++ xs) others.1
          ∙ sym (take-add form.size (form.size * n) bytes) ∙ ap (λ (k : ℕ). take k bytes) (sym size),
    )

few_listed : {X : Type 0} (o : Option X) → length (option_to_list o) ≤ 1
few_listed None = omega arith
few_listed (Some r) = omega arith

pub few_records : {X : Type 0} (form : Form X) (n : ℕ) (bytes : List ℕ) → length (records_from form n bytes) ≤ n
unfolding records_from
few_records form zero bytes = omega arith
few_records form (suc n) bytes =
    omega (
      arith,
      length-append (option_to_list (form.taken (take form.size bytes))) (records_from form n (drop form.size bytes)),
      few_listed (form.taken (take form.size bytes)),
      few_records form n (drop form.size bytes),
    )

is_listed : {X : Type 0} (o : Option X) → 1 ≤ length (option_to_list o) → IsSome o
is_listed None some = absurd (omega arith)
is_listed (Some r) some = refl

-- where there are as many records as places, each place holds one
pub records_all : {X : Type 0} (form : Form X) (n : ℕ) (bytes : List ℕ) → length (records_from form n bytes) ≡ n → HaveRecords form n bytes
unfolding records_from
records_all form zero bytes long k within = absurd (omega arith)
records_all form (suc n) bytes long zero within =
    let o = form.taken (take form.size bytes) in
    let none : form.size * 0 ≡ 0 = omega arith in
    rw none (is_listed o (omega (arith, long, length-append (option_to_list o) (records_from form n (drop form.size bytes)), few_records form n (drop form.size bytes))))
records_all form (suc n) bytes long (suc k) within =
    let o = form.taken (take form.size bytes) in
    let rest : List ℕ = drop form.size bytes in
    let next : form.size * suc k ≡ form.size + form.size * k = omega arith in
    rw (next, ← drop-drop (form.size * k) form.size bytes)
    (records_all form n rest (omega (arith, long, length-append (option_to_list o) (records_from form n rest), few_listed o, few_records form n rest)) k (omega arith))

-- items with zeros after them, from a header's end on
rest_from : {X : Type 0} (form : Form X) (items bytes : List ℕ) (m : ℕ) → length bytes ≡ BLOCK_BYTES → length items ≡ m
    → take m (drop (header_size form) bytes) ≡ items → AreZeros (drop (header_size form + m) bytes) → drop (header_size form) bytes ≡ rest_of form items
rest_from form items bytes m long size front zeros =
    let after : List ℕ = drop (header_size form + m) bytes in
    let room : length after ≡ BLOCK_BYTES - (header_size form + length items) = length-drop (header_size form + m) bytes ∙ omega (arith, long, size) in
    sym (take-append-drop m (drop (header_size form) bytes))
    ∙ ap (λ (xs : List ℕ). xs ++ drop m (drop (header_size form) bytes)) front
    ∙ ap (λ (xs : List ℕ). items ++ xs) (drop-drop m (header_size form) bytes ∙ zeros ∙ ap (λ (n : ℕ). replicate n 0) room)

are_zeros_if : (bytes : List ℕ) (n : ℕ) → bytes ≡ replicate n 0 → AreZeros bytes
are_zeros_if bytes n is = is ∙ ap (λ (k : ℕ). replicate k 0) (sym (ap length is ∙ length-replicate n 0))

zeros_after : {X : Type 0} (form : Form X) (items bytes : List ℕ) (m : ℕ) → length items ≡ m → drop (header_size form) bytes ≡ rest_of form items
    → AreZeros (drop (header_size form + m) bytes)
zeros_after form items bytes m size rest =
    are_zeros_if (drop (header_size form + m) bytes) (BLOCK_BYTES - (header_size form + length items))
    (sym (drop-drop m (header_size form) bytes) ∙ ap (drop m) rest ∙ drop_at items _ m size)

read_at : {X : Type 0} (form : Form X) (bytes : List ℕ) (k : ℕ)
    → form.taken (part (header_size form + form.size * k) form.size bytes) ≡ form.taken (part (form.size * k) form.size (drop (header_size form) bytes))
read_at form bytes k = ap (λ (xs : List ℕ). form.taken (take form.size xs)) (sym (drop-drop (form.size * k) (header_size form) bytes))

-- a leaf
pub leaf_whole : {X : Type 0} (form : Form X) (laws : IsForm form) (site : Site) (least n : ℕ) (bytes : List ℕ) → length site.uuid ≡ 16
    → length bytes ≡ BLOCK_BYTES → AreBytes bytes → IsCheckedLeaf form site least n bytes
    → IsWhole least form.leaf_max (leaf_bytes form site) (records_in form bytes) (place_in form n 0 bytes) bytes
leaf_whole form laws site least n bytes identified long all tested =
    let count : ℕ = count_in bytes in
    let xs : List ℕ = drop (header_size form) bytes in
    let items : List ℕ = flat_map form.bytes_of (records_in form bytes) in
    let size : count * form.size ≤ form.leaf_max * form.size = mul-le-mul_right form.size tested.most_items in
    let fits : form.size * count ≤ length xs = omega (arith, laws.leaf_fits, long, size, length-drop (header_size form) bytes) in
    let found = records_are form laws count xs fits (dropped_bytes (header_size form) bytes all)
    (λ k within. subst (λ (o : _). IsSome o) (read_at form bytes k) (tested.records.valid k within)) in
    let length_items : length items ≡ form.size * count = ap length found.1 ∙ length-take-le (form.size * count) xs fits in
    let rest = rest_from form items bytes (form.size * count) long length_items (sym found.1) tested.records.zeros in
    record {
      whole = framed_block form site n 0 items bytes identified long all tested.framed rest
          ∙ ap (λ (k : ℕ). tree_block form site (place_in form n 0 bytes) k items) (sym found.0);
      least_items = omega (arith, found.0, tested.least_items);
      most_items = omega (arith, found.0, tested.most_items);
    }

pub leaf_room : {X : Type 0} (form : Form X) (laws : IsForm form) (records : List X) → length records ≤ form.leaf_max
    → header_size form + length (flat_map form.bytes_of records) ≤ BLOCK_BYTES
leaf_room form laws records few =
    let size : length records * form.size ≤ form.leaf_max * form.size = mul-le-mul_right form.size few in
    omega (arith, laws.leaf_fits, size, length-items form.bytes_of form.size records laws.sized)

pub leaf_read : {X : Type 0} (form : Form X) (laws : IsForm form) (site : Site) (least : ℕ) (place : Place) (bytes : List ℕ) → length site.uuid ≡ 16
    → IsWhole least form.leaf_max (leaf_bytes form site) (records_in form bytes) place bytes
    → IsRead form site place (length (records_in form bytes)) (flat_map form.bytes_of (records_in form bytes)) bytes
leaf_read form laws site least place bytes identified whole =
    block_read form site place (length (records_in form bytes)) (flat_map form.bytes_of (records_in form bytes)) bytes identified
    (leaf_room form laws (records_in form bytes) whole.most_items) whole.whole

-- each place of a whole leaf holds a record
pub leaf_holds : {X : Type 0} (form : Form X) (laws : IsForm form) (site : Site) (least : ℕ) (place : Place) (bytes : List ℕ) → length site.uuid ≡ 16
    → IsWhole least form.leaf_max (leaf_bytes form site) (records_in form bytes) place bytes
    → (count_in bytes ≡ length (records_in form bytes)) × HasRecords form (count_in bytes) bytes
leaf_holds form laws site least place bytes identified whole =
    let count : ℕ = count_in bytes in
    let items : List ℕ = flat_map form.bytes_of (records_in form bytes) in
    let read = leaf_read form laws site least place bytes identified whole in
    let counted : count ≡ length (records_in form bytes) = read.same_count (omega (arith, laws.leaf_few, whole.most_items)) in
    let length_items : length items ≡ form.size * count = length-items form.bytes_of form.size (records_in form bytes) laws.sized ∙ ap (λ (n : ℕ). n * form.size) (sym counted) ∙ omega arith in
    let have = records_all form count (drop (header_size form) bytes) (sym counted) in (
      counted,
      record {
        valid = λ k within. subst (λ (o : _). IsSome o) (sym (read_at form bytes k)) (have k within);
        zeros = zeros_after form items bytes (form.size * count) length_items read.rest;
      },
    )

pub leaf_checked : {X : Type 0} (form : Form X) (laws : IsForm form) (site : Site) (least : ℕ) (place : Place) (bytes : List ℕ) → length site.uuid ≡ 16
    → place.level ≡ 0 → IsWhole least form.leaf_max (leaf_bytes form site) (records_in form bytes) place bytes → IsCheckedLeaf form site least place.number bytes
leaf_checked form laws site least place bytes identified low whole =
    let read = leaf_read form laws site least place bytes identified whole in
    let holds = leaf_holds form laws site least place bytes identified whole in
    record {
      framed = subst (λ (level : ℕ). HasHeader form site place.number level bytes) low (read.framed (omega (arith, low)));
      least_items = omega (arith, holds.0, whole.least_items);
      most_items = omega (arith, holds.0, whole.most_items);
      records = holds.1;
    }

-- a node's keys and pointers
entry_keys : (key width n : ℕ) (keys pointers : List ℕ) → flat_map (λ (e : Entry). e.key) (entries_from key width n keys pointers) ≡ take (key * n) keys
unfolding entries_from
entry_keys key width zero keys pointers = let none : key * 0 ≡ 0 = omega arith in rw none refl
entry_keys key width (suc n) keys pointers =
    let next : key * suc n ≡ key + key * n = omega arith in
    ap (λ (xs : List ℕ). take key keys ++ xs) (entry_keys key width n (drop key keys) (drop width pointers))
    ∙ sym (take-add key (key * n) keys) ∙ ap (λ (k : ℕ). take k keys) (sym next)

entry_pointers : (key width n : ℕ) (keys pointers : List ℕ) → width * n ≤ length pointers → AreBytes pointers
    → flat_map (λ (e : Entry). big_bytes width e.child) (entries_from key width n keys pointers) ≡ take (width * n) pointers
unfolding entries_from
entry_pointers key width zero keys pointers fits all = let none : width * 0 ≡ 0 = omega arith in rw none refl
entry_pointers key width (suc n) keys pointers fits all =
    let next : width * suc n ≡ width + width * n = omega arith in
    let first : big_bytes width (big_number width pointers) ≡ take width pointers =
    ap (big_bytes width) (sym (big_from-take 0 width width pointers (omega arith)))
    ∙ bytes_again width (take width pointers) (length-take-le width pointers (omega (arith, fits, next))) (taken_bytes width pointers all) in
    ap (λ (xs : List ℕ). xs ++ flat_map (λ (e : Entry). big_bytes width e.child) (entries_from key width n (drop key keys) (drop width pointers))) first
    ∙ ap (λ (xs : List ℕ). take width pointers ++ xs)
    (entry_pointers key width n (drop key keys) (drop width pointers) (omega (arith, fits, next, length-drop width pointers)) (dropped_bytes width pointers all))
    ∙ sym (take-add width (width * n) pointers) ∙ ap (λ (k : ℕ). take k pointers) (sym next)

pub node_whole : {X : Type 0} (form : Form X) (laws : IsForm form) (site : Site) (least n level : ℕ) (bytes : List ℕ) → length site.uuid ≡ 16
    → length bytes ≡ BLOCK_BYTES → AreBytes bytes → IsCheckedNode form site least n level bytes
    → IsWhole least form.node_max (node_bytes form site) (entries_in form bytes) (place_in form n level bytes) bytes
node_whole form laws site least n level bytes identified long all tested =
    let count : ℕ = count_in bytes in
    let key : ℕ = key_size form in
    let width : ℕ = pointer_size form in
    let room : ℕ = form.node_max * key in
    let xs : List ℕ = drop (header_size form) bytes in
    let entries = entries_in form bytes in
    let keys : List ℕ = flat_map (λ (e : Entry). e.key) entries in
    let pointers : List ℕ = flat_map (λ (e : Entry). big_bytes width e.child) entries in
    let few : count * key ≤ room = mul-le-mul_right key tested.most_items in
    let narrow : count * width ≤ form.node_max * width = mul-le-mul_right width tested.most_items in
    let long_xs : length xs ≡ BLOCK_BYTES - header_size form = length-drop (header_size form) bytes ∙ omega (arith, long) in
    let fits : room + form.node_max * width ≤ length xs = omega (arith, long_xs, laws.node_fits) in
    let keys_are : keys ≡ take (key * count) xs = entry_keys key width count xs (drop room xs) in
    let length_keys : length keys ≡ key * count = ap length keys_are ∙ length-take-le (key * count) xs (omega (arith, few, fits)) in
    let pointers_are : pointers ≡ take (width * count) (drop room xs) =
    entry_pointers key width count xs (drop room xs) (omega (arith, narrow, fits, length-drop room xs))
    (dropped_bytes room xs (dropped_bytes (header_size form) bytes all)) in
    let gap : ℕ = room - key * count in
    let same : part (header_size form + key * count) (key * form.node_max - key * count) bytes ≡ part (key * count) gap xs =
    ap (λ (k : ℕ). take k (drop (header_size form + key * count) bytes)) (let e : key * form.node_max - key * count ≡ gap = omega arith in e)
    ∙ ap (take gap) (sym (drop-drop (key * count) (header_size form) bytes)) in
    let length_gap : length (part (key * count) gap xs) ≡ room - length keys =
    length-take-le gap (drop (key * count) xs) (omega (arith, few, fits, length-drop (key * count) xs)) ∙ omega (arith, length_keys) in
    let between : part (key * count) gap xs ≡ replicate (room - length keys) 0 =
    subst AreZeros same tested.room.between ∙ ap (λ (k : ℕ). replicate k 0) length_gap in
    let filled_keys : take room xs ≡ zero_filled room keys =
    ap (λ (k : ℕ). take k xs) (let e : room ≡ key * count + gap = omega (arith, few) in e)
    ∙ take-add (key * count) gap xs ∙ ap (λ (ys : List ℕ). ys ++ part (key * count) gap xs) (sym keys_are)
    ∙ ap (λ (ys : List ℕ). keys ++ ys) between in
    let items_are : take (room + width * count) xs ≡ node_items form entries =
    take-add room (width * count) xs ∙ ap (λ (ys : List ℕ). ys ++ take (width * count) (drop room xs)) filled_keys
    ∙ ap (λ (ys : List ℕ). zero_filled room keys ++ ys) (sym pointers_are) in
    let length_items : length (node_items form entries) ≡ room + width * count =
    sym (ap length items_are) ∙ length-take-le (room + width * count) xs (omega (arith, narrow, fits)) in
    let rest = rest_from form (node_items form entries) bytes (room + width * count) long length_items items_are
    (subst (λ (k : ℕ). AreZeros (drop k bytes))
    (let e : header_size form + key * form.node_max + width * count ≡ header_size form + (room + width * count) = omega arith in e) tested.room.zeros) in
    record {
      whole = framed_block form site n level (node_items form entries) bytes identified long all tested.framed rest
          ∙ ap (λ (k : ℕ). tree_block form site (place_in form n level bytes) k (node_items form entries)) (sym (length-entries form bytes));
      least_items = omega (arith, length-entries form bytes, tested.least_items);
      most_items = omega (arith, length-entries form bytes, tested.most_items);
    }

pub node_room : {X : Type 0} (form : Form X) (laws : IsForm form) (entries : List Entry) (keys : ℕ)
    → length (flat_map (λ (e : Entry). e.key) entries) ≡ keys → keys ≤ form.node_max * key_size form → length entries ≤ form.node_max
    → (length (node_items form entries) ≡ form.node_max * key_size form + length entries * pointer_size form)
    × (header_size form + length (node_items form entries) ≤ BLOCK_BYTES)
node_room form laws entries keys long fits few =
    let width : ℕ = pointer_size form in
    let narrow : length entries * width ≤ form.node_max * width = mul-le-mul_right width few in
    let room : ℕ = form.node_max * key_size form in
    let listed : List ℕ = flat_map (λ (e : Entry). e.key) entries in
    let size : length (node_items form entries) ≡ room + length entries * width =
    length-append (zero_filled room listed) (flat_map (λ (e : Entry). big_bytes width e.child) entries)
    ∙ omega (
      arith,
      length-zero_filled room listed (omega (arith, long, fits)),
      length-items (λ (e : Entry). big_bytes width e.child) width entries (λ e. length-bytes_high_first width e.child),
    ) in
    (size, omega (arith, laws.node_fits, narrow, size))

-- what is known of a whole node of a block's length
pub record IsNode {X : Type 0} (form : Form X) (site : Site) (least : ℕ) (place : Place) (bytes : List ℕ) : Type 0 where
  pub length_keys : length (flat_map (λ (e : Entry). e.key) (entries_in form bytes)) ≡ key_size form * count_in bytes
  pub length_items : length (node_items form (entries_in form bytes)) ≡ form.node_max * key_size form + pointer_size form * count_in bytes
  pub few : key_size form * count_in bytes ≤ form.node_max * key_size form
  pub read : IsRead form site place (length (entries_in form bytes)) (node_items form (entries_in form bytes)) bytes

pub node_read : {X : Type 0} (form : Form X) (laws : IsForm form) (site : Site) (least : ℕ) (place : Place) (bytes : List ℕ) → length site.uuid ≡ 16
    → length bytes ≡ BLOCK_BYTES → IsWhole least form.node_max (node_bytes form site) (entries_in form bytes) place bytes → IsNode form site least place bytes
node_read form laws site least place bytes identified long whole =
    let count : ℕ = count_in bytes in
    let key : ℕ = key_size form in
    let room : ℕ = form.node_max * key in
    let xs : List ℕ = drop (header_size form) bytes in
    let entries = entries_in form bytes in
    let counted : length entries ≡ count = length-entries form bytes in
    let few : length entries * key ≤ room = mul-le-mul_right key whole.most_items in
    let products : length entries * key ≡ key * count = ap (λ (n : ℕ). n * key) counted ∙ omega arith in
    let pointed : length entries * pointer_size form ≡ pointer_size form * count = ap (λ (n : ℕ). n * pointer_size form) counted ∙ omega arith in
    let fits : room ≤ length xs = omega (arith, long, laws.node_fits, length-drop (header_size form) bytes) in
    let length_keys : length (flat_map (λ (e : Entry). e.key) entries) ≡ key * count =
    ap length (entry_keys key (pointer_size form) count xs (drop room xs)) ∙ length-take-le (key * count) xs (omega (arith, few, products, fits)) in
    let both = node_room form laws entries (key * count) length_keys (omega (arith, few, products)) whole.most_items in
    record {
      length_keys = length_keys;
      length_items = both.0 ∙ omega (arith, pointed);
      few = omega (arith, few, products);
      read = block_read form site place (length entries) (node_items form entries) bytes identified both.1 whole.whole;
    }

pub node_checked : {X : Type 0} (form : Form X) (laws : IsForm form) (site : Site) (least : ℕ) (place : Place) (bytes : List ℕ) → length site.uuid ≡ 16
    → length bytes ≡ BLOCK_BYTES → place.level < 2 ^ 16 → IsWhole least form.node_max (node_bytes form site) (entries_in form bytes) place bytes
    → IsCheckedNode form site least place.number place.level bytes
node_checked form laws site least place bytes identified long low whole =
    let count : ℕ = count_in bytes in
    let key : ℕ = key_size form in
    let width : ℕ = pointer_size form in
    let room : ℕ = form.node_max * key in
    let xs : List ℕ = drop (header_size form) bytes in
    let entries = entries_in form bytes in
    let keys : List ℕ = flat_map (λ (e : Entry). e.key) entries in
    let pointers : List ℕ = flat_map (λ (e : Entry). big_bytes width e.child) entries in
    let node = node_read form laws site least place bytes identified long whole in
    let zeros : List ℕ = replicate (BLOCK_BYTES - (header_size form + length (node_items form entries))) 0 in
    let gap : List ℕ = replicate (room - length keys) 0 in
    let after : drop (key * count) xs ≡ gap ++ (pointers ++ zeros) =
    ap (drop (key * count)) (node.read.rest ∙ append_assoc (keys ++ gap) pointers zeros ∙ append_assoc keys gap (pointers ++ zeros))
    ∙ drop_at keys _ (key * count) node.length_keys in
    let size : key * form.node_max - key * count ≡ room - length keys = omega (arith, node.length_keys) in
    record {
      framed = node.read.framed low;
      least_items = omega (arith, length-entries form bytes, whole.least_items);
      most_items = omega (arith, length-entries form bytes, whole.most_items);
      room = record {
        between = are_zeros_if (part (header_size form + key * count) (key * form.node_max - key * count) bytes) (room - length keys)
            (ap (λ (k : ℕ). take k (drop (header_size form + key * count) bytes)) size
            ∙ ap (take (room - length keys)) (sym (drop-drop (key * count) (header_size form) bytes) ∙ after)
            ∙ take_at gap _ (room - length keys) (length-replicate (room - length keys) 0));
        zeros = subst (λ (k : ℕ). AreZeros (drop k bytes))
            (let e : header_size form + (room + width * count) ≡ header_size form + key * form.node_max + width * count = omega arith in e)
            (zeros_after form (node_items form entries) bytes (room + width * count) node.length_items node.read.rest);
      };
    }

after_first : {X : Type 0} (o : Option X) (rest : List X) (k : ℕ) (d : X) → IsSome o → get_or (option_to_list o ++ rest) (suc k) d ≡ get_or rest k d
after_first None rest k d is = let lie : false ≡ true = is in absurd cc
after_first (Some r) rest k d is = refl

-- a record is read where it stands among those of a leaf
nth_record : {X : Type 0} (form : Form X) (n : ℕ) (bytes : List ℕ) (k : ℕ) (d x : X) → HaveRecords form n bytes → k < n
    → form.taken (part (form.size * k) form.size bytes) ≡ Some x → x ≡ get_or (records_from form n bytes) k d
unfolding records_from
nth_record form zero bytes k d x have within is = absurd (omega arith)
nth_record form (suc n) bytes zero d x have within is =
    let none : form.size * 0 ≡ 0 = omega arith in
    let first : form.taken (take form.size bytes) ≡ Some x = ap (λ (m : ℕ). form.taken (part m form.size bytes)) (sym none) ∙ is in
    rw first refl
nth_record form (suc n) bytes (suc k) d x have within is =
    let next : form.size * suc k ≡ form.size + form.size * k = omega arith in
    let rest : List ℕ = drop form.size bytes in
    let same : form.taken (part (form.size * k) form.size rest) ≡ Some x =
    ap (λ (xs : List ℕ). form.taken (take form.size xs)) (drop-drop (form.size * k) form.size bytes)
    ∙ ap (λ (m : ℕ). form.taken (part m form.size bytes)) (sym next) ∙ is in
    nth_record form n rest k d x (later form n bytes have) (omega arith) same
    ∙ sym (after_first (form.taken (take form.size bytes)) (records_from form n rest) k d (first_taken form n bytes have))

pub held_record : {X : Type 0} (form : Form X) (laws : IsForm form) (bytes : List ℕ) (k : ℕ) (x : X) → length bytes ≡ BLOCK_BYTES → AreBytes bytes
    → HoldsRecords form bytes → k < count_in bytes → form.taken (part (header_size form + form.size * k) form.size bytes) ≡ Some x
    → ((d : X) → x ≡ get_or (records_in form bytes) k d) × (form.is_valid x ≡ true)
held_record form laws bytes k x long all holds within is =
    let place : ℕ = header_size form + form.size * k in
    let below : suc k * form.size ≤ form.leaf_max * form.size = mul-le-mul_right form.size (omega (arith, within, holds.most_items)) in
    let size : length (part place form.size bytes) ≡ form.size =
    length-take-le form.size (drop place bytes) (omega (arith, below, laws.leaf_fits, long, length-drop place bytes)) in (
      λ d. nth_record form (count_in bytes) (drop (header_size form) bytes) k d x
          (λ i under. subst (λ (o : _). IsSome o) (read_at form bytes i) (holds.records.valid i under)) within (sym (read_at form bytes k) ∙ is),
      (laws.takes_only (part place form.size bytes) x size (taken_bytes form.size (drop place bytes) (dropped_bytes place bytes all)) is).0,
    )

-- a leaf has as many records as it says
pub records_count : {X : Type 0} (form : Form X) (laws : IsForm form) (bytes : List ℕ) → length bytes ≡ BLOCK_BYTES → AreBytes bytes
    → HoldsRecords form bytes → length (records_in form bytes) ≡ count_in bytes
records_count form laws bytes long all holds =
    let count : ℕ = count_in bytes in
    let xs : List ℕ = drop (header_size form) bytes in
    let size : count * form.size ≤ form.leaf_max * form.size = mul-le-mul_right form.size holds.most_items in
    let fits : form.size * count ≤ length xs = omega (arith, laws.leaf_fits, long, size, length-drop (header_size form) bytes) in
    (records_are form laws count xs fits (dropped_bytes (header_size form) bytes all)
    (λ k within. subst (λ (o : _). IsSome o) (read_at form bytes k) (holds.records.valid k within))).0
