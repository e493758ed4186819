-- What an edit of a node's bytes makes of its keys and children, in the node as it would be sealed.
use Rattle.std.proofs.Common.{◌≡◌, ℕ, suc, ◌+◌, ◌-◌, ◌*◌, ◌^◌, ◌<◌, ◌≤◌, Bool, true, false, if◌then◌else◌, List, ◌∷◌, ◌++◌, length, take, drop, slice_set, get_or, drop-cons, sym, ap, subst, ◌∙◌, arith}
use Rattle.std.proofs.Math.Nat.{mul-le-mul_right}
use Rattle.std.proofs.lemmas.Grind.{flat_map-append}
use Rattle.std.proofs.lemmas.List.{append_assoc, drop-append-le, drop_at, length-append, length-drop, length-set, length-take-le, set_split, take-append-le, take_at}
use Rattle.std.proofs.lemmas.List.Edits.{length-insert}
use Rattle.std.proofs.lemmas.List.Elements.{All-append, All-cons, All-drop, All-set, All-take}
use Rattle.std.specs.List.{insert, remove}
use Rattle.byteorder.specs.Endian.{big_bytes}
use Rattle.byteorder.specs.Numbers.{length-bytes_high_first}
use Rattle.xr_base.specs.Image.{overlaid}
use Rattle.xr_base.specs.declared.geometry.TheConstants.{BLOCK_BYTES}
use Rattle.xr_block.specs.BlockLaws.{AreEntries, length-zero_filled}
use Rattle.xr_kinds.specs.Form.{Form, IsForm, header_size, key_size, pointer_size}
use Rattle.xr_block.specs.TreeBlock.{Entry, Place, Site, count_in, zero_filled, node_items, tree_block}
use Rattle.xr_block.specs.Edits.{IsNodeOf, first_keyed, sealed, with_key}
use Rattle.xr_block.specs.ItemBytes.{with_item, without_item}
use Rattle.xr_block.specs.SealLaws.{sealed_count, sealed_rest}
use Rattle.xr_block.specs.EditLaws.{key_room, keys_fit, keys_of, keys_sized, length-keys, node_count, node_filled, node_rest, pointers_of, pointers_sized}
use Rattle.xr_block.specs.ItemByteLaws.{removed_items, put_items, set_items, split_at}
use Rattle.xr_block.proofs.LaidBlockLemmas.{IsSplit, edited, edited_block, kept_block}

-- a pool's number fits a pointer
pub child_fits : (long : Bool) (n : ℕ) → n < 2 ^ 32 → n < 256 ^ (if long then 8 else 4)
child_fits true n small = omega (arith, small)
child_fits false n small = small

-- bytes over the first of two rows
overlaid_first : (at : ℕ) (bytes xs ys : List ℕ) → at + length bytes ≤ length xs → overlaid at bytes (xs ++ ys) ≡ overlaid at bytes xs ++ ys
overlaid_first at bytes xs ys within =
    rw (take-append-le at xs ys (omega (arith, within)), drop-append-le (at + length bytes) xs ys within)
    (sym (append_assoc (take at xs ++ bytes) (drop (at + length bytes) xs) ys))

-- a key that is set, as an entry that is
pub key_set_at : (k : ℕ) (key : List ℕ) (entries : List Entry) (d : Entry) → k < length entries
    → with_key k key entries ≡ slice_set entries k (record { key = key; child = (get_or entries k d).child })
key_set_at k key entries d within =
    ap (λ (es : List Entry). take k entries ++ first_keyed key es) (drop-cons entries k d within)
    ∙ sym (set_split entries k (record { key = key; child = (get_or entries k d).child }) within)

module _ {X : Type 0} (form : Form X) (laws : IsForm form) (site : Site) (place : Place) (entries : List Entry) (bytes : List ℕ)
    (long : length bytes ≡ BLOCK_BYTES) (is : IsNodeOf form site place entries (sealed form bytes))
    (start : ℕ) (head rest : List ℕ) (parts : IsSplit form start head rest bytes) where
  abbrev pub Fits : Entry → Type 0
  Fits e = (length e.key ≡ key_size form) × (e.child < 256 ^ pointer_size form)

  -- the room for pointers
  abbrev pub room : ℕ
  room = BLOCK_BYTES - header_size form - key_room form

  pub node_edited : (next : List Entry) (count : ℕ) (area : List ℕ) → AreEntries form next → length next ≤ form.node_max → count ≡ length next
      → area ≡ zero_filled (key_room form) (keys_of next) ++ zero_filled room (pointers_of form next) → IsNodeOf form site place next (sealed form (edited count head area))
  node_edited next count area fit few counted areas = record {
    identified = is.identified;
    fit = fit;
    few = few;
    whole = ap (λ (xs : List ℕ). sealed form (edited count xs area)) (parts.heads ∙ ap (λ (n : ℕ). take n bytes) parts.starts)
        ∙ ap (λ (n : ℕ). sealed form (edited n (take (header_size form) bytes) area)) counted
        ∙ edited_block form site is.identified place (length entries) (length next) (node_items form entries) (node_items form next) bytes area
        long is.whole (areas ∙ sym (node_filled form laws next fit few));
  }

  pub node_kept : (next : List Entry) (area : List ℕ) → AreEntries form next → length next ≡ length entries
      → area ≡ zero_filled (key_room form) (keys_of next) ++ zero_filled room (pointers_of form next) → IsNodeOf form site place next (sealed form (head ++ area))
  node_kept next area fit same areas =
      let few : length next ≤ form.node_max = omega (arith, same, is.few) in
      record {
        identified = is.identified;
        fit = fit;
        few = few;
        whole = ap (λ (xs : List ℕ). sealed form (xs ++ area)) (parts.heads ∙ ap (λ (n : ℕ). take n bytes) parts.starts)
            ∙ kept_block form site is.identified place (length entries) (node_items form entries) (node_items form next) bytes area
            long is.whole (areas ∙ sym (node_filled form laws next fit few))
            ∙ ap (λ (n : ℕ). tree_block form site place n (node_items form next)) (sym same);
      }

  counts : count_in bytes ≡ length entries
  counts = sym (sealed_count form bytes long) ∙ node_count form laws site place (sealed form bytes) entries is

  -- the keys' bytes and the pointers' are those that an edit finds
  found : rest ≡ zero_filled (key_room form) (keys_of entries) ++ zero_filled room (pointers_of form entries)
  found = parts.rests ∙ ap (λ (n : ℕ). drop n bytes) parts.starts ∙ sym (sealed_rest form bytes long) ∙ node_rest form laws site place (sealed form bytes) entries is

  length-found : length (zero_filled (key_room form) (keys_of entries)) ≡ key_room form
  length-found =
      length-zero_filled (key_room form) (keys_of entries)
      (omega (arith, length-keys form laws entries is.fit is.few, keys_fit form laws entries is.fit is.few))

  found_keys : take (key_room form) rest ≡ zero_filled (key_room form) (keys_of entries)
  found_keys = ap (take (key_room form)) found ∙ take_at (zero_filled (key_room form) (keys_of entries)) _ (key_room form) length-found

  found_pointers : drop (key_room form) rest ≡ zero_filled room (pointers_of form entries)
  found_pointers = ap (drop (key_room form)) found ∙ drop_at (zero_filled (key_room form) (keys_of entries)) _ (key_room form) length-found

  -- there is room for so many children
  roomy : (n : ℕ) → n ≤ form.node_max → (key_size form * n ≤ key_room form) × (pointer_size form * n ≤ room)
  roomy n few =
      let keys : n * key_size form ≤ form.node_max * key_size form = mul-le-mul_right (key_size form) few in
      let pointers : n * pointer_size form ≤ form.node_max * pointer_size form = mul-le-mul_right (pointer_size form) few in
      (omega (arith, keys), omega (arith, pointers, laws.node_fits))

  pub entry_put : (k count next : ℕ) (key : List ℕ) (child : ℕ) (area : List ℕ) → count ≡ count_in bytes → k ≤ count_in bytes
      → count_in bytes < form.node_max → next ≡ count + 1 → length key ≡ key_size form → child < 2 ^ 32
      → area ≡ with_item (key_size form * k) (key_size form * count) key (take (key_room form) rest)
      ++ with_item (pointer_size form * k) (pointer_size form * count) (big_bytes (pointer_size form) child) (drop (key_room form) rest)
      → IsNodeOf form site place (insert entries k (record { key = key; child = child })) (sealed form (edited next head area))
  entry_put k count next key child area counted within few more sized small areas =
      let e : Entry = record { key = key; child = child } in
      let p : ℕ = pointer_size form in
      let rooms = roomy (length entries + 1) (omega (arith, few, counts)) in
      node_edited (insert entries k e) next area
      (All-append Fits (take k entries) (e ∷ drop k entries) (All-take Fits k entries is.fit)
      (All-cons Fits e (drop k entries) (sized, child_fits form.long child small) (All-drop Fits k entries is.fit)))
      (omega (arith, length-insert entries k e (omega (arith, within, counts)), few, counts))
      (omega (arith, length-insert entries k e (omega (arith, within, counts)), more, counted, counts))
      (areas
      ∙ ap (λ (n : ℕ). with_item (key_size form * k) (key_size form * n) key (take (key_room form) rest)
      ++ with_item (p * k) (p * n) (big_bytes p child) (drop (key_room form) rest)) (counted ∙ counts)
      ∙ ap (λ (xs : List ℕ). xs ++ with_item (p * k) (p * length entries) (big_bytes p child) (drop (key_room form) rest))
      (ap (with_item (key_size form * k) (key_size form * length entries) key) found_keys
      ∙ put_items (λ (x : Entry). x.key) (key_size form) (key_room form) k entries e (keys_sized form laws entries is.fit is.few) sized (omega (arith, within, counts)) rooms.0)
      ∙ ap (λ (xs : List ℕ). zero_filled (key_room form) (keys_of (insert entries k e)) ++ xs)
      (ap (with_item (p * k) (p * length entries) (big_bytes p child)) found_pointers
      ∙ put_items (λ (x : Entry). big_bytes p x.child) p room k entries e (pointers_sized form laws entries is.fit is.few) (length-bytes_high_first p child) (omega (arith, within, counts)) rooms.1))

  pub entry_removed : (k count next : ℕ) (area : List ℕ) → count ≡ count_in bytes → k < count_in bytes → next ≡ count - 1
      → area ≡ without_item (key_size form * k) (key_size form * count) (key_size form) (take (key_room form) rest)
      ++ without_item (pointer_size form * k) (pointer_size form * count) (pointer_size form) (drop (key_room form) rest)
      → IsNodeOf form site place (remove entries k) (sealed form (edited next head area))
  entry_removed k count next area counted within less areas =
      let p : ℕ = pointer_size form in
      let rooms = roomy (length entries) is.few in
      let left : length (remove entries k) ≡ length entries - 1 = length-append (take k entries) (drop (suc k) entries)
      ∙ omega (arith, length-take-le k entries (omega (arith, within, counts)), length-drop (suc k) entries, within, counts) in
      node_edited (remove entries k) next area
      (All-append Fits (take k entries) (drop (suc k) entries) (All-take Fits k entries is.fit) (All-drop Fits (suc k) entries is.fit))
      (omega (arith, left, is.few))
      (omega (arith, left, less, counted, counts))
      (areas
      ∙ ap (λ (n : ℕ). without_item (key_size form * k) (key_size form * n) (key_size form) (take (key_room form) rest)
      ++ without_item (p * k) (p * n) p (drop (key_room form) rest)) (counted ∙ counts)
      ∙ ap (λ (xs : List ℕ). xs ++ without_item (p * k) (p * length entries) p (drop (key_room form) rest))
      (ap (without_item (key_size form * k) (key_size form * length entries) (key_size form)) found_keys
      ∙ removed_items (λ (x : Entry). x.key) (key_size form) (key_room form) k entries (keys_sized form laws entries is.fit is.few) (omega (arith, within, counts)) rooms.0)
      ∙ ap (λ (xs : List ℕ). zero_filled (key_room form) (keys_of (remove entries k)) ++ xs)
      (ap (without_item (p * k) (p * length entries) p) found_pointers
      ∙ removed_items (λ (x : Entry). big_bytes p x.child) p room k entries (pointers_sized form laws entries is.fit is.few) (omega (arith, within, counts)) rooms.1))

  pub entry_keyed : (k : ℕ) (key area : List ℕ) (d : Entry) → k < count_in bytes → length key ≡ key_size form
      → area ≡ overlaid (key_size form * k) key rest → IsNodeOf form site place (with_key k key entries) (sealed form (head ++ area))
  entry_keyed k key area d within sized areas =
      let p : ℕ = pointer_size form in
      let inside : k < length entries = omega (arith, within, counts) in
      let e : Entry = record { key = key; child = (get_or entries k d).child } in
      let next : List Entry = slice_set entries k e in
      let keys : List ℕ = zero_filled (key_room form) (keys_of entries) in
      let pointers : List ℕ = zero_filled room (pointers_of form entries) in
      let rooms = roomy (k + 1) (omega (arith, inside, is.few)) in
      let pointer = λ (x : Entry). big_bytes p x.child in
      let over : overlaid (key_size form * k) key keys ≡ zero_filled (key_room form) (keys_of next) =
      set_items (λ (x : Entry). x.key) (key_size form) (key_room form) k entries e (keys_sized form laws entries is.fit is.few) sized inside in
      let same : pointers_of form next ≡ pointers_of form entries =
      ap (pointers_of form) (set_split entries k e inside) ∙ flat_map-append pointer (take k entries) (e ∷ drop (suc k) entries)
      ∙ sym (split_at pointer p entries k d inside) in
      subst (λ (es : List Entry). IsNodeOf form site place es (sealed form (head ++ area))) (sym (key_set_at k key entries d inside))
      (node_kept next area (All-set Fits entries k e (sized, (is.fit k d inside).1) is.fit) (length-set entries k e)
      (areas ∙ ap (overlaid (key_size form * k) key) found
      ∙ overlaid_first (key_size form * k) key keys pointers (omega (arith, rooms.0, sized, length-found))
      ∙ ap (λ (xs : List ℕ). xs ++ pointers) over
      ∙ ap (λ (xs : List ℕ). zero_filled (key_room form) (keys_of next) ++ zero_filled room xs) (sym same)))
