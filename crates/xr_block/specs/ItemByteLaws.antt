-- Items of one size as bytes: what one more, one less and another one make of them, and where some of two rows stand.
use Rattle.std.proofs.Common.{◌≡◌, ℕ, zero, suc, ◌+◌, ◌-◌, ◌*◌, ◌<◌, ◌≤◌, List, [], ◌∷◌, ◌++◌, length, take, drop, replicate, slice_set, get_or, refl, sym, ap, ◌∙◌, arith, min, max, drop-cons}
use Rattle.std.proofs.Math.Seq.{drop-append-add}
use Rattle.std.proofs.lemmas.Grind.{flat_map-append}
use Rattle.std.proofs.lemmas.List.{append_assoc, drop_at, drop-drop, drop-replicate, drop_min, length-append, length-drop, length-take-le, replicate-append-replicate, set_split, take-append-drop, take_at, take_min}
use Rattle.std.proofs.lemmas.List.Elements.{All-drop, All-tail, All-take}
use Rattle.std.specs.List.{All, flat_map, insert, remove}
use Rattle.xr_base.specs.Image.{overlaid, part}
use Rattle.xr_block.specs.TreeBlock.{zero_filled}
use Rattle.xr_block.specs.ItemBytes.{with_item, without_item}

-- bytes with zeros after them, split in two
filled_is : (n : ℕ) (xs ys : List ℕ) → zero_filled n (xs ++ ys) ≡ xs ++ (ys ++ replicate (n - (length xs + length ys)) 0)
filled_is n xs ys = ap (λ (m : ℕ). xs ++ ys ++ replicate (n - m) 0) (length-append xs ys) ∙ append_assoc xs ys _

pub put_bytes : (n at end : ℕ) (xs ys item : List ℕ) → length xs ≡ at → length xs + length ys ≡ end → end + length item ≤ n
    → with_item at end item (zero_filled n (xs ++ ys)) ≡ zero_filled n (xs ++ (item ++ ys))
put_bytes n at end xs ys item long all room =
    let zeros : List ℕ = replicate (n - (length xs + length ys)) 0 in
    let bytes : List ℕ = xs ++ (ys ++ zeros) in
    let size : end - at ≡ length ys = omega (arith, long, all) in
    let after : drop at bytes ≡ ys ++ zeros = drop_at xs (ys ++ zeros) at long in
    let middle : part at (end - at) bytes ≡ ys = ap (take (end - at)) after ∙ take_at ys zeros (end - at) (sym size) in
    let past : drop (end + length item) bytes ≡ replicate (n - (length xs + length (item ++ ys))) 0 =
    ap (λ (m : ℕ). drop m bytes) (let e : end + length item ≡ length xs + (length ys + length item) = omega (arith, all) in e)
    ∙ drop-append-add xs (ys ++ zeros) (length ys + length item) ∙ drop-append-add ys zeros (length item)
    ∙ drop-replicate (length item) (n - (length xs + length ys)) 0
    ∙ ap (λ (m : ℕ). replicate m 0) (let e : n - (length xs + length ys) - length item ≡ n - (length xs + length (item ++ ys)) = omega (arith, length-append item ys) in e) in
    ap (with_item at end item) (filled_is n xs ys)
    ∙ rw (take_at xs (ys ++ zeros) at long, middle, past) (sym (filled_is n xs (item ++ ys) ∙ ap (λ (rest : List ℕ). xs ++ rest) (append_assoc item ys _)))

pub removed_bytes : (n at end size : ℕ) (xs item ys : List ℕ) → length xs ≡ at → length item ≡ size → length xs + (size + length ys) ≡ end → end ≤ n
    → without_item at end size (zero_filled n (xs ++ (item ++ ys))) ≡ zero_filled n (xs ++ ys)
removed_bytes n at end size xs item ys long sized all room =
    let zeros : List ℕ = replicate (n - (length xs + length (item ++ ys))) 0 in
    let bytes : List ℕ = xs ++ (item ++ ys ++ zeros) in
    let both : length (item ++ ys) ≡ size + length ys = length-append item ys ∙ omega (arith, sized) in
    let after : drop (at + size) bytes ≡ ys ++ zeros =
    sym (drop-drop size at bytes) ∙ ap (drop size) (drop_at xs (item ++ ys ++ zeros) at long ∙ append_assoc item ys zeros) ∙ drop_at item (ys ++ zeros) size sized in
    let count : end - (at + size) ≡ length ys = omega (arith, all, long) in
    let middle : part (at + size) (end - (at + size)) bytes ≡ ys = ap (take (end - (at + size))) after ∙ take_at ys zeros (end - (at + size)) (sym count) in
    let past : drop end bytes ≡ zeros =
    ap (λ (m : ℕ). drop m bytes) (let e : end ≡ length xs + (length (item ++ ys) + 0) = omega (arith, all, both) in e)
    ∙ drop-append-add xs (item ++ ys ++ zeros) (length (item ++ ys) + 0) ∙ drop-append-add (item ++ ys) zeros 0 in
    let more : replicate size 0 ++ zeros ≡ replicate (n - (length xs + length ys)) 0 =
    replicate-append-replicate size (n - (length xs + length (item ++ ys))) 0
    ∙ ap (λ (m : ℕ). replicate m 0) (let e : size + (n - (length xs + length (item ++ ys))) ≡ n - (length xs + length ys) = omega (arith, both, all, room) in e) in
    ap (without_item at end size) (filled_is n xs (item ++ ys))
    ∙ rw (take_at xs (item ++ ys ++ zeros) at long, middle, past, more) (sym (filled_is n xs ys))

pub set_bytes : (n at : ℕ) (xs old item ys : List ℕ) → length xs ≡ at → length item ≡ length old
    → overlaid at item (zero_filled n (xs ++ (old ++ ys))) ≡ zero_filled n (xs ++ (item ++ ys))
set_bytes n at xs old item ys long same =
    let zeros : List ℕ = replicate (n - (length xs + length (old ++ ys))) 0 in
    let bytes : List ℕ = xs ++ (old ++ ys ++ zeros) in
    let past : drop (at + length item) bytes ≡ ys ++ zeros =
    sym (drop-drop (length item) at bytes) ∙ ap (drop (length item)) (drop_at xs (old ++ ys ++ zeros) at long ∙ append_assoc old ys zeros)
    ∙ drop_at old (ys ++ zeros) (length item) (sym same) in
    let count : n - (length xs + length (old ++ ys)) ≡ n - (length xs + length (item ++ ys)) = omega (arith, length-append old ys, length-append item ys, same) in
    ap (overlaid at item) (filled_is n xs (old ++ ys))
    ∙ rw (take_at xs (old ++ ys ++ zeros) at long, past, count)
    (append_assoc xs item _ ∙ sym (filled_is n xs (item ++ ys) ∙ ap (λ (rest : List ℕ). xs ++ rest) (append_assoc item ys _)))

-- a part of two rows is what it has of each
drop-append : (n : ℕ) (xs ys : List ℕ) → drop n (xs ++ ys) ≡ drop n xs ++ drop (n - length xs) ys
drop-append zero xs ys = let none : 0 - length xs ≡ 0 = omega arith in rw none refl
drop-append (suc n) [] ys = let all : suc n - 0 ≡ suc n = omega arith in rw all refl
drop-append (suc n) (x ∷ xs) ys = let less : suc n - length (x ∷ xs) ≡ n - length xs = omega arith in rw less (drop-append n xs ys)

take-append : (n : ℕ) (xs ys : List ℕ) → take n (xs ++ ys) ≡ take n xs ++ take (n - length xs) ys
take-append zero xs ys = let none : 0 - length xs ≡ 0 = omega arith in rw none refl
take-append (suc n) [] ys = let all : suc n - 0 ≡ suc n = omega arith in rw all refl
take-append (suc n) (x ∷ xs) ys =
    let less : suc n - length (x ∷ xs) ≡ n - length xs = omega arith in rw less (ap (λ (rest : List ℕ). x ∷ rest) (take-append n xs ys))

pub part_of_both : (from to a b c d : ℕ) (xs ys : List ℕ) → from ≤ to → a ≡ min from (length xs) → b ≡ min to (length xs)
    → c ≡ max from (length xs) - length xs → d ≡ max to (length xs) - length xs
    → take (b - a) (drop a xs) ++ take (d - c) (drop c ys) ≡ part from (to - from) (xs ++ ys)
part_of_both from to a b c d xs ys order is_a is_b is_c is_d =
    let rest : List ℕ = drop (from - length xs) ys in
    let front : List ℕ = drop from xs in
    let left : drop a xs ≡ front = ap (λ (m : ℕ). drop m xs) is_a ∙ drop_min from xs in
    let size : b - a ≡ min (to - from) (length front) = omega (arith, is_a, is_b, length-drop from xs, order) in
    let first : take (b - a) front ≡ take (to - from) front = ap (λ (m : ℕ). take m front) size ∙ take_min (to - from) front in
    let place : c ≡ from - length xs = omega (arith, is_c) in
    let count : d - c ≡ to - from - length front = omega (arith, is_c, is_d, length-drop from xs, order) in
    rw (left, first, count, place) (sym (ap (take (to - from)) (drop-append from xs ys) ∙ take-append (to - from) front rest))

-- the bytes of some items are those of the first of them, and of the others
module _ {I : Type 0} (bytes_of : I → List ℕ) (size : ℕ) where
  abbrev pub IsSized : I → Type 0
  IsSized i = length (bytes_of i) ≡ size

  abbrev pub AreSized : List I → Type 0
  AreSized items = All IsSized items

  pub length-sized : (items : List I) → AreSized items → length (flat_map bytes_of items) ≡ size * length items
  length-sized [] all = omega arith
  length-sized (i ∷ is) all =
      length-append (bytes_of i) (flat_map bytes_of is) ∙ omega (arith, all 0 i (omega arith), length-sized is (All-tail IsSized i is all))

  pub split_bytes : (items : List I) (k : ℕ) → flat_map bytes_of items ≡ flat_map bytes_of (take k items) ++ flat_map bytes_of (drop k items)
  split_bytes items k = ap (flat_map bytes_of) (sym (take-append-drop k items)) ∙ flat_map-append bytes_of (take k items) (drop k items)

  length-first : (items : List I) (k : ℕ) → AreSized items → k ≤ length items → length (flat_map bytes_of (take k items)) ≡ size * k
  length-first items k all within =
      length-sized (take k items) (All-take IsSized k items all) ∙ ap (λ (n : ℕ). size * n) (length-take-le k items within)

  pub part_of_items : (items : List I) (k count : ℕ) → AreSized items → k + count ≤ length items
      → part (size * k) (size * count) (flat_map bytes_of items) ≡ flat_map bytes_of (take count (drop k items))
  part_of_items items k count all within =
      let rest : List I = drop k items in
      let sized : AreSized rest = All-drop IsSized k items all in
      ap (λ (xs : List ℕ). take (size * count) (drop (size * k) xs)) (split_bytes items k)
      ∙ ap (take (size * count)) (drop_at (flat_map bytes_of (take k items)) _ (size * k) (length-first items k all (omega arith)))
      ∙ ap (take (size * count)) (split_bytes rest count)
      ∙ take_at (flat_map bytes_of (take count rest)) _ (size * count) (length-first rest count sized (omega (arith, length-drop k items)))

  pub split_at : (items : List I) (k : ℕ) (d : I) → k < length items
      → flat_map bytes_of items ≡ flat_map bytes_of (take k items) ++ (bytes_of (get_or items k d) ++ flat_map bytes_of (drop (suc k) items))
  split_at items k d within =
      split_bytes items k ∙ ap (λ (xs : List I). flat_map bytes_of (take k items) ++ flat_map bytes_of xs) (drop-cons items k d within)

  pub put_items : (n k : ℕ) (items : List I) (i : I) → AreSized items → length (bytes_of i) ≡ size → k ≤ length items → size * (length items + 1) ≤ n
      → with_item (size * k) (size * length items) (bytes_of i) (zero_filled n (flat_map bytes_of items)) ≡ zero_filled n (flat_map bytes_of (insert items k i))
  put_items n k items i all one within room =
      let front : List ℕ = flat_map bytes_of (take k items) in
      let rest : List ℕ = flat_map bytes_of (drop k items) in
      let whole : length front + length rest ≡ size * length items = sym (length-append front rest) ∙ ap length (sym (split_bytes items k)) ∙ length-sized items all in
      ap (λ (xs : List ℕ). with_item (size * k) (size * length items) (bytes_of i) (zero_filled n xs)) (split_bytes items k)
      ∙ put_bytes n (size * k) (size * length items) front rest (bytes_of i) (length-first items k all within) whole (omega (arith, one, room))
      ∙ ap (zero_filled n) (sym (flat_map-append bytes_of (take k items) (i ∷ drop k items)))

  pub removed_items : (n k : ℕ) (items : List I) → AreSized items → k < length items → size * length items ≤ n
      → without_item (size * k) (size * length items) size (zero_filled n (flat_map bytes_of items)) ≡ zero_filled n (flat_map bytes_of (remove items k))
  removed_items n k [] all within room = absurd (omega arith)
  removed_items n k (first ∷ others) all within room =
      let items : List I = first ∷ others in
      let front : List ℕ = flat_map bytes_of (take k items) in
      let item : List ℕ = bytes_of (get_or items k first) in
      let rest : List ℕ = flat_map bytes_of (drop (suc k) items) in
      let split = split_at items k first within in
      let whole : length front + (size + length rest) ≡ size * length items =
      omega (arith, length-append front (item ++ rest), length-append item rest, all k first within, ap length split, length-sized items all) in
      ap (λ (xs : List ℕ). without_item (size * k) (size * length items) size (zero_filled n xs)) split
      ∙ removed_bytes n (size * k) (size * length items) size front item rest (length-first items k all (omega arith)) (all k first within) whole room
      ∙ ap (zero_filled n) (sym (flat_map-append bytes_of (take k items) (drop (suc k) items)))

  pub set_items : (n k : ℕ) (items : List I) (i : I) → AreSized items → length (bytes_of i) ≡ size → k < length items
      → overlaid (size * k) (bytes_of i) (zero_filled n (flat_map bytes_of items)) ≡ zero_filled n (flat_map bytes_of (slice_set items k i))
  set_items n k [] i all one within = absurd (omega arith)
  set_items n k (first ∷ others) i all one within =
      let items : List I = first ∷ others in
      let front : List ℕ = flat_map bytes_of (take k items) in
      let old : List ℕ = bytes_of (get_or items k first) in
      let rest : List ℕ = flat_map bytes_of (drop (suc k) items) in
      ap (λ (xs : List ℕ). overlaid (size * k) (bytes_of i) (zero_filled n xs)) (split_at items k first within)
      ∙ set_bytes n (size * k) front old (bytes_of i) rest (length-first items k all (omega arith)) (one ∙ sym (all k first within))
      ∙ ap (zero_filled n) (sym (flat_map-append bytes_of (take k items) (i ∷ drop (suc k) items)) ∙ ap (flat_map bytes_of) (sym (set_split items k i within)))
