-- The tests of a block's header, field by field, against the bytes of a block of a tree.
use Rattle.std.proofs.Common.{◌≡◌, ℕ, ◌+◌, ◌-◌, ◌*◌, ◌^◌, ◌<◌, ◌≤◌, ◌==◌, Bool, true, false, if◌then◌else◌, Option, Some, None, List, ◌++◌, length, take, drop, replicate, refl, sym, ap, ◌∙◌, arith}
use Rattle.std.specs.Bool.{⊤}
use Rattle.std.proofs.Math.Seq.{take-add}
use Rattle.std.proofs.lemmas.List.{append_assoc, drop_at, drop-drop, drop-take, length-append, length-drop, length-replicate, length-take-le, take-append-drop, take_at, take-take}
use Rattle.std.proofs.lemmas.Bool.{eq-eqb, eqb-true}
use Rattle.byteorder.specs.Endian.{big_bytes, big_number}
use Rattle.byteorder.specs.Numbers.{big_from-take, length-bytes_high_first}
use Rattle.xr_base.specs.Checksum.{with_crc}
use Rattle.xr_base.specs.Image.{part}
use Rattle.xr_base.specs.declared.geometry.TheConstants.{BLOCK_BYTES}
use Rattle.xr_kinds.specs.BigEndianLaws.{bytes_again, dropped_bytes, reads_alone, taken_bytes}
use Rattle.xr_block.specs.BlockLaws.{block_is, fields_fill, length-zero_filled, length-header, length-sibling}
use Rattle.xr_block.specs.Checks.{HasHeader, left_in, sibling_in, place_in, right_in}
use Rattle.xr_kinds.specs.Form.{Form, header_size, pointer_size}
use Rattle.xr_base.specs.Fields.{AreBytes}
use Rattle.xr_block.specs.TreeBlock.{Place, Site, count_in, zero_filled, header, sibling, crc_place, tree_block}
use Rattle.xr_base.specs.ChecksumLaws.{with_crc_same, take-with_crc, drop-with_crc}

-- one field more, and the last of some fields
joined : (n k m : ℕ) (xs ys field : List ℕ) → n + k ≡ m → take n xs ≡ ys → part n k xs ≡ field → take m xs ≡ ys ++ field
joined n k m xs ys field sum front next =
    ap (λ (j : ℕ). take j xs) (sym sum) ∙ take-add n k xs ∙ ap (λ (zs : List ℕ). zs ++ part n k xs) front ∙ ap (λ (zs : List ℕ). ys ++ zs) next

parted : (n k m : ℕ) (xs ys field : List ℕ) → n + k ≡ m → length ys ≡ n → take m xs ≡ ys ++ field → (take n xs ≡ ys) × (part n k xs ≡ field)
parted n k m xs ys field sum long is = (
  sym (take-take n m xs (omega arith)) ∙ ap (take n) is ∙ take_at ys field n long,
  sym (drop-take n k xs) ∙ ap (λ (j : ℕ). drop n (take j xs)) sum ∙ ap (drop n) is ∙ drop_at ys field n long,
)

-- a sibling's bytes are those that it is read from, and it is read back
no_sibling : (long : Bool) → (let width : ℕ = if long then 8 else 4 in big_bytes width (256 ^ width - 1) ≡ replicate width 255)
no_sibling true = refl
no_sibling false = refl

none_fits : (long : Bool) → (let width : ℕ = if long then 8 else 4 in 256 ^ width - 1 < 256 ^ width)
none_fits true = omega arith
none_fits false = omega arith

sibling_chosen : (long test : Bool) (n : ℕ) → (let width : ℕ = if long then 8 else 4 in
    n == 256 ^ width - 1 ≡ test → big_bytes width n ≡ sibling width (if test then None else Some n))
sibling_chosen long true n is = let width : ℕ = if long then 8 else 4 in ap (big_bytes width) (eqb-true n (256 ^ width - 1) is) ∙ no_sibling long
sibling_chosen long false n is = refl

pub sibling_again : (long : Bool) (bytes : List ℕ) → (let width : ℕ = if long then 8 else 4 in
    width ≤ length bytes → AreBytes bytes → take width bytes ≡ sibling width (sibling_in width bytes))
sibling_again long bytes fits all =
    let width : ℕ = if long then 8 else 4 in
    sym (bytes_again width (take width bytes) (length-take-le width bytes fits) (taken_bytes width bytes all))
    ∙ ap (big_bytes width) (big_from-take 0 width width bytes (omega arith))
    ∙ sibling_chosen long (big_number width bytes == 256 ^ width - 1) (big_number width bytes) refl

-- a number of a block, if there is one, that isn't the sign for none
abbrev pub Names : ℕ → Option ℕ → Type 0
Names width None = ⊤
Names width (Some n) = n < 256 ^ width - 1

chosen_back : (test : Bool) (n m : ℕ) → n == m ≡ test → (n ≡ m → ⊥) → (if test then None else Some n) ≡ Some n
chosen_back true n m is other = absurd (other (eqb-true n m is))
chosen_back false n m is other = refl

sibling_read : (long : Bool) (o : Option ℕ) (bytes : List ℕ) → (let width : ℕ = if long then 8 else 4 in
    Names width o → take width bytes ≡ sibling width o → sibling_in width bytes ≡ o)
sibling_read long None bytes small is =
    let width : ℕ = if long then 8 else 4 in
    let number : big_number width bytes ≡ 256 ^ width - 1 =
    sym (big_from-take 0 width width bytes (omega arith)) ∙ ap (big_number width) (is ∙ sym (no_sibling long))
    ∙ reads_alone width (256 ^ width - 1) (none_fits long) in
    ap (λ (test : Bool). if test then None else Some (big_number width bytes)) (eq-eqb (big_number width bytes) (256 ^ width - 1) number)
sibling_read long (Some n) bytes small is =
    let width : ℕ = if long then 8 else 4 in
    let number : big_number width bytes ≡ n =
    sym (big_from-take 0 width width bytes (omega arith)) ∙ ap (big_number width) is
    ∙ reads_alone width n (omega (arith, small, none_fits long)) in
    ap (λ (x : ℕ). if x == 256 ^ width - 1 then None else Some x) number
    ∙ chosen_back (n == 256 ^ width - 1) n (256 ^ width - 1) refl (λ same. absurd (omega (arith, small, same)))

-- after the checksum's room there may be zeros, and then the items
after_sum : (long : Bool) (rest : List ℕ) → (let size : ℕ = if long then 72 else 56 in let sum : ℕ = if long then 64 else 52 in
    drop 4 (replicate (size - sum) 0 ++ rest) ≡ replicate (size - (sum + 4)) 0 ++ rest)
after_sum true rest = refl
after_sum false rest = refl

-- the fields of a header before the checksum
abbrev pub front : {X : Type 0} → Form X → Site → Place → ℕ → List ℕ
front form site place count =
    big_bytes 4 form.magic ++ big_bytes 2 place.level ++ big_bytes 2 count
    ++ sibling (pointer_size form) place.left ++ sibling (pointer_size form) place.right
    ++ big_bytes 8 ((site.first + place.number) * 8) ++ big_bytes 8 0 ++ site.uuid ++ big_bytes (pointer_size form) site.owner

header_is : {X : Type 0} (form : Form X) (site : Site) (place : Place) (count : ℕ)
    → header form site place count ≡ front form site place count ++ replicate (header_size form - crc_place form) 0
unfolding header
header_is form site place count = refl

abbrev pub laid : {X : Type 0} → Form X → Site → Place → ℕ → List ℕ → List ℕ
laid form site place count items = zero_filled BLOCK_BYTES (header form site place count ++ items)

-- what stands after a header's checksum
abbrev pub rest_of : {X : Type 0} → Form X → List ℕ → List ℕ
rest_of form items = items ++ replicate (BLOCK_BYTES - (header_size form + length items)) 0

module _ {X : Type 0} (form : Form X) (site : Site) (place : Place) (count : ℕ) (items : List ℕ) (identified : length site.uuid ≡ 16) where
  length-front : length (front form site place count) ≡ crc_place form
  length-front =
      let fill = fields_fill form.long in
      simp length-append
      (omega (
        arith,
        fill,
        identified,
        length-sibling (pointer_size form) place.left,
        length-sibling (pointer_size form) place.right,
        length-bytes_high_first (pointer_size form) site.owner,
      ))

  laid_is : laid form site place count items ≡ front form site place count ++ (replicate (header_size form - crc_place form) 0 ++ rest_of form items)
  laid_is =
      let long : length (header form site place count ++ items) ≡ header_size form + length items =
      length-append (header form site place count) items ∙ omega (arith, length-header form site place count identified) in
      let zeros : List ℕ = replicate (BLOCK_BYTES - (header_size form + length items)) 0 in
      ap (λ (n : ℕ). header form site place count ++ items ++ replicate (BLOCK_BYTES - n) 0) long
      ∙ append_assoc (header form site place count) items zeros
      ∙ ap (λ (xs : List ℕ). xs ++ (items ++ zeros)) (header_is form site place count)
      ∙ append_assoc (front form site place count) (replicate (header_size form - crc_place form) 0) (items ++ zeros)

  pub laid_front : take (crc_place form) (laid form site place count items) ≡ front form site place count
  laid_front = ap (take (crc_place form)) laid_is ∙ take_at (front form site place count) _ (crc_place form) length-front

  pub laid_after : drop (crc_place form + 4) (laid form site place count items)
      ≡ replicate (header_size form - (crc_place form + 4)) 0 ++ rest_of form items
  laid_after =
      sym (drop-drop 4 (crc_place form) (laid form site place count items))
      ∙ ap (λ (xs : List ℕ). drop 4 (drop (crc_place form) xs)) laid_is
      ∙ ap (drop 4) (drop_at (front form site place count) _ (crc_place form) length-front) ∙ after_sum form.long (rest_of form items)

-- a header's fields that are as they have to be, with the count and the siblings that are there, are those of a block
framed_front : {X : Type 0} (form : Form X) (site : Site) (n level : ℕ) (bytes : List ℕ) → length bytes ≡ BLOCK_BYTES → AreBytes bytes
    → HasHeader form site n level bytes → take (crc_place form) bytes ≡ front form site (place_in form n level bytes) (count_in bytes)
framed_front form site n level bytes long all framed =
    let fill = fields_fill form.long in
    let p : ℕ = pointer_size form in
    let fields = framed.fields in
    let count : part 6 2 bytes ≡ big_bytes 2 (count_in bytes) =
    sym (bytes_again 2 (part 6 2 bytes) (length-take-le 2 (drop 6 bytes) (omega (arith, long, length-drop 6 bytes))) (taken_bytes 2 (drop 6 bytes) (dropped_bytes 6 bytes all)))
    ∙ ap (big_bytes 2) (big_from-take 0 2 2 (drop 6 bytes) (omega arith)) in
    let left = sibling_again form.long (drop 8 bytes) (omega (arith, long, fill, length-drop 8 bytes)) (dropped_bytes 8 bytes all) in
    let right = sibling_again form.long (drop (8 + p) bytes) (omega (arith, long, fill, length-drop (8 + p) bytes)) (dropped_bytes (8 + p) bytes all) in
    let two = joined 4 2 6 bytes _ _ refl framed.magic fields.level_is in
    let three = joined 6 2 8 bytes _ _ refl two count in
    let four = joined 8 p (8 + p) bytes _ _ refl three left in
    let five = joined (8 + p) p (8 + 2 * p) bytes _ _ (omega arith) four right in
    let six = joined (8 + 2 * p) 8 (16 + 2 * p) bytes _ _ (omega arith) five fields.sector in
    let seven = joined (16 + 2 * p) 8 (24 + 2 * p) bytes _ _ (omega arith) six fields.unlogged in
    let eight = joined (24 + 2 * p) 16 (40 + 2 * p) bytes _ _ (omega arith) seven fields.identified in
    joined (40 + 2 * p) p (crc_place form) bytes _ _ (omega (arith, fill)) eight fields.owned

-- so the block is one of a tree where its items and zeros follow
pub framed_block : {X : Type 0} (form : Form X) (site : Site) (n level : ℕ) (items bytes : List ℕ) → length site.uuid ≡ 16
    → length bytes ≡ BLOCK_BYTES → AreBytes bytes → HasHeader form site n level bytes → drop (header_size form) bytes ≡ rest_of form items
    → bytes ≡ tree_block form site (place_in form n level bytes) (count_in bytes) items
framed_block form site n level items bytes identified long all framed rest =
    let fill = fields_fill form.long in
    let place : Place = place_in form n level bytes in
    let zeros : ℕ = header_size form - (crc_place form + 4) in
    let size : crc_place form + 4 + zeros ≡ header_size form = omega (arith, fill) in
    let after : drop (crc_place form + 4) bytes ≡ replicate zeros 0 ++ rest_of form items =
    sym (take-append-drop zeros (drop (crc_place form + 4) bytes))
    ∙ ap (λ (xs : List ℕ). xs ++ drop zeros (drop (crc_place form + 4) bytes)) framed.fields.zeros
    ∙ ap (λ (xs : List ℕ). replicate zeros 0 ++ xs)
    (drop-drop zeros (crc_place form + 4) bytes ∙ ap (λ (k : ℕ). drop k bytes) size ∙ rest) in
    block_is form site place (count_in bytes) items bytes framed.checked (
      framed_front form site n level bytes long all framed ∙ sym (laid_front form site place (count_in bytes) items identified),
      after ∙ sym (laid_after form site place (count_in bytes) items identified),
    )

-- a block's bytes beside its checksum
pub record IsHeaderLaid {X : Type 0} (form : Form X) (site : Site) (place : Place) (count : ℕ) (items bytes : List ℕ) : Type 0 where
  pub before : take (crc_place form) bytes ≡ take (crc_place form) (laid form site place count items)
  pub after : drop (crc_place form + 4) bytes ≡ drop (crc_place form + 4) (laid form site place count items)

pub block_laid : {X : Type 0} (form : Form X) (site : Site) (place : Place) (count : ℕ) (items bytes : List ℕ)
    → BLOCK_BYTES ≤ length (laid form site place count items) → bytes ≡ tree_block form site place count items → IsHeaderLaid form site place count items bytes
unfolding tree_block
block_laid form site place count items bytes long is =
    let fill = fields_fill form.long in
    let sp : ℕ = crc_place form in
    let all : List ℕ = laid form site place count items in
    record {
      before = ap (take sp) is ∙ take-with_crc sp all (omega (arith, fill, long));
      after = ap (drop (sp + 4)) is ∙ drop-with_crc sp (sp + 4) all (omega arith) (omega (arith, fill, long));
    }

-- with the checksum they are the block
pub laid_block : {X : Type 0} (form : Form X) (site : Site) (place : Place) (count : ℕ) (items bytes : List ℕ) → IsHeaderLaid form site place count items bytes
    → with_crc (crc_place form) bytes ≡ tree_block form site place count items
unfolding tree_block
laid_block form site place count items bytes is = with_crc_same (crc_place form) bytes (laid form site place count items) is.before is.after

-- and a block of a tree passes the tests, and holds its items, its count and its siblings
pub record IsRead {X : Type 0} (form : Form X) (site : Site) (place : Place) (count : ℕ) (items bytes : List ℕ) : Type 0 where
  pub framed : place.level < 2 ^ 16 → HasHeader form site place.number place.level bytes
  pub rest : drop (header_size form) bytes ≡ rest_of form items
  pub same_count : count < 2 ^ 16 → count_in bytes ≡ count
  pub same_left : Names (pointer_size form) place.left → left_in form bytes ≡ place.left
  pub same_right : Names (pointer_size form) place.right → right_in form bytes ≡ place.right
  pub left_part : part 8 (pointer_size form) bytes ≡ sibling (pointer_size form) place.left
  pub right_part : part (8 + pointer_size form) (pointer_size form) bytes ≡ sibling (pointer_size form) place.right

pub block_read : {X : Type 0} (form : Form X) (site : Site) (place : Place) (count : ℕ) (items bytes : List ℕ) → length site.uuid ≡ 16
    → header_size form + length items ≤ BLOCK_BYTES → bytes ≡ tree_block form site place count items → IsRead form site place count items bytes
unfolding tree_block
block_read form site place count items bytes identified room is =
    let fill = fields_fill form.long in
    let p : ℕ = pointer_size form in
    let sp : ℕ = crc_place form in
    let all : List ℕ = laid form site place count items in
    let long : length all ≡ BLOCK_BYTES =
    length-zero_filled BLOCK_BYTES (header form site place count ++ items)
    (omega (arith, room, length-append (header form site place count) items, length-header form site place count identified)) in
    let same = block_laid form site place count items bytes (omega (arith, long)) is in
    let before = same.before in
    let after = same.after in
    let zeros : ℕ = header_size form - (sp + 4) in
    let zeros_after : drop (sp + 4) bytes ≡ replicate zeros 0 ++ rest_of form items = after ∙ laid_after form site place count items identified in
    let size : sp + 4 + zeros ≡ header_size form = omega (arith, fill) in
    let left = length-sibling p place.left in
    let right = length-sibling p place.right in
    let start : List ℕ = big_bytes 4 form.magic ++ big_bytes 2 place.level ++ big_bytes 2 count in
    let linked : List ℕ = start ++ sibling p place.left ++ sibling p place.right in
    let placed : List ℕ = linked ++ big_bytes 8 ((site.first + place.number) * 8) in
    let unlogged : List ℕ = placed ++ big_bytes 8 0 in
    let named : List ℕ = unlogged ++ site.uuid in
    let length_linked : length linked ≡ 8 + 2 * p = simp length-append (omega (arith, left, right)) in
    let length_placed : length placed ≡ 16 + 2 * p = length-append linked _ ∙ omega (arith, length_linked) in
    let length_unlogged : length unlogged ≡ 24 + 2 * p = length-append placed _ ∙ omega (arith, length_placed) in
    let length_named : length named ≡ 40 + 2 * p = length-append unlogged site.uuid ∙ omega (arith, length_unlogged, identified) in
    let eight = parted (40 + 2 * p) p sp bytes named _ (omega (arith, fill)) length_named (before ∙ laid_front form site place count items identified) in
    let seven = parted (24 + 2 * p) 16 (40 + 2 * p) bytes unlogged _ (omega arith) length_unlogged eight.0 in
    let six = parted (16 + 2 * p) 8 (24 + 2 * p) bytes placed _ (omega arith) length_placed seven.0 in
    let five = parted (8 + 2 * p) 8 (16 + 2 * p) bytes linked _ (omega arith) length_linked six.0 in
    let four = parted (8 + p) p (8 + 2 * p) bytes (start ++ sibling p place.left) _ (omega arith) (simp length-append (omega (arith, left))) five.0 in
    let three = parted 8 p (8 + p) bytes start _ refl refl four.0 in
    let two = parted 6 2 8 bytes (big_bytes 4 form.magic ++ big_bytes 2 place.level) _ refl refl three.0 in
    let one = parted 4 2 6 bytes (big_bytes 4 form.magic) _ refl refl two.0 in
    record {
      framed = λ low. record {
        magic = one.0;
        checked = is ∙ sym (with_crc_same sp bytes all before after);
        fields = record {
          low_level = low;
          level_is = one.1;
          sector = five.1;
          unlogged = six.1;
          identified = seven.1;
          owned = eight.1;
          zeros = ap (take zeros) zeros_after ∙ take_at (replicate zeros 0) _ zeros (length-replicate zeros 0);
        };
      };
      rest = ap (λ (k : ℕ). drop k bytes) (sym size) ∙ sym (drop-drop zeros (sp + 4) bytes) ∙ ap (drop zeros) zeros_after
          ∙ drop_at (replicate zeros 0) _ zeros (length-replicate zeros 0);
      same_count = λ small. sym (big_from-take 0 2 2 (drop 6 bytes) (omega arith)) ∙ ap (big_number 2) two.1 ∙ reads_alone 2 count small;
      same_left = λ names. sibling_read form.long place.left (drop 8 bytes) names three.1;
      same_right = λ names. sibling_read form.long place.right (drop (8 + p) bytes) names four.1;
      left_part = three.1;
      right_part = four.1;
    }
