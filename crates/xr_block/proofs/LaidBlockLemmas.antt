-- A block in the midst of an edit, beside its checksum: with other items, another count and other siblings.
use Rattle.std.proofs.Common.{◌≡◌, ℕ, ◌+◌, ◌-◌, ◌*◌, ◌≤◌, Option, List, ◌++◌, length, take, drop, replicate, refl, sym, ap, ◌∙◌, arith}
use Rattle.std.proofs.Math.Seq.{take-append-add}
use Rattle.std.proofs.lemmas.List.{append_assoc, drop_at, drop-append-le, drop-drop, drop-take, length-append, length-replicate, length-take-le, take-append-le, take_at, take-take}
use Rattle.byteorder.specs.Endian.{big_bytes}
use Rattle.xr_base.specs.Image.{overlaid}
use Rattle.xr_base.specs.declared.geometry.TheConstants.{BLOCK_BYTES}
use Rattle.xr_block.specs.BlockLaws.{fields_fill, length-header, length-sibling}
use Rattle.xr_kinds.specs.Form.{Form, header_size, pointer_size}
use Rattle.xr_block.specs.TreeBlock.{Place, Site, zero_filled, header, sibling, crc_place, tree_block}
use Rattle.xr_block.specs.CheckLaws.{block_laid, front, laid, laid_after, laid_block, laid_front, rest_of, IsHeaderLaid}
use Rattle.xr_block.specs.Edits.{IsHeader, sealed, with_left}
use Rattle.xr_base.specs.ChecksumLaws.{drop-with_crc, take-with_crc}
use Rattle.xr_block.specs.declared.header.Header.{Header}
use Rattle.xr_base.specs.ImageLaws.{drop_overlaid}

-- bytes of the same length over some that stand at a place
laid_over : (at : ℕ) (before old new after : List ℕ) → length before ≡ at → length new ≡ length old
    → overlaid at new (before ++ (old ++ after)) ≡ before ++ (new ++ after)
laid_over at before old new after long same =
    let past : drop (at + length new) (before ++ (old ++ after)) ≡ after =
    sym (drop-drop (length new) at (before ++ (old ++ after))) ∙ ap (drop (length new)) (drop_at before (old ++ after) at long)
    ∙ drop_at old after (length new) (sym same) in
    rw (take_at before (old ++ after) at long, past) (append_assoc before new after)

-- the front of bytes over which others were laid
take_overlaid : (at n : ℕ) (field bytes : List ℕ) → at + length field ≤ n → n ≤ length bytes → take n (overlaid at field bytes) ≡ overlaid at field (take n bytes)
take_overlaid at n field bytes within room =
    let k : ℕ = at + length field in
    let head : List ℕ = take at bytes ++ field in
    let long : length head ≡ k = length-append (take at bytes) field ∙ omega (arith, length-take-le at bytes (omega arith)) in
    let sum : n ≡ length head + (n - k) = omega (arith, long) in
    let whole : n ≡ k + (n - k) = omega arith in
    ap (λ (m : ℕ). take m (overlaid at field bytes)) sum ∙ take-append-add head (drop k bytes) (n - k)
    ∙ ap (λ (xs : List ℕ). head ++ xs) (sym (drop-take k (n - k) bytes) ∙ ap (λ (m : ℕ). drop k (take m bytes)) (sym whole))
    ∙ ap (λ (xs : List ℕ). xs ++ field ++ drop k (take n bytes)) (sym (take-take at n bytes (omega arith)))

-- where each field of a header stands
count_front : {X : Type 0} (form : Form X) (site : Site) (place : Place) (count next : ℕ)
    → overlaid 6 (big_bytes 2 next) (front form site place count) ≡ front form site place next
count_front form site place count next =
    let p : ℕ = pointer_size form in
    let before : List ℕ = big_bytes 4 form.magic ++ big_bytes 2 place.level in
    let after : List ℕ = sibling p place.left ++ (sibling p place.right ++ (big_bytes 8 ((site.first + place.number) * 8)
    ++ (big_bytes 8 0 ++ (site.uuid ++ big_bytes p site.owner)))) in
    let split : (n : ℕ) → front form site place n ≡ before ++ (big_bytes 2 n ++ after) = λ n. simp append_assoc refl in
    ap (overlaid 6 (big_bytes 2 next)) (split count) ∙ laid_over 6 before (big_bytes 2 count) (big_bytes 2 next) after refl refl ∙ sym (split next)

left_front : {X : Type 0} (form : Form X) (site : Site) (place : Place) (count : ℕ) (left : Option ℕ)
    → overlaid 8 (sibling (pointer_size form) left) (front form site place count) ≡ front form site (with_left left place) count
left_front form site place count left =
    let p : ℕ = pointer_size form in
    let before : List ℕ = big_bytes 4 form.magic ++ big_bytes 2 place.level ++ big_bytes 2 count in
    let after : List ℕ = sibling p place.right ++ (big_bytes 8 ((site.first + place.number) * 8)
    ++ (big_bytes 8 0 ++ (site.uuid ++ big_bytes p site.owner))) in
    let split : (o : Option ℕ) → front form site (with_left o place) count ≡ before ++ (sibling p o ++ after) = λ o. simp append_assoc refl in
    ap (overlaid 8 (sibling p left)) (split place.left)
    ∙ laid_over 8 before (sibling p place.left) (sibling p left) after refl (length-sibling p left ∙ sym (length-sibling p place.left)) ∙ sym (split left)

-- a block in two parts: the header, and what is after it
pub record IsSplit {X : Type 0} (form : Form X) (start : ℕ) (head rest bytes : List ℕ) : Type 0 where
  pub starts : start ≡ header_size form
  pub heads : head ≡ take start bytes
  pub rests : rest ≡ drop start bytes

-- a block after other items and their count were written
abbrev pub edited : ℕ → List ℕ → List ℕ → List ℕ
edited count head area = overlaid 6 (big_bytes 2 count) (head ++ area)

module _ {X : Type 0} (form : Form X) (site : Site) (identified : length site.uuid ≡ 16) where
  length-laid : (place : Place) (count : ℕ) (items : List ℕ)
      → length (laid form site place count items) ≡ header_size form + length items + (BLOCK_BYTES - (header_size form + length items))
  length-laid place count items =
      let fields : List ℕ = header form site place count ++ items in
      let long : length fields ≡ header_size form + length items =
      length-append (header form site place count) items ∙ omega (arith, length-header form site place count identified) in
      length-append fields (replicate (BLOCK_BYTES - length fields) 0) ∙ omega (arith, long, length-replicate {A = ℕ} (BLOCK_BYTES - length fields) 0)

  -- what stands beside the checksum of a block that is one of a tree as it would be sealed
  sealed_laid : (place : Place) (count : ℕ) (items bytes : List ℕ) → length bytes ≡ BLOCK_BYTES → sealed form bytes ≡ tree_block form site place count items
      → IsHeaderLaid form site place count items bytes
  sealed_laid place count items bytes long is =
      let fill = fields_fill form.long in
      let sp : ℕ = crc_place form in
      let whole = block_laid form site place count items (sealed form bytes) (omega (arith, length-laid place count items)) is in
      record {
        before = sym (take-with_crc sp bytes (omega (arith, fill, long))) ∙ whole.before;
        after = sym (drop-with_crc sp (sp + 4) bytes (omega arith) (omega (arith, fill, long))) ∙ whole.after;
      }

  items_laid : (place : Place) (count : ℕ) (items next bytes area : List ℕ) → length bytes ≡ BLOCK_BYTES → IsHeaderLaid form site place count items bytes
      → area ≡ rest_of form next → IsHeaderLaid form site place count next (take (header_size form) bytes ++ area)
  items_laid place count items next bytes area long is rest =
      let fill = fields_fill form.long in
      let sp : ℕ = crc_place form in
      let size : ℕ = header_size form in
      let zeros : ℕ = size - (sp + 4) in
      let head : List ℕ = take size bytes in
      let length_head : length head ≡ size = length-take-le size bytes (omega (arith, fill, long)) in
      let sum : size ≡ sp + 4 + zeros = omega (arith, fill) in
      let between : drop (sp + 4) head ≡ replicate zeros 0 =
      ap (λ (n : ℕ). drop (sp + 4) (take n bytes)) sum ∙ drop-take (sp + 4) zeros bytes
      ∙ ap (take zeros) (is.after ∙ laid_after form site place count items identified)
      ∙ take_at (replicate zeros 0) _ zeros (length-replicate zeros 0) in
      record {
        before = take-append-le sp head area (omega (arith, fill, length_head)) ∙ take-take sp size bytes (omega (arith, fill))
            ∙ is.before ∙ laid_front form site place count items identified ∙ sym (laid_front form site place count next identified);
        after = drop-append-le (sp + 4) head area (omega (arith, fill, length_head)) ∙ ap (λ (xs : List ℕ). xs ++ area) between
            ∙ ap (λ (xs : List ℕ). replicate zeros 0 ++ xs) rest ∙ sym (laid_after form site place count next identified);
      }

  field_laid : (place other : Place) (count next at : ℕ) (items field bytes : List ℕ) → header_size form ≤ length bytes → at + length field ≤ crc_place form
      → overlaid at field (front form site place count) ≡ front form site other next → IsHeaderLaid form site place count items bytes
      → IsHeaderLaid form site other next items (overlaid at field bytes)
  field_laid place other count next at items field bytes long within over is =
      let fill = fields_fill form.long in
      let sp : ℕ = crc_place form in
      record {
        before = take_overlaid at sp field bytes within (omega (arith, fill, long))
            ∙ ap (overlaid at field) (is.before ∙ laid_front form site place count items identified) ∙ over
            ∙ sym (laid_front form site other next items identified);
        after = drop_overlaid at (sp + 4) field bytes (omega (arith, within)) (omega (arith, fill, long, within)) ∙ is.after
            ∙ laid_after form site place count items identified ∙ sym (laid_after form site other next items identified);
      }

  -- other items, as many as there were
  pub kept_block : (place : Place) (count : ℕ) (items others bytes area : List ℕ) → length bytes ≡ BLOCK_BYTES
      → sealed form bytes ≡ tree_block form site place count items → area ≡ rest_of form others
      → sealed form (take (header_size form) bytes ++ area) ≡ tree_block form site place count others
  kept_block place count items others bytes area long is rest =
      laid_block form site place count others _ (items_laid place count items others bytes area long (sealed_laid place count items bytes long is) rest)

  -- other items, with their count
  pub edited_block : (place : Place) (count next : ℕ) (items others bytes area : List ℕ) → length bytes ≡ BLOCK_BYTES
      → sealed form bytes ≡ tree_block form site place count items → area ≡ rest_of form others
      → sealed form (edited next (take (header_size form) bytes) area) ≡ tree_block form site place next others
  edited_block place count next items others bytes area long is rest =
      let fill = fields_fill form.long in
      let head : List ℕ = take (header_size form) bytes in
      let room : header_size form ≤ length (head ++ area) =
      omega (arith, length-append head area, length-take-le (header_size form) bytes (omega (arith, fill, long))) in
      laid_block form site place next others _
      (field_laid place place count next 6 others (big_bytes 2 next) (head ++ area) room (omega (arith, fill)) (count_front form site place count next)
      (items_laid place count items others bytes area long (sealed_laid place count items bytes long is) rest))

  -- other siblings
  pub left_block : (place : Place) (count : ℕ) (left : Option ℕ) (items bytes : List ℕ) → length bytes ≡ BLOCK_BYTES
      → sealed form bytes ≡ tree_block form site place count items
      → sealed form (overlaid 8 (sibling (pointer_size form) left) bytes) ≡ tree_block form site (with_left left place) count items
  left_block place count left items bytes long is =
      let fill = fields_fill form.long in
      laid_block form site (with_left left place) count items _
      (field_laid place (with_left left place) count count 8 items (sibling (pointer_size form) left) bytes (omega (arith, fill, long))
      (omega (arith, fill, length-sibling (pointer_size form) left)) (left_front form site place count left) (sealed_laid place count items bytes long is))

-- a header's parts, one after the other
pub header_of : {X : Type 0} (form : Form X) (site : Site) (place : Place) (fields : Header) (count : ℕ) (start links placed owned : List ℕ)
    → IsHeader fields site place → start ≡ big_bytes 4 form.magic ++ big_bytes 2 fields.level ++ big_bytes 2 count
    → links ≡ sibling (pointer_size form) fields.left ++ sibling (pointer_size form) fields.right
    → placed ≡ big_bytes 8 (fields.block * 8) ++ big_bytes 8 0 ++ fields.uuid
    → owned ≡ big_bytes (pointer_size form) fields.owner ++ replicate (header_size form - crc_place form) 0
    → start ++ (links ++ (placed ++ owned)) ≡ header form site place count
unfolding header
header_of form site place fields count start links placed owned names is_start is_links is_placed is_owned =
    rw (is_start, is_links, is_placed, is_owned, names.level, names.left, names.right, names.block, names.uuid, names.owner) (simp append_assoc refl)

-- a block that is built of its header and its items
pub built_block : {X : Type 0} (form : Form X) (site : Site) (place : Place) (count room : ℕ) (items head area : List ℕ) → length site.uuid ≡ 16
    → head ≡ header form site place count → area ≡ zero_filled room items → room + header_size form ≡ BLOCK_BYTES
    → sealed form (head ++ area) ≡ tree_block form site place count items
unfolding tree_block
built_block form site place count room items head area identified heads areas rooms =
    let fields : List ℕ = header form site place count in
    let left : room - length items ≡ BLOCK_BYTES - length (fields ++ items) =
    omega (arith, rooms, length-append fields items, length-header form site place count identified) in
    ap (sealed form)
    (ap (λ (xs : List ℕ). xs ++ area) heads ∙ ap (λ (xs : List ℕ). fields ++ xs) areas ∙ sym (append_assoc fields items (replicate (room - length items) 0))
    ∙ ap (λ (n : ℕ). fields ++ items ++ replicate n 0) left)
