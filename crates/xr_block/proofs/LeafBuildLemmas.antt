-- A leaf that is built of records' bytes, of its own or of two others.
use Rattle.std.proofs.Common.{◌≡◌, ℕ, ◌+◌, ◌-◌, ◌*◌, ◌/◌, ◌<◌, ◌≤◌, true, List, [], ◌++◌, length, take, drop, sym, ap, ◌∙◌, arith, ⊎_elim}
use Rattle.std.proofs.Math.Nat.{mul-div_cancel_left, mul-le-mul_right}
use Rattle.std.proofs.lemmas.Bool.{cases_lt}
use Rattle.std.proofs.lemmas.Grind.{flat_map-append}
use Rattle.std.proofs.lemmas.List.{append-nil, length-append, length-drop, length-take-le, take_at}
use Rattle.std.proofs.lemmas.List.Elements.{All-append, All-drop, All-take}
use Rattle.std.specs.List.{All, flat_map}
use Rattle.xr_base.specs.Image.{part}
use Rattle.xr_base.specs.declared.geometry.TheConstants.{BLOCK_BYTES}
use Rattle.xr_block.specs.BlockLaws.{length-items}
use Rattle.xr_kinds.specs.Form.{Form, IsForm, header_size}
use Rattle.xr_block.specs.TreeBlock.{Place, Site, count_in, zero_filled, header, tree_block}
use Rattle.xr_block.specs.Edits.{IsHeader, IsLeafOf, sealed}
use Rattle.xr_block.specs.SealLaws.{sealed_count, sealed_rest}
use Rattle.xr_block.specs.declared.header.Header.{Header}
use Rattle.xr_block.specs.EditLaws.{leaf_count, leaf_rest}
use Rattle.xr_block.specs.ItemByteLaws.{part_of_items}
use Rattle.xr_block.proofs.LaidBlockLemmas.{built_block}

-- as many times a size that isn't 0
pub least_factor : (size a b : ℕ) → 1 ≤ size → size * a ≤ size * b → a ≤ b
least_factor size a b some le = ⊎_elim
    (λ (over : b < a). let more : (b + 1) * size ≤ a * size = mul-le-mul_right size (omega arith) in absurd (omega arith))
    (λ (fits : a ≤ b). fits)
    (cases_lt b a)

-- a stretch of two rows of items lies in their bytes, and in the room that it is for
pub stretch_within : (size from to one other : ℕ) → to ≤ one + other → size * to ≤ size * one + size * other
stretch_within size from to one other within = let most : to * size ≤ (one + other) * size = mul-le-mul_right size within in omega arith

pub stretch_size : (size from to : ℕ) → from ≤ to → size * to - size * from ≡ size * (to - from)
stretch_size size from to order =
    let n : ℕ = to - from in
    let whole : size * to ≡ size * from + size * n = ap (λ (m : ℕ). size * m) (let e : to ≡ from + n = omega arith in e) ∙ omega arith in
    omega (arith, whole)

module _ {X : Type 0} (form : Form X) (laws : IsForm form) (site : Site) (place : Place) (fields : Header) (names : IsHeader fields site place)
    (count room : ℕ) (head area : List ℕ) (heads : head ≡ header form site place count) (rooms : room + header_size form ≡ BLOCK_BYTES) where
  pub leaf_built : (listed : List X) (bytes : List ℕ) → All (λ (r : X). form.is_valid r ≡ true) listed → bytes ++ [] ≡ flat_map form.bytes_of listed
      → length bytes ≤ form.size * form.leaf_max → count ≡ length bytes / form.size → area ≡ zero_filled room (bytes ++ [])
      → IsLeafOf form site place listed (sealed form (head ++ area))
  leaf_built listed bytes valid same few counted areas =
      let long : length bytes ≡ form.size * length listed = ap length (sym (append-nil bytes) ∙ same) ∙ length-items form.bytes_of form.size listed laws.sized ∙ omega arith in
      let number : count ≡ length listed = counted ∙ ap (λ (n : ℕ). n / form.size) long ∙ mul-div_cancel_left (length listed) laws.size_some in
      record {
        identified = names.identified;
        valid = valid;
        few = least_factor form.size (length listed) form.leaf_max laws.size_some (omega (arith, long, few));
        whole = built_block form site place count room (flat_map form.bytes_of listed) head area names.identified heads (areas ∙ ap (zero_filled room) same) rooms
            ∙ ap (λ (n : ℕ). tree_block form site place n (flat_map form.bytes_of listed)) number;
      }

  -- the bytes of a leaf's records
  records_part : (one : Place) (records : List X) (bytes : List ℕ) → length bytes ≡ BLOCK_BYTES → IsLeafOf form site one records (sealed form bytes)
      → part (header_size form) (form.size * count_in bytes) bytes ≡ flat_map form.bytes_of records
  records_part one records bytes full is =
      let counted : count_in bytes ≡ length records = sym (sealed_count form bytes full) ∙ leaf_count form laws site one (sealed form bytes) records is in
      let long : length (flat_map form.bytes_of records) ≡ form.size * count_in bytes =
      length-items form.bytes_of form.size records laws.sized ∙ ap (λ (n : ℕ). n * form.size) (sym counted) ∙ omega arith in
      ap (take (form.size * count_in bytes)) (sym (sealed_rest form bytes full) ∙ leaf_rest form laws site one (sealed form bytes) records is)
      ∙ take_at (flat_map form.bytes_of records) _ (form.size * count_in bytes) long

  pub leaf_gathered : (one other : Place) (xs ys : List X) (from to : ℕ) (first second front after : List ℕ)
      → length first ≡ BLOCK_BYTES → length second ≡ BLOCK_BYTES → IsLeafOf form site one xs (sealed form first) → IsLeafOf form site other ys (sealed form second)
      → front ≡ part (header_size form) (form.size * count_in first) first → after ≡ part (header_size form) (form.size * count_in second) second
      → from ≤ to → to ≤ count_in first + count_in second → to - from ≤ form.leaf_max → count ≡ to - from
      → area ≡ zero_filled room (part (form.size * from) (form.size * to - form.size * from) (front ++ after))
      → IsLeafOf form site place (take (to - from) (drop from (xs ++ ys))) (sealed form (head ++ area))
  leaf_gathered one other xs ys from to first second front after full_first full_second is_first is_second fronts rests order within few counted areas =
      let IsValid = λ (r : X). form.is_valid r ≡ true in
      let items : List X = xs ++ ys in
      let all : length items ≡ count_in first + count_in second =
      length-append xs ys ∙ omega (
        arith,
        sealed_count form first full_first,
        sealed_count form second full_second,
        leaf_count form laws site one (sealed form first) xs is_first,
        leaf_count form laws site other (sealed form second) ys is_second,
      ) in
      let next : List X = take (to - from) (drop from items) in
      let size : length next ≡ to - from = length-take-le (to - from) (drop from items) (omega (arith, length-drop from items, all)) in
      let bytes : front ++ after ≡ flat_map form.bytes_of items =
      ap (λ (zs : List ℕ). zs ++ after) (fronts ∙ records_part one xs first full_first is_first)
      ∙ ap (λ (zs : List ℕ). flat_map form.bytes_of xs ++ zs) (rests ∙ records_part other ys second full_second is_second) ∙ sym (flat_map-append form.bytes_of xs ys) in
      let part_is : part (form.size * from) (form.size * to - form.size * from) (front ++ after) ≡ flat_map form.bytes_of next =
      ap (λ (n : ℕ). part (form.size * from) n (front ++ after)) (stretch_size form.size from to order)
      ∙ ap (part (form.size * from) (form.size * (to - from))) bytes
      ∙ part_of_items form.bytes_of form.size items from (to - from) (λ i d _. laws.sized _) (omega (arith, all)) in
      record {
        identified = names.identified;
        valid = All-take IsValid (to - from) (drop from items) (All-drop IsValid from items (All-append IsValid xs ys is_first.valid is_second.valid));
        few = omega (arith, size, few);
        whole = built_block form site place count room (flat_map form.bytes_of next) head area names.identified heads (areas ∙ ap (zero_filled room) part_is) rooms
            ∙ ap (λ (n : ℕ). tree_block form site place n (flat_map form.bytes_of next)) (counted ∙ sym size);
      }
