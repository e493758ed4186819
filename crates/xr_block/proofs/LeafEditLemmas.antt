-- What an edit of a leaf's bytes makes of its records, in the leaf as it would be sealed.
use Rattle.std.proofs.Common.{◌≡◌, ℕ, suc, ◌+◌, ◌-◌, ◌*◌, ◌<◌, ◌≤◌, true, List, ◌∷◌, ◌++◌, length, take, drop, slice_set, sym, ap, ◌∙◌, arith}
use Rattle.std.proofs.Math.Nat.{mul-le-mul_right}
use Rattle.std.proofs.lemmas.List.{length-append, length-drop, length-set, length-take-le}
use Rattle.std.proofs.lemmas.List.Edits.{length-insert}
use Rattle.std.proofs.lemmas.List.Elements.{All-append, All-cons, All-drop, All-set, All-take}
use Rattle.std.specs.List.{All, flat_map, insert, remove}
use Rattle.xr_base.specs.Image.{overlaid}
use Rattle.xr_base.specs.declared.geometry.TheConstants.{BLOCK_BYTES}
use Rattle.xr_kinds.specs.Form.{Form, IsForm, header_size}
use Rattle.xr_block.specs.TreeBlock.{Place, Site, count_in, zero_filled, tree_block}
use Rattle.xr_block.specs.Edits.{IsLeafOf, sealed}
use Rattle.xr_block.specs.ItemBytes.{with_item, without_item}
use Rattle.xr_block.specs.SealLaws.{sealed_count, sealed_rest}
use Rattle.xr_block.specs.EditLaws.{leaf_count, leaf_rest, rest_filled}
use Rattle.xr_block.specs.ItemByteLaws.{removed_items, put_items, set_items}
use Rattle.xr_block.proofs.LaidBlockLemmas.{IsSplit, edited, edited_block, kept_block}

module _ {X : Type 0} (form : Form X) (laws : IsForm form) (site : Site) (place : Place) (records : List X) (bytes : List ℕ)
    (long : length bytes ≡ BLOCK_BYTES) (is : IsLeafOf form site place records (sealed form bytes))
    (start : ℕ) (head rest : List ℕ) (parts : IsSplit form start head rest bytes) where
  abbrev pub IsValid : X → Type 0
  IsValid r = form.is_valid r ≡ true

  abbrev pub room : ℕ
  room = BLOCK_BYTES - header_size form

  pub leaf_edited : (next : List X) (count : ℕ) (area : List ℕ) → All IsValid next → length next ≤ form.leaf_max → count ≡ length next
      → area ≡ zero_filled room (flat_map form.bytes_of next) → IsLeafOf form site place next (sealed form (edited count head area))
  leaf_edited next count area valid few counted filled_area = record {
    identified = is.identified;
    valid = valid;
    few = few;
    whole = ap (λ (xs : List ℕ). sealed form (edited count xs area)) (parts.heads ∙ ap (λ (n : ℕ). take n bytes) parts.starts)
        ∙ ap (λ (n : ℕ). sealed form (edited n (take (header_size form) bytes) area)) counted
        ∙ edited_block form site is.identified place (length records) (length next) (flat_map form.bytes_of records) (flat_map form.bytes_of next) bytes area
        long is.whole (filled_area ∙ sym (rest_filled form (flat_map form.bytes_of next)));
  }

  pub leaf_kept : (next : List X) (area : List ℕ) → All IsValid next → length next ≡ length records → area ≡ zero_filled room (flat_map form.bytes_of next)
      → IsLeafOf form site place next (sealed form (head ++ area))
  leaf_kept next area valid same filled_area = record {
    identified = is.identified;
    valid = valid;
    few = omega (arith, same, is.few);
    whole = ap (λ (xs : List ℕ). sealed form (xs ++ area)) (parts.heads ∙ ap (λ (n : ℕ). take n bytes) parts.starts)
        ∙ kept_block form site is.identified place (length records) (flat_map form.bytes_of records) (flat_map form.bytes_of next) bytes area
        long is.whole (filled_area ∙ sym (rest_filled form (flat_map form.bytes_of next)))
        ∙ ap (λ (n : ℕ). tree_block form site place n (flat_map form.bytes_of next)) (sym same);
  }

  counts : count_in bytes ≡ length records
  counts = sym (sealed_count form bytes long) ∙ leaf_count form laws site place (sealed form bytes) records is

  -- the records' bytes are those that an edit finds
  found : {Y : Type 0} (f : List ℕ → Y) → f rest ≡ f (zero_filled room (flat_map form.bytes_of records))
  found f = ap f (parts.rests ∙ ap (λ (n : ℕ). drop n bytes) parts.starts ∙ sym (sealed_rest form bytes long))
      ∙ ap f (leaf_rest form laws site place (sealed form bytes) records is)

  pub record_put : (k count next : ℕ) (r : X) (area : List ℕ) → count ≡ count_in bytes → k ≤ count_in bytes → count_in bytes < form.leaf_max → next ≡ count + 1
      → form.is_valid r ≡ true
      → area ≡ with_item (form.size * k) (form.size * count) (form.bytes_of r) rest
      → IsLeafOf form site place (insert records k r) (sealed form (edited next head area))
  record_put k count next r area counted within few more valid is_area =
      let most : (length records + 1) * form.size ≤ form.leaf_max * form.size = mul-le-mul_right form.size (omega (arith, few, counts)) in
      leaf_edited (insert records k r) next area
      (All-append IsValid (take k records) (r ∷ drop k records) (All-take IsValid k records is.valid)
      (All-cons IsValid r (drop k records) valid (All-drop IsValid k records is.valid)))
      (omega (arith, length-insert records k r (omega (arith, within, counts)), few, counts))
      (omega (arith, length-insert records k r (omega (arith, within, counts)), more, counted, counts))
      (is_area ∙ found (with_item (form.size * k) (form.size * count) (form.bytes_of r))
      ∙ ap (λ (n : ℕ). with_item (form.size * k) (form.size * n) (form.bytes_of r) (zero_filled room (flat_map form.bytes_of records))) (counted ∙ counts)
      ∙ put_items form.bytes_of form.size room k records r (λ i d _. laws.sized _) (laws.sized r) (omega (arith, within, counts)) (omega (arith, most, laws.leaf_fits)))

  pub record_removed : (k count next : ℕ) (area : List ℕ) → count ≡ count_in bytes → k < count_in bytes → next ≡ count - 1
      → area ≡ without_item (form.size * k) (form.size * count) form.size rest
      → IsLeafOf form site place (remove records k) (sealed form (edited next head area))
  record_removed k count next area counted within less is_area =
      let most : length records * form.size ≤ form.leaf_max * form.size = mul-le-mul_right form.size is.few in
      let left : length (remove records k) ≡ length records - 1 = length-append (take k records) (drop (suc k) records)
      ∙ omega (arith, length-take-le k records (omega (arith, within, counts)), length-drop (suc k) records, within, counts) in
      leaf_edited (remove records k) next area
      (All-append IsValid (take k records) (drop (suc k) records) (All-take IsValid k records is.valid) (All-drop IsValid (suc k) records is.valid))
      (omega (arith, left, is.few))
      (omega (arith, left, less, counted, counts))
      (is_area ∙ found (without_item (form.size * k) (form.size * count) form.size)
      ∙ ap (λ (n : ℕ). without_item (form.size * k) (form.size * n) form.size (zero_filled room (flat_map form.bytes_of records))) (counted ∙ counts)
      ∙ removed_items form.bytes_of form.size room k records (λ i d _. laws.sized _) (omega (arith, within, counts)) (omega (arith, most, laws.leaf_fits)))

  pub record_set : (k : ℕ) (r : X) (area : List ℕ) → k < count_in bytes → form.is_valid r ≡ true
      → area ≡ overlaid (form.size * k) (form.bytes_of r) rest
      → IsLeafOf form site place (slice_set records k r) (sealed form (head ++ area))
  record_set k r area within valid is_area =
      leaf_kept (slice_set records k r) area (All-set IsValid records k r valid is.valid) (length-set records k r)
      (is_area ∙ found (overlaid (form.size * k) (form.bytes_of r))
      ∙ set_items form.bytes_of form.size room k records r (λ i d _. laws.sized _) (laws.sized r) (omega (arith, within, counts)))
