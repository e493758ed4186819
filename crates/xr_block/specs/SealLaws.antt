-- The checksum of a block changes nothing else of it: the bytes with their checksum hold what the bytes hold.
use Rattle.std.proofs.Common.{◌≡◌, ℕ, zero, suc, ◌+◌, ◌-◌, ◌/◌, ◌^◌, ◌<◌, ◌≤◌, ◌==◌, if◌then◌else◌, Some, None, List, [], ◌∷◌, ◌++◌, length, take, drop, replicate, sym, ap, ◌∙◌, arith}
use Rattle.std.proofs.Math.Nat.{mod-lt}
use Rattle.std.proofs.lemmas.List.{length-append, length-replicate}
use Rattle.std.specs.Int.{byte_at, bytes_low_first}
use Rattle.byteorder.specs.Endian.{big_number}
use Rattle.byteorder.specs.Numbers.{big_from-take}
use Rattle.xr_base.specs.Checksum.{checksum_of, without_four, with_crc, sum_bytes}
use Rattle.xr_base.specs.ImageLaws.{part_below}
use Rattle.xr_base.specs.declared.geometry.TheConstants.{BLOCK_BYTES}
use Rattle.xr_kinds.specs.BigEndianLaws.{dropped_bytes, taken_bytes}
use Rattle.xr_block.specs.BlockLaws.{fields_fill}
use Rattle.xr_kinds.specs.Form.{Form, header_size, pointer_size}
use Rattle.xr_base.specs.Fields.{AreBytes}
use Rattle.xr_block.specs.TreeBlock.{Place, Site, count_in, zero_filled, header, crc_place, tree_block}
use Rattle.xr_block.specs.Checks.{left_in, sibling_in, right_in}
use Rattle.xr_block.specs.Edits.{sealed}
use Rattle.xr_base.specs.ChecksumLaws.{with_crc-with_crc, drop-with_crc, length-with_crc}

-- a number before a checksum
number_before : (at place width : ℕ) (bytes : List ℕ) → place + width ≤ at → at ≤ length bytes
    → big_number width (drop place (with_crc at bytes)) ≡ big_number width (drop place bytes)
unfolding with_crc
number_before at place width bytes before fits =
    sym (big_from-take 0 width width (drop place (with_crc at bytes)) (omega arith))
    ∙ ap (big_number width) (part_below at width place (sum_bytes at bytes) bytes before fits)
    ∙ big_from-take 0 width width (drop place bytes) (omega arith)

-- bytes after bytes
both_bytes : (xs ys : List ℕ) → AreBytes xs → AreBytes ys → AreBytes (xs ++ ys)
both_bytes [] ys front after i = after i
both_bytes (x ∷ xs) ys front after zero = front 0
both_bytes (x ∷ xs) ys front after (suc i) = both_bytes xs ys (λ k. front (suc k)) after i

byte_small : (n x : ℕ) → byte_at n x < 256
byte_small zero x = mod-lt x (omega arith)
byte_small (suc n) x = mod-lt (x / 256 ^ suc n) (omega arith)

low_bytes : (i n x : ℕ) → AreBytes (bytes_low_first i n x)
low_bytes i zero x k = omega arith
low_bytes i (suc n) x zero = byte_small i x
low_bytes i (suc n) x (suc k) = low_bytes (suc i) n x k

module _ {X : Type 0} (form : Form X) (bytes : List ℕ) (long : length bytes ≡ BLOCK_BYTES) where
  -- a block has room for the checksum
  roomy : crc_place form + 4 ≤ length bytes
  roomy = let fill = fields_fill form.long in omega (arith, fill, long)

  pub length-sealed : length (sealed form bytes) ≡ BLOCK_BYTES
  length-sealed = length-with_crc (crc_place form) bytes roomy ∙ long

  pub sealed_again : sealed form (sealed form bytes) ≡ sealed form bytes
  sealed_again = with_crc-with_crc (crc_place form) bytes roomy

  pub sealed_bytes : AreBytes bytes → AreBytes (sealed form bytes)
  unfolding with_crc
  sealed_bytes all =
      let at : ℕ = crc_place form in
      let sum : List ℕ = sum_bytes at bytes in
      both_bytes (take at bytes ++ sum) (drop (at + length sum) bytes)
      (both_bytes (take at bytes) sum (taken_bytes at bytes all) (low_bytes 0 4 (checksum_of (without_four at bytes))))
      (dropped_bytes (at + length sum) bytes all)

  pub sealed_count : count_in (sealed form bytes) ≡ count_in bytes
  sealed_count = let fill = fields_fill form.long in number_before (crc_place form) 6 2 bytes (omega (arith, fill)) (omega (arith, roomy))

  -- what stands after the header
  pub sealed_rest : drop (header_size form) (sealed form bytes) ≡ drop (header_size form) bytes
  sealed_rest = let fill = fields_fill form.long in drop-with_crc (crc_place form) (header_size form) bytes (omega (arith, fill)) roomy

  -- the sibling at a place before the checksum
  sealed_sibling : (place : ℕ) → place + pointer_size form ≤ crc_place form
      → sibling_in (pointer_size form) (drop place (sealed form bytes)) ≡ sibling_in (pointer_size form) (drop place bytes)
  sealed_sibling place before =
      let none : ℕ = 256 ^ pointer_size form - 1 in
      ap (λ (n : ℕ). if n == none then None else Some n) (number_before (crc_place form) place (pointer_size form) bytes before (omega (arith, roomy)))

  pub sealed_left : left_in form (sealed form bytes) ≡ left_in form bytes
  sealed_left = let fill = fields_fill form.long in sealed_sibling 8 (omega (arith, fill))

  pub sealed_right : right_in form (sealed form bytes) ≡ right_in form bytes
  sealed_right = let fill = fields_fill form.long in sealed_sibling (8 + pointer_size form) (omega (arith, fill))

-- a block of a tree has its checksum
pub sealed_block : {X : Type 0} (form : Form X) (site : Site) (place : Place) (count : ℕ) (items : List ℕ) → length site.uuid ≡ 16
    → sealed form (tree_block form site place count items) ≡ tree_block form site place count items
unfolding tree_block
sealed_block form site place count items identified =
    let fill = fields_fill form.long in
    let fields : List ℕ = header form site place count ++ items in
    let all : List ℕ = zero_filled BLOCK_BYTES fields in
    let long : BLOCK_BYTES ≤ length all =
    omega (arith, length-append fields (replicate (BLOCK_BYTES - length fields) 0), length-replicate {A = ℕ} (BLOCK_BYTES - length fields) 0) in
    with_crc-with_crc (crc_place form) all (omega (arith, fill, long))
