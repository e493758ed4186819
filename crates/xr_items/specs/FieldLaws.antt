-- Fields written one after the other, and read back at their places.
use Rattle.std.proofs.Common.{◌≡◌, ℕ, zero, suc, ◌+◌, ◌^◌, ◌<◌, ◌≤◌, List, [], ◌∷◌, ◌++◌, length, take, drop, get_or, refl, sym, ap, ◌∙◌, arith}
use Rattle.std.proofs.lemmas.List.{append_assoc, append-nil, length-append, length-drop, length-take-le, drop-drop, drop_at, take-append-drop, take_all, take-append-le}
use Rattle.std.proofs.lemmas.Grind.{common_steps}
use Rattle.std.proofs.Math.Seq.{drop-append-add}
use Rattle.std.specs.Int.{w16, w32, w64, from_le_bytes}
use Rattle.std.specs.Prelude.{⊤}
use Rattle.std.proofs.lemmas.Nat.{le_bytes_2, le_bytes_4, le_bytes_8}
use Rattle.byteorder.specs.Endian.{little_number}
use Rattle.byteorder.specs.Numbers.{length-bytes_low_first, little_number-reads_back, little_from-take}
use Rattle.xr_base.specs.Image.{overlaid}
use Rattle.xr_items.specs.declared.fields.Field.{Field}
use Rattle.xr_items.specs.declared.fields.Field.TheVariants.{Half, Word, Long}
use Rattle.xr_items.specs.Fields.{AreFields, field_bytes, bytes_of_fields, number, width, widths}
use Rattle.xr_base.specs.Fields.{AreBytes, le_at}

pub length-field_bytes : (field : Field) → length (field_bytes field) ≡ width field
length-field_bytes field = length-bytes_low_first 0 (width field) (number field)

pub length-bytes_of_fields : (fields : List Field) → length (bytes_of_fields fields) ≡ widths fields
unfolding bytes_of_fields
length-bytes_of_fields [] = refl
length-bytes_of_fields (field ∷ fields) =
    length-append (field_bytes field) (bytes_of_fields fields) ∙ omega (arith, length-field_bytes field, length-bytes_of_fields fields)

bytes_of_fields-append : (xs ys : List Field) → bytes_of_fields (xs ++ ys) ≡ bytes_of_fields xs ++ bytes_of_fields ys
unfolding bytes_of_fields
bytes_of_fields-append [] ys = refl
bytes_of_fields-append (field ∷ xs) ys =
    ap (λ (rest : List ℕ). field_bytes field ++ rest) (bytes_of_fields-append xs ys) ∙ sym (append_assoc (field_bytes field) (bytes_of_fields xs) (bytes_of_fields ys))

pub bytes_of_fields-more : (fields : List Field) (i : ℕ) (d : Field) → i < length fields → bytes_of_fields (take (i + 1) fields) ≡ bytes_of_fields (take i fields) ++ field_bytes (get_or fields i d)
unfolding bytes_of_fields
bytes_of_fields-more [] i d within = absurd (omega arith)
bytes_of_fields-more (field ∷ fields) zero d within = append-nil (field_bytes field)
bytes_of_fields-more (field ∷ fields) (suc i) d within =
    let next : suc i + 1 ≡ suc (i + 1) = omega arith in
    ap (λ (n : ℕ). bytes_of_fields (take n (field ∷ fields))) next
    ∙ ap (λ (rest : List ℕ). field_bytes field ++ rest) (bytes_of_fields-more fields i d (omega arith))
    ∙ sym (append_assoc (field_bytes field) (bytes_of_fields (take i fields)) (field_bytes (get_or fields i d)))

widths-take : (fields : List Field) (i : ℕ) (d : Field) → i < length fields → widths (take i fields) + width (get_or fields i d) ≤ widths fields
widths-take [] i d within = absurd (omega arith)
widths-take (field ∷ fields) zero d within = omega arith
widths-take (field ∷ fields) (suc i) d within = omega (arith, widths-take fields i d (omega arith))

-- the next field fits where all do
pub next_fits : (fields : List Field) (i place n : ℕ) (d : Field) → widths fields ≤ n → i < length fields → place ≡ length (bytes_of_fields (take i fields))
    → place + width (get_or fields i d) ≤ n
next_fits fields i place n d fits within is = omega (arith, widths-take fields i d within, length-bytes_of_fields (take i fields))

-- bytes written over what follows the front
pub written_past : (place : ℕ) (front bytes old out new : List ℕ) → out ≡ front ++ drop place old → place ≡ length front
    → new ≡ overlaid place bytes out → new ≡ (front ++ bytes) ++ drop (place + length bytes) old
written_past place front bytes old out new was is over =
    let n : ℕ = length bytes in
    let begins : take place out ≡ front =
    ap (take place) was ∙ take-append-le place front (drop place old) (omega arith) ∙ take_all place front (omega arith) in
    let ends : drop (place + n) out ≡ drop (place + n) old =
    ap (drop (place + n)) was ∙ ap (λ (m : ℕ). drop (m + n) (front ++ drop place old)) is ∙ drop-append-add front (drop place old) n ∙ drop-drop n place old in
    over ∙ ap (λ (xs : List ℕ). xs ++ bytes ++ drop (place + n) out) begins ∙ ap (λ (xs : List ℕ). front ++ bytes ++ xs) ends

-- numbers are their bytes
half_read : (xs : List ℕ) → little_number 2 xs ≡ from_le_bytes w16 xs
half_read xs = omega arith

word_read : (xs : List ℕ) → little_number 4 xs ≡ from_le_bytes w32 xs
word_read xs = omega arith

long_read : (xs : List ℕ) → little_number 8 xs ≡ from_le_bytes w64 xs
long_read xs = omega arith

bytes_of : (field : Field) (xs : List ℕ) → length xs ≡ width field → AreBytes xs → number field ≡ little_number (width field) xs → field_bytes field ≡ xs
bytes_of (Half n) xs long all is = le_bytes_2 xs n long all (is ∙ half_read xs)
bytes_of (Word n) xs long all is = le_bytes_4 xs n long all (is ∙ word_read xs)
bytes_of (Long n) xs long all is = le_bytes_8 xs n long all (is ∙ long_read xs)

part_bytes : (bytes : List ℕ) (place n : ℕ) → AreBytes bytes → AreBytes (take n (drop place bytes))
part_bytes bytes place n all = λ (k : ℕ). let here = all (place + k) in grind (arith, common_steps)

-- bytes that hold fields are those of the fields
pub bytes_from_fields : (fields : List Field) (place : ℕ) (bytes : List ℕ) → AreBytes bytes → length bytes ≡ place + widths fields
    → AreFields fields place bytes → drop place bytes ≡ bytes_of_fields fields
unfolding bytes_of_fields le_at
bytes_from_fields [] place bytes all long held = grind (arith, common_steps)
bytes_from_fields (field ∷ fields) place bytes all long held =
    let n : ℕ = width field in
    let xs : List ℕ = drop place bytes in
    let first : field_bytes field ≡ take n xs =
    bytes_of field (take n xs) (length-take-le n xs (omega (arith, length-drop place bytes))) (part_bytes bytes place n all)
    (sym held.0 ∙ sym (little_from-take 0 n n xs (omega arith))) in
    sym (take-append-drop n xs) ∙ ap (λ (ys : List ℕ). ys ++ drop n xs) (sym first)
    ∙ ap (λ (ys : List ℕ). field_bytes field ++ ys) (drop-drop n place bytes ∙ bytes_from_fields fields (place + n) bytes all (omega arith) held.1)

-- numbers that fit their fields
abbrev pub Fit : List Field → Type 0
Fit [] = ⊤
Fit (field ∷ fields) = (number field < 256 ^ width field) × Fit fields

pub fields_from_bytes : (fields : List Field) (place : ℕ) (bytes : List ℕ) → Fit fields → drop place bytes ≡ bytes_of_fields fields → AreFields fields place bytes
unfolding bytes_of_fields le_at
fields_from_bytes [] place bytes fit is = tt
fields_from_bytes (field ∷ fields) place bytes fit is = (
  ap (little_number (width field)) is ∙ little_number-reads_back (width field) (number field) (bytes_of_fields fields) fit.0,
  fields_from_bytes fields (place + width field) bytes fit.1
      (sym (drop-drop (width field) place bytes) ∙ ap (drop (width field)) is ∙ drop_at (field_bytes field) (bytes_of_fields fields) (width field) (length-field_bytes field)),
)
