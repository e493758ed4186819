-- The laws of records of shared and staged blocks.
use Rattle.std.proofs.Common.{◌≡◌, ℕ, ◌+◌, ◌%◌, ◌^◌, ◌<◌, ◌++◌, List, length, drop, Bool, true, false, if◌then◌else◌, refl, sym, ap, ◌∙◌, arith}
use Rattle.std.proofs.lemmas.Bool.{and_parts, le-leb, lt-leb}
use Rattle.std.proofs.lemmas.Bool.Decides.{nat_tests}
use Rattle.std.proofs.lemmas.Cmp.{nat_cmp_total, on_total}
use Rattle.std.proofs.lemmas.List.{drop-drop, length-append, length-drop}
use Rattle.std.specs.Ordering.{nat_cmp}
use Rattle.std.specs.Prelude.{nat_le}
use Rattle.byteorder.specs.Endian.{big_bytes, big_number}
use Rattle.byteorder.specs.Numbers.{big_from-lt, big_number-reads_back, length-bytes_high_first}
use Rattle.xr_kinds.specs.declared.reference.Reference.{Reference}
use Rattle.xr_kinds.specs.BigEndianLaws.{bytes_again, drop-bytes, dropped_bytes, field_again, reads_alone}
use Rattle.xr_kinds.specs.Form.{IsForm}
use Rattle.xr_base.specs.Fields.{AreBytes}
use Rattle.xr_kinds.specs.FormLaws.{kept_valid, valid_kept}
use Rattle.xr_kinds.specs.Reference.{first_word, is_good_count, is_reference, reference_bytes, reference_form, reference_in, reference_of, reference_span, same_count}
use Rattle.xr_kinds.specs.SpanLaws.{group_run, meet_both, touch_both}

length-reference_bytes : (r : Reference) → length (reference_bytes r) ≡ 12
length-reference_bytes r =
    omega (arith, length-append (big_bytes 4 (first_word r)) (big_bytes 4 r.len ++ big_bytes 4 r.count), length-append (big_bytes 4 r.len) (big_bytes 4 r.count), length-bytes_high_first 4 (first_word r), length-bytes_high_first 4 r.len, length-bytes_high_first 4 r.count)

-- the numbers of a valid record have room in their fields
record IsSmall (r : Reference) : Type 0 where
  start : r.start < 2 ^ 31
  word : first_word r < 2 ^ 32
  len : r.len < 2 ^ 32
  count : r.count < 2 ^ 32

small_count : (r : Reference) → is_good_count r ≡ true → r.count < 2 ^ 32
small_count r good = grind (arith, nat_tests)

small_word : (r : Reference) → r.start < 2 ^ 31 → first_word r < 2 ^ 32
small_word r below = grind (arith, nat_tests)

small : (r : Reference) → is_reference r ≡ true → IsSmall r
small r good =
    let parts = and_parts _ _ good in
    let run = group_run (reference_span r) parts.0 in
    record { start = omega arith; word = small_word r (omega arith); len = omega arith; count = small_count r parts.1 }

make : ℕ → ℕ → ℕ → Bool → Reference
make start len count staged = record { start = start; len = len; count = count; staged = staged }

-- a first word gives the start and the mark back
marked_back : (start len count : ℕ) (staged : Bool) → start < 2 ^ 31
    → (let word = if staged then start + 2 ^ 31 else start in make (word % 2 ^ 31) len count (nat_le (2 ^ 31) word)) ≡ make start len count staged
marked_back start len count true below =
    let first : (start + 2 ^ 31) % 2 ^ 31 ≡ start = omega arith in
    let mark : nat_le (2 ^ 31) (start + 2 ^ 31) ≡ true = le-leb (2 ^ 31) (start + 2 ^ 31) (omega arith) in
    rw (first, mark) refl
marked_back start len count false below =
    let first : start % 2 ^ 31 ≡ start = omega arith in
    let mark : nat_le (2 ^ 31) start ≡ false = lt-leb (2 ^ 31) start below in
    rw (first, mark) refl

word_back : (r : Reference) → r.start < 2 ^ 31 → reference_of (first_word r) r.len r.count ≡ r
unfolding make
word_back r below = marked_back r.start r.len r.count r.staged below

-- and it has them from nowhere else
word_again : (word len count : ℕ) → word < 2 ^ 32 → first_word (reference_of word len count) ≡ word
word_again word len count below = grind (arith, nat_tests)

reference_back : (r : Reference) → is_reference r ≡ true → reference_in (reference_bytes r) ≡ r
reference_back r good =
    let room = small r good in
    let bytes : List ℕ = reference_bytes r in
    let first : drop 4 bytes ≡ big_bytes 4 r.len ++ big_bytes 4 r.count = drop-bytes 4 (first_word r) (big_bytes 4 r.len ++ big_bytes 4 r.count) in
    let second : drop 8 bytes ≡ big_bytes 4 r.count = sym (drop-drop 4 4 bytes) ∙ ap (drop 4) first ∙ drop-bytes 4 r.len (big_bytes 4 r.count) in
    let word : big_number 4 bytes ≡ first_word r = big_number-reads_back 4 (first_word r) (big_bytes 4 r.len ++ big_bytes 4 r.count) room.word in
    let len : big_number 4 (drop 4 bytes) ≡ r.len = ap (big_number 4) first ∙ big_number-reads_back 4 r.len (big_bytes 4 r.count) room.len in
    let count : big_number 4 (drop 8 bytes) ≡ r.count = ap (big_number 4) second ∙ reads_alone 4 r.count room.count in
    rw (word, len, count) (word_back r room.start)

reference_again : (bytes : List ℕ) → length bytes ≡ 12 → AreBytes bytes → reference_bytes (reference_in bytes) ≡ bytes
reference_again bytes long all =
    let word : first_word (reference_in bytes) ≡ big_number 4 bytes = word_again (big_number 4 bytes) (big_number 4 (drop 4 bytes)) (big_number 4 (drop 8 bytes)) (big_from-lt 0 4 bytes all) in
    let count = bytes_again 4 (drop 8 bytes) (omega (arith, length-drop 8 bytes)) (dropped_bytes 8 bytes all) in
    let len = field_again 4 (drop 4 bytes) _ (omega (arith, length-drop 4 bytes)) (dropped_bytes 4 bytes all) (count ∙ sym (drop-drop 4 4 bytes)) in
    rw word (field_again 4 bytes _ (omega arith) all len)

count_both : (a b : Reference) → same_count a b ≡ same_count b a
count_both a b = grind (arith, nat_tests)

pub is_reference_form : IsForm reference_form
is_reference_form = record {
  total = on_total first_word nat_cmp_total;
  sized = length-reference_bytes;
  low_sized = λ x. length-bytes_high_first 4 (first_word x);
  high_sized = λ x. refl;
  keys_follow = λ x y good. let room = small y good in ap (nat_cmp (first_word x)) (reads_alone 4 (first_word y) room.word);
  takes_back = λ x good. valid_kept is_reference _ x (reference_back x good) good;
  takes_only = λ bytes x long all is.
      let kept = kept_valid is_reference (reference_in bytes) x is in (kept.0, ap reference_bytes (sym kept.1) ∙ reference_again bytes long all);
  meets_both = λ x y. meet_both (reference_span x) (reference_span y);
  agrees_both = λ x y. rw (meet_both (reference_span x) (reference_span y), count_both x y, touch_both (reference_span x) (reference_span y)) refl;
  leaf_fits = omega arith;
  node_fits = omega arith;
  leaf_few = omega arith;
  node_few = omega arith;
  keys_small = omega arith;
  leaf_some = omega arith;
  node_some = omega arith;
  size_some = omega arith;
  low_some = omega arith;
}
