-- The laws of records of owners.
use Rattle.std.proofs.Common.{◌≡◌, ℕ, ◌+◌, ◌-◌, ◌^◌, ◌<◌, ◌++◌, List, length, drop, true, refl, sym, ap, ◌∙◌, arith}
use Rattle.std.proofs.lemmas.Bool.{and_parts}
use Rattle.std.proofs.lemmas.Bool.Decides.{nat_tests}
use Rattle.std.proofs.lemmas.Cmp.{nat_cmp_total, on_total, then_total}
use Rattle.std.proofs.lemmas.List.{drop-drop, length-append, length-drop}
use Rattle.byteorder.specs.Endian.{big_bytes, big_number}
use Rattle.byteorder.specs.Numbers.{big_number-reads_back, length-bytes_high_first}
use Rattle.xr_kinds.specs.declared.reverse.Reverse.{Reverse}
use Rattle.xr_kinds.specs.BigEndianLaws.{bytes_again, drop-bytes, dropped_bytes, field_again, reads_alone}
use Rattle.xr_kinds.specs.Form.{IsForm}
use Rattle.xr_base.specs.Fields.{AreBytes}
use Rattle.xr_kinds.specs.FormLaws.{kept_valid, valid_kept}
use Rattle.xr_kinds.specs.Reverse.{is_good_owner, is_reverse, key_bytes, last_offset, on_one_line, reverse_bytes, reverse_form, reverse_in, reverse_order, reverse_span}
use Rattle.xr_kinds.specs.SpanLaws.{apart_both, group_run, meet_both}

length-key_bytes : (block owner off : ℕ) → length (key_bytes block owner off) ≡ 20
length-key_bytes block owner off =
    omega (arith, length-append (big_bytes 4 block) (big_bytes 8 owner ++ big_bytes 8 off), length-append (big_bytes 8 owner) (big_bytes 8 off), length-bytes_high_first 4 block, length-bytes_high_first 8 owner, length-bytes_high_first 8 off)

length-reverse_bytes : (r : Reverse) → length (reverse_bytes r) ≡ 24
length-reverse_bytes r =
    omega (arith, length-append (big_bytes 4 r.start) (key_bytes r.len r.owner r.off), length-bytes_high_first 4 r.start, length-key_bytes r.len r.owner r.off)

-- the numbers of a valid record have room in their fields
record IsSmall (r : Reverse) : Type 0 where
  start : r.start < 2 ^ 32
  len : r.len < 2 ^ 32
  owner : r.owner < 2 ^ 64
  off : r.off < 2 ^ 64

small_owner : (r : Reverse) → is_good_owner r ≡ true → (r.owner < 2 ^ 64) × (r.off < 2 ^ 64)
small_owner r good = grind (arith, nat_tests)

small : (r : Reverse) → is_reverse r ≡ true → IsSmall r
small r good =
    let parts = and_parts _ _ good in
    let run = group_run (reverse_span r) parts.0 in
    let owner = small_owner r parts.1 in
    record { start = omega arith; len = omega arith; owner = owner.0; off = owner.1 }

-- a key is read back from its bytes
key_back : (x y : Reverse) → is_reverse y ≡ true
    → (let key = key_bytes y.start y.owner y.off in reverse_order x (big_number 4 key) (big_number 8 (drop 4 key)) (big_number 8 (drop 12 key)))
    ≡ reverse_order x y.start y.owner y.off
key_back x y good =
    let room = small y good in
    let key : List ℕ = key_bytes y.start y.owner y.off in
    let rest : drop 4 key ≡ big_bytes 8 y.owner ++ big_bytes 8 y.off = drop-bytes 4 y.start (big_bytes 8 y.owner ++ big_bytes 8 y.off) in
    let last : drop 12 key ≡ big_bytes 8 y.off = sym (drop-drop 8 4 key) ∙ ap (drop 8) rest ∙ drop-bytes 8 y.owner (big_bytes 8 y.off) in
    let start : big_number 4 key ≡ y.start = big_number-reads_back 4 y.start (big_bytes 8 y.owner ++ big_bytes 8 y.off) room.start in
    let owner : big_number 8 (drop 4 key) ≡ y.owner = ap (big_number 8) rest ∙ big_number-reads_back 8 y.owner (big_bytes 8 y.off) room.owner in
    let off : big_number 8 (drop 12 key) ≡ y.off = ap (big_number 8) last ∙ reads_alone 8 y.off room.off in
    rw (start, owner, off) refl

reverse_back : (r : Reverse) → is_reverse r ≡ true → reverse_in (reverse_bytes r) ≡ r
reverse_back r good =
    let room = small r good in
    let bytes : List ℕ = reverse_bytes r in
    let behind_len : List ℕ = big_bytes 8 r.owner ++ big_bytes 8 r.off in
    let first : drop 4 bytes ≡ big_bytes 4 r.len ++ behind_len = drop-bytes 4 r.start (big_bytes 4 r.len ++ behind_len) in
    let second : drop 8 bytes ≡ behind_len = sym (drop-drop 4 4 bytes) ∙ ap (drop 4) first ∙ drop-bytes 4 r.len behind_len in
    let third : drop 16 bytes ≡ big_bytes 8 r.off = sym (drop-drop 8 8 bytes) ∙ ap (drop 8) second ∙ drop-bytes 8 r.owner (big_bytes 8 r.off) in
    let start : big_number 4 bytes ≡ r.start = big_number-reads_back 4 r.start (big_bytes 4 r.len ++ behind_len) room.start in
    let len : big_number 4 (drop 4 bytes) ≡ r.len = ap (big_number 4) first ∙ big_number-reads_back 4 r.len behind_len room.len in
    let owner : big_number 8 (drop 8 bytes) ≡ r.owner = ap (big_number 8) second ∙ big_number-reads_back 8 r.owner (big_bytes 8 r.off) room.owner in
    let off : big_number 8 (drop 16 bytes) ≡ r.off = ap (big_number 8) third ∙ reads_alone 8 r.off room.off in
    rw (start, len, owner, off) refl

reverse_again : (bytes : List ℕ) → length bytes ≡ 24 → AreBytes bytes → reverse_bytes (reverse_in bytes) ≡ bytes
reverse_again bytes long all =
    let off = bytes_again 8 (drop 16 bytes) (omega (arith, length-drop 16 bytes)) (dropped_bytes 16 bytes all) in
    let owner = field_again 8 (drop 8 bytes) _ (omega (arith, length-drop 8 bytes)) (dropped_bytes 8 bytes all) (off ∙ sym (drop-drop 8 8 bytes)) in
    let len = field_again 4 (drop 4 bytes) _ (omega (arith, length-drop 4 bytes)) (dropped_bytes 4 bytes all) (owner ∙ sym (drop-drop 4 4 bytes)) in
    field_again 4 bytes _ (omega arith) all len

line_both : (a b : Reverse) → on_one_line a b ≡ on_one_line b a
line_both a b = grind (arith, nat_tests)

pub is_reverse_form : IsForm reverse_form
is_reverse_form = record {
  total = then_total (on_total (λ (r : Reverse). r.start) nat_cmp_total)
      (then_total (on_total (λ (r : Reverse). r.owner) nat_cmp_total) (on_total (λ (r : Reverse). r.off) nat_cmp_total));
  sized = length-reverse_bytes;
  low_sized = λ x. length-key_bytes x.start x.owner x.off;
  high_sized = λ x. length-key_bytes (x.start + x.len - 1) x.owner (last_offset x);
  keys_follow = key_back;
  takes_back = λ x good. valid_kept is_reverse _ x (reverse_back x good) good;
  takes_only = λ bytes x long all is.
      let kept = kept_valid is_reverse (reverse_in bytes) x is in (kept.0, ap reverse_bytes (sym kept.1) ∙ reverse_again bytes long all);
  meets_both = λ x y. meet_both (reverse_span x) (reverse_span y);
  agrees_both = λ x y. rw (line_both x y, apart_both (reverse_span x) (reverse_span y)) refl;
  leaf_fits = omega arith;
  node_fits = omega arith;
  leaf_few = omega arith;
  node_few = omega arith;
  keys_small = omega arith;
  leaf_some = omega arith;
  node_some = omega arith;
  size_some = omega arith;
  low_some = omega arith;
}
