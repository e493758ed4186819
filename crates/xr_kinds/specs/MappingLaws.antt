-- The laws of the extents of a file's map.
use Rattle.std.proofs.Common.{◌≡◌, ℕ, ◌+◌, ◌*◌, ◌/◌, ◌%◌, ◌^◌, ◌<◌, ◌≤◌, List, length, true, refl, sym, ap, ◌∙◌, arith}
use Rattle.std.proofs.Math.Nat.{div-add-mod', div-eq_of_lt, mod-eq_of_lt, mul-add-div_right, mul-add-mod_self_right}
use Rattle.std.proofs.lemmas.Bool.Decides.{nat_tests}
use Rattle.std.proofs.lemmas.Cmp.{nat_cmp_total, on_total}
use Rattle.std.specs.Ordering.{nat_cmp}
use Rattle.byteorder.specs.Endian.{big_bytes, big_number}
use Rattle.byteorder.specs.Numbers.{length-bytes_high_first}
use Rattle.xr_kinds.specs.declared.mapping.Mapping.{Mapping}
use Rattle.xr_kinds.specs.BigEndianLaws.{bytes_again, reads_alone}
use Rattle.xr_kinds.specs.Form.{IsForm}
use Rattle.xr_base.specs.Fields.{AreBytes}
use Rattle.xr_kinds.specs.FormLaws.{kept_valid, valid_kept}
use Rattle.xr_kinds.specs.Mapping.{is_mapping, mapping_form, mapping_span, packed, unpacked}
use Rattle.xr_kinds.specs.SpanLaws.{meet_both}

-- the two numbers of a sum of two digits
high_digit : (m q r : ℕ) → r < m → (q * m + r) / m ≡ q
high_digit m q r small = mul-add-div_right (omega arith) q r ∙ ap (λ (n : ℕ). q + n) (div-eq_of_lt small) ∙ omega arith

low_digit : (m q r : ℕ) → r < m → (q * m + r) % m ≡ r
low_digit m q r small = mul-add-mod_self_right q m r ∙ mod-eq_of_lt small

make : ℕ → ℕ → ℕ → Mapping
make off at len = record { off = off; at = at; len = len }

-- an extent is read back from its number, for any numbers of lengths and blocks
parts_back : (m n off at len : ℕ) → at < n → len < m
    → make (((off * n + at) * m + len) / m / n) (((off * n + at) * m + len) / m % n) (((off * n + at) * m + len) % m) ≡ make off at len
parts_back m n off at len small_at small_len =
    let high : ((off * n + at) * m + len) / m ≡ off * n + at = high_digit m (off * n + at) len small_len in
    rw (high, high_digit n off at small_at, low_digit n off at small_at, low_digit m (off * n + at) len small_len) refl

-- and a number from its extent
parts_again : (m n word : ℕ) → (word / m / n * n + word / m % n) * m + word % m ≡ word
parts_again m n word = rw (div-add-mod' (word / m) n, div-add-mod' word m) refl

record IsSmall (r : Mapping) : Type 0 where
  off : r.off ≤ 512
  at : r.at < 2 ^ 52
  len : r.len < 2 ^ 21

small : (r : Mapping) → is_mapping r ≡ true → IsSmall r
small r good = record { off = grind (arith, nat_tests); at = grind (arith, nat_tests); len = grind (arith, nat_tests) }

packed_small : (r : Mapping) → IsSmall r → packed r < 256 ^ 16
packed_small r room = omega arith

mapping_back : (r : Mapping) → is_mapping r ≡ true → unpacked (big_number 16 (big_bytes 16 (packed r))) ≡ r
unfolding make
mapping_back r good =
    let room = small r good in
    ap unpacked (reads_alone 16 (packed r) (packed_small r room)) ∙ parts_back (2 ^ 21) (2 ^ 52) r.off r.at r.len room.at room.len

mapping_again : (bytes : List ℕ) → length bytes ≡ 16 → AreBytes bytes → big_bytes 16 (packed (unpacked (big_number 16 bytes))) ≡ bytes
mapping_again bytes long all = ap (big_bytes 16) (parts_again (2 ^ 21) (2 ^ 52) (big_number 16 bytes)) ∙ bytes_again 16 bytes long all

pub is_mapping_form : IsForm mapping_form
is_mapping_form = record {
  total = on_total (λ (r : Mapping). r.off) nat_cmp_total;
  sized = λ x. length-bytes_high_first 16 (packed x);
  low_sized = λ x. length-bytes_high_first 8 x.off;
  high_sized = λ x. refl;
  keys_follow = λ x y good. let room = small y good in ap (nat_cmp x.off) (reads_alone 8 y.off (omega arith));
  takes_back = λ x good. valid_kept is_mapping _ x (mapping_back x good) good;
  takes_only = λ bytes x long all is.
      let kept = kept_valid is_mapping (unpacked (big_number 16 bytes)) x is in (
        kept.0,
        ap (λ (r : Mapping). big_bytes 16 (packed r)) (sym kept.1) ∙ mapping_again bytes long all,
      );
  meets_both = λ x y. meet_both (mapping_span x) (mapping_span y);
  agrees_both = λ x y. rw (meet_both (mapping_span x) (mapping_span y)) (grind (arith, nat_tests));
  leaf_fits = omega arith;
  node_fits = omega arith;
  leaf_few = omega arith;
  node_few = omega arith;
  keys_small = omega arith;
  leaf_some = omega arith;
  node_some = omega arith;
  size_some = omega arith;
  low_some = omega arith;
}
