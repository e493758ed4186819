-- The laws of the two orders of free runs.
use Rattle.std.proofs.Common.{◌≡◌, ℕ, List, length, drop, true, refl, sym, ap, ◌∙◌, arith}
use Rattle.std.proofs.lemmas.Cmp.{nat_cmp_total, on_total, then_total}
use Rattle.std.proofs.lemmas.List.{length-append, length-drop}
use Rattle.std.specs.Ordering.{nat_cmp}
use Rattle.byteorder.specs.Endian.{big_bytes, big_number}
use Rattle.byteorder.specs.Numbers.{big_number-reads_back, length-bytes_high_first}
use Rattle.xr_kinds.specs.declared.free_runs.ByBlock.{ByBlock}
use Rattle.xr_kinds.specs.declared.free_runs.BySize.{BySize}
use Rattle.xr_kinds.specs.declared.span.Span.{Span}
use Rattle.xr_kinds.specs.BigEndianLaws.{bytes_again, drop-bytes, dropped_bytes, field_again, reads_alone}
use Rattle.xr_kinds.specs.Form.{IsForm}
use Rattle.xr_base.specs.Fields.{AreBytes}
use Rattle.xr_kinds.specs.FormLaws.{kept_valid, valid_kept}
use Rattle.xr_kinds.specs.FreeRuns.{block_form, block_span, by_block, by_size, size_form, size_order, size_span, span_bytes, span_in}
use Rattle.xr_kinds.specs.SpanLaws.{apart_both, group_run, meet_both}
use Rattle.xr_kinds.specs.Spans.{is_group_run, span}

pub length-span_bytes : (s : Span) → length (span_bytes s) ≡ 8
length-span_bytes s =
    omega (arith, length-append (big_bytes 4 s.start) (big_bytes 4 s.len), length-bytes_high_first 4 s.start, length-bytes_high_first 4 s.len)

-- a run of data blocks is read back from its bytes
pub span_back : (s : Span) → is_group_run s ≡ true → span_in (span_bytes s) ≡ span s.start s.len
span_back s good =
    let within = group_run s good in
    let start : big_number 4 (span_bytes s) ≡ s.start = big_number-reads_back 4 s.start (big_bytes 4 s.len) (omega arith) in
    let len : big_number 4 (drop 4 (span_bytes s)) ≡ s.len =
    ap (big_number 4) (drop-bytes 4 s.start (big_bytes 4 s.len)) ∙ reads_alone 4 s.len (omega arith) in
    rw (start, len) refl

-- the run in some bytes has these bytes
pub span_again : (bytes : List ℕ) → length bytes ≡ 8 → AreBytes bytes → span_bytes (span_in bytes) ≡ bytes
span_again bytes long all =
    field_again 4 bytes _ (omega arith) all (bytes_again 4 (drop 4 bytes) (omega (arith, length-drop 4 bytes)) (dropped_bytes 4 bytes all))

pub is_block_form : IsForm block_form
is_block_form = record {
  total = on_total (λ (r : ByBlock). r.start) nat_cmp_total;
  sized = λ x. length-span_bytes (block_span x);
  low_sized = λ x. length-span_bytes (block_span x);
  high_sized = λ x. refl;
  keys_follow = λ x y good. ap (λ (s : Span). nat_cmp x.start s.start) (span_back (block_span y) good);
  takes_back = λ x good. valid_kept (λ (r : ByBlock). is_group_run (block_span r)) _ x (ap by_block (span_back (block_span x) good)) good;
  takes_only = λ bytes x long all is.
      let kept = kept_valid (λ (r : ByBlock). is_group_run (block_span r)) (by_block (span_in bytes)) x is in (
        kept.0,
        ap (λ (r : ByBlock). span_bytes (block_span r)) (sym kept.1) ∙ span_again bytes long all,
      );
  meets_both = λ x y. meet_both (block_span x) (block_span y);
  agrees_both = λ x y. apart_both (block_span x) (block_span y);
  leaf_fits = omega arith;
  node_fits = omega arith;
  leaf_few = omega arith;
  node_few = omega arith;
  keys_small = omega arith;
  leaf_some = omega arith;
  node_some = omega arith;
  size_some = omega arith;
  low_some = omega arith;
}

pub is_size_form : IsForm size_form
is_size_form = record {
  total = then_total (on_total (λ (r : BySize). r.len) nat_cmp_total) (on_total (λ (r : BySize). r.start) nat_cmp_total);
  sized = λ x. length-span_bytes (size_span x);
  low_sized = λ x. length-span_bytes (size_span x);
  high_sized = λ x. refl;
  keys_follow = λ x y good. ap (size_order (size_span x)) (span_back (size_span y) good);
  takes_back = λ x good. valid_kept (λ (r : BySize). is_group_run (size_span r)) _ x (ap by_size (span_back (size_span x) good)) good;
  takes_only = λ bytes x long all is.
      let kept = kept_valid (λ (r : BySize). is_group_run (size_span r)) (by_size (span_in bytes)) x is in (
        kept.0,
        ap (λ (r : BySize). span_bytes (size_span r)) (sym kept.1) ∙ span_again bytes long all,
      );
  meets_both = λ x y. meet_both (size_span x) (size_span y);
  agrees_both = λ x y. apart_both (size_span x) (size_span y);
  leaf_fits = omega arith;
  node_fits = omega arith;
  leaf_few = omega arith;
  node_few = omega arith;
  keys_small = omega arith;
  leaf_some = omega arith;
  node_some = omega arith;
  size_some = omega arith;
  low_some = omega arith;
}
