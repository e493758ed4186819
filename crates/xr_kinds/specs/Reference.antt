-- Runs of shared and of staged blocks as records.
use Rattle.std.specs.Prelude.{ℕ, ◌+◌, ◌%◌, ◌^◌, ◌++◌, ◌==◌, ◌&&◌, Bool, false, not, nat_lt, nat_le, if◌then◌else◌, List, [], drop}
use Rattle.std.specs.Ordering.{nat_cmp}
use Rattle.byteorder.specs.Endian.{big_bytes, big_number}
use Rattle.xr_kinds.specs.declared.reference.Reference.{Reference}
use Rattle.xr_kinds.specs.declared.span.Span.{Span}
use Rattle.xr_kinds.specs.Form.{Form, if_valid}
use Rattle.xr_kinds.specs.Spans.{span, is_group_run, meet, touch}
use Rattle.xr_base.specs.declared.layout.TheConstants.{REFERENCE_MAGIC}

abbrev pub reference_span : Reference → Span
reference_span r = span r.start r.len

-- the top bit of 32 says that the blocks are staged
abbrev pub first_word : Reference → ℕ
first_word r = if r.staged then r.start + 2 ^ 31 else r.start

-- shared blocks are mapped twice or more
abbrev pub is_good_count : Reference → Bool
is_good_count r = (if r.staged then r.count == 1 else nat_le 2 r.count) && nat_lt r.count (2 ^ 32)

abbrev pub is_reference : Reference → Bool
is_reference r = is_group_run (reference_span r) && is_good_count r

abbrev pub same_count : Reference → Reference → Bool
same_count a b = (if a.staged then b.staged else not b.staged) && (a.count == b.count)

abbrev pub reference_bytes : Reference → List ℕ
reference_bytes r = big_bytes 4 (first_word r) ++ big_bytes 4 r.len ++ big_bytes 4 r.count

-- the record with a first word
abbrev pub reference_of : ℕ → ℕ → ℕ → Reference
reference_of word len count = record { start = word % 2 ^ 31; len = len; count = count; staged = nat_le (2 ^ 31) word }

abbrev pub reference_in : List ℕ → Reference
reference_in bytes = reference_of (big_number 4 bytes) (big_number 4 (drop 4 bytes)) (big_number 4 (drop 8 bytes))

abbrev pub reference_form : Form Reference
reference_form = record {
  magic = REFERENCE_MAGIC;
  long = false;
  size = 12;
  low = 4;
  high = 0;
  leaf_max = 336;
  node_max = 505;
  most = 4294967295;
  is_valid = is_reference;
  order = λ a b. nat_cmp (first_word a) (first_word b);
  key_order = λ r key. nat_cmp (first_word r) (big_number 4 key);
  meet = λ a b. meet (reference_span a) (reference_span b);
  agree = λ a b. not (meet (reference_span a) (reference_span b)) && not (same_count a b && touch (reference_span a) (reference_span b));
  bytes_of = reference_bytes;
  low_of = λ r. big_bytes 4 (first_word r);
  high_of = λ r. [];
  taken = λ bytes. if_valid is_reference (reference_in bytes);
}
