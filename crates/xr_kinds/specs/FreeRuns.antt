-- Runs of free blocks as records, in the order of their blocks and in that of their lengths.
use Rattle.std.specs.Prelude.{ℕ, false, ◌++◌, List, [], drop}
use Rattle.std.specs.Ordering.{nat_cmp, ordering_then}
use Rattle.std.specs.declared.cmp.Ordering.{Ordering}
use Rattle.byteorder.specs.Endian.{big_bytes, big_number}
use Rattle.xr_kinds.specs.declared.free_runs.ByBlock.{ByBlock}
use Rattle.xr_kinds.specs.declared.free_runs.BySize.{BySize}
use Rattle.xr_kinds.specs.declared.span.Span.{Span}
use Rattle.xr_kinds.specs.Form.{Form, if_valid}
use Rattle.xr_kinds.specs.Spans.{span, apart, is_group_run, meet}
use Rattle.xr_base.specs.declared.layout.TheConstants.{BY_BLOCK_MAGIC, BY_SIZE_MAGIC}

-- a run as bytes, and the run in some bytes
abbrev pub span_bytes : Span → List ℕ
span_bytes s = big_bytes 4 s.start ++ big_bytes 4 s.len

abbrev pub span_in : List ℕ → Span
span_in bytes = span (big_number 4 bytes) (big_number 4 (drop 4 bytes))

abbrev pub block_span : ByBlock → Span
block_span r = span r.start r.len

abbrev pub by_block : Span → ByBlock
by_block s = record { start = s.start; len = s.len }

abbrev pub size_span : BySize → Span
size_span r = span r.start r.len

abbrev pub by_size : Span → BySize
by_size s = record { start = s.start; len = s.len }

-- the length goes first
abbrev pub size_order : Span → Span → Ordering
size_order a b = ordering_then (nat_cmp a.len b.len) (nat_cmp a.start b.start)

abbrev pub block_form : Form ByBlock
block_form = record {
  magic = BY_BLOCK_MAGIC;
  long = false;
  size = 8;
  low = 8;
  high = 0;
  leaf_max = 505;
  node_max = 336;
  most = 4294967295;
  is_valid = λ r. is_group_run (block_span r);
  order = λ a b. nat_cmp a.start b.start;
  key_order = λ r key. nat_cmp r.start (span_in key).start;
  meet = λ a b. meet (block_span a) (block_span b);
  agree = λ a b. apart (block_span a) (block_span b);
  bytes_of = λ r. span_bytes (block_span r);
  low_of = λ r. span_bytes (block_span r);
  high_of = λ r. [];
  taken = λ bytes. if_valid (λ r. is_group_run (block_span r)) (by_block (span_in bytes));
}

abbrev pub size_form : Form BySize
size_form = record {
  magic = BY_SIZE_MAGIC;
  long = false;
  size = 8;
  low = 8;
  high = 0;
  leaf_max = 505;
  node_max = 336;
  most = 4294967295;
  is_valid = λ r. is_group_run (size_span r);
  order = λ a b. size_order (size_span a) (size_span b);
  key_order = λ r key. size_order (size_span r) (span_in key);
  meet = λ a b. meet (size_span a) (size_span b);
  agree = λ a b. apart (size_span a) (size_span b);
  bytes_of = λ r. span_bytes (size_span r);
  low_of = λ r. span_bytes (size_span r);
  high_of = λ r. [];
  taken = λ bytes. if_valid (λ r. is_group_run (size_span r)) (by_size (span_in bytes));
}
