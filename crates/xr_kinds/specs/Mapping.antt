-- The extents of a file's map as records.
use Rattle.std.specs.Prelude.{ℕ, ◌+◌, ◌*◌, ◌/◌, ◌%◌, ◌^◌, ◌==◌, ◌&&◌, Bool, true, not, nat_lt, nat_le, []}
use Rattle.std.specs.Ordering.{nat_cmp}
use Rattle.byteorder.specs.Endian.{big_bytes, big_number}
use Rattle.xr_base.specs.declared.geometry.TheConstants.{FIRST_DATA_BLOCK, GROUP_BLOCKS, GROUPS, OFFSETS}
use Rattle.xr_kinds.specs.declared.mapping.Mapping.{Mapping}
use Rattle.xr_kinds.specs.declared.span.Span.{Span}
use Rattle.xr_kinds.specs.Form.{Form, if_valid}
use Rattle.xr_kinds.specs.Spans.{span, end_of, meet}
use Rattle.xr_base.specs.declared.layout.TheConstants.{MAPPING_MAGIC}

-- the offsets of an extent
abbrev pub mapping_span : Mapping → Span
mapping_span r = span r.off r.len

-- its blocks are data blocks of one group
abbrev pub is_data_run : Mapping → Bool
is_data_run r =
    nat_lt (r.at / GROUP_BLOCKS) GROUPS && nat_le FIRST_DATA_BLOCK (r.at % GROUP_BLOCKS) && nat_lt 0 r.len && nat_le (r.at % GROUP_BLOCKS + r.len) GROUP_BLOCKS

abbrev pub is_mapping : Mapping → Bool
is_mapping r = nat_le (end_of (mapping_span r)) OFFSETS && is_data_run r

-- from the lowest bit on: 21 bits of length, 52 of the block, 54 of the offset, and a clear one
abbrev pub packed : Mapping → ℕ
packed r = (r.off * 2 ^ 52 + r.at) * 2 ^ 21 + r.len

abbrev pub unpacked : ℕ → Mapping
unpacked word = record { off = word / 2 ^ 21 / 2 ^ 52; at = word / 2 ^ 21 % 2 ^ 52; len = word % 2 ^ 21 }

-- the second begins, in the file and on the disk, where the first ends
abbrev pub runs_on : Mapping → Mapping → Bool
runs_on a b = (a.off + a.len == b.off) && (a.at + a.len == b.at)

abbrev pub mapping_form : Form Mapping
mapping_form = record {
  magic = MAPPING_MAGIC;
  long = true;
  size = 16;
  low = 8;
  high = 0;
  leaf_max = 251;
  node_max = 251;
  most = 4294967295;
  is_valid = is_mapping;
  order = λ a b. nat_cmp a.off b.off;
  key_order = λ r key. nat_cmp r.off (big_number 8 key);
  meet = λ a b. meet (mapping_span a) (mapping_span b);
  agree = λ a b. not (meet (mapping_span a) (mapping_span b)) && not (runs_on a b) && not (runs_on b a);
  bytes_of = λ r. big_bytes 16 (packed r);
  low_of = λ r. big_bytes 8 r.off;
  high_of = λ r. [];
  taken = λ bytes. if_valid is_mapping (unpacked (big_number 16 bytes));
}
