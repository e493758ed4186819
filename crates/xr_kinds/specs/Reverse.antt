-- Runs of blocks with their owners as records.
use Rattle.std.specs.Prelude.{ℕ, ◌+◌, ◌-◌, ◌++◌, ◌==◌, ◌&&◌, ◌||◌, Bool, false, not, nat_lt, nat_le, if◌then◌else◌, List, drop}
use Rattle.std.specs.Ordering.{nat_cmp, ordering_then}
use Rattle.std.specs.declared.cmp.Ordering.{Ordering}
use Rattle.byteorder.specs.Endian.{big_bytes, big_number}
use Rattle.xr_base.specs.declared.geometry.TheConstants.{FILES, FIRST_INODE, OFFSETS, OWN_COW}
use Rattle.xr_kinds.specs.declared.reverse.Reverse.{Reverse}
use Rattle.xr_kinds.specs.declared.span.Span.{Span}
use Rattle.xr_kinds.specs.Form.{Form, if_valid}
use Rattle.xr_kinds.specs.Spans.{span, apart, is_group_run, meet}
use Rattle.xr_base.specs.declared.layout.TheConstants.{REVERSE_MAGIC}

abbrev pub reverse_span : Reverse → Span
reverse_span r = span r.start r.len

-- one of the files, whose offsets hold the run, or staged blocks, which have no offset
abbrev pub is_good_owner : Reverse → Bool
is_good_owner r =
    if r.owner == OWN_COW then r.off == 0 else nat_le FIRST_INODE r.owner && nat_lt r.owner (FIRST_INODE + FILES) && nat_le (r.off + r.len) OFFSETS

abbrev pub is_reverse : Reverse → Bool
is_reverse r = is_group_run (reverse_span r) && is_good_owner r

-- the block goes first, then the owner
abbrev pub reverse_order : Reverse → ℕ → ℕ → ℕ → Ordering
reverse_order r block owner off = ordering_then (nat_cmp r.start block) (ordering_then (nat_cmp r.owner owner) (nat_cmp r.off off))

-- offsets run on with a file's blocks, and staged blocks all have the offset 0
abbrev pub last_offset : Reverse → ℕ
last_offset r = if r.owner == OWN_COW then 0 else r.off + r.len - 1

-- one owner has both runs, and a block that both held would have one offset
abbrev pub on_one_line : Reverse → Reverse → Bool
on_one_line a b = (a.owner == b.owner) && ((a.owner == OWN_COW) || (a.start + b.off == b.start + a.off))

abbrev pub key_bytes : ℕ → ℕ → ℕ → List ℕ
key_bytes block owner off = big_bytes 4 block ++ big_bytes 8 owner ++ big_bytes 8 off

abbrev pub reverse_bytes : Reverse → List ℕ
reverse_bytes r = big_bytes 4 r.start ++ big_bytes 4 r.len ++ big_bytes 8 r.owner ++ big_bytes 8 r.off

abbrev pub reverse_in : List ℕ → Reverse
reverse_in bytes = record {
  start = big_number 4 bytes;
  len = big_number 4 (drop 4 bytes);
  owner = big_number 8 (drop 8 bytes);
  off = big_number 8 (drop 16 bytes);
}

abbrev pub reverse_form : Form Reverse
reverse_form = record {
  magic = REVERSE_MAGIC;
  long = false;
  size = 24;
  low = 20;
  high = 20;
  leaf_max = 168;
  node_max = 91;
  most = 34304;
  is_valid = is_reverse;
  order = λ a b. reverse_order a b.start b.owner b.off;
  key_order = λ r key. reverse_order r (big_number 4 key) (big_number 8 (drop 4 key)) (big_number 8 (drop 12 key));
  meet = λ a b. meet (reverse_span a) (reverse_span b);
  agree = λ a b. not (on_one_line a b) || apart (reverse_span a) (reverse_span b);
  bytes_of = reverse_bytes;
  low_of = λ r. key_bytes r.start r.owner r.off;
  high_of = λ r. key_bytes (r.start + r.len - 1) r.owner (last_offset r);
  taken = λ bytes. if_valid is_reverse (reverse_in bytes);
}
