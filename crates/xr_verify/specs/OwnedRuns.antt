-- Of no public contract.
-- Runs of one owner by their lines: on a line a block's offset runs on with the block.
use Rattle.std.specs.Prelude.{◌≡◌, ◌⊎◌, ℕ, ◌+◌, ◌-◌, ◌*◌, ◌<◌, ◌≤◌, ◌==◌, if◌then◌else◌, List, length, slice_index, slice_index_or}
use Rattle.std.specs.List.{Any}
use Rattle.xr_base.specs.declared.geometry.TheConstants.{FIRST_INODE, GROUP_BLOCKS, OWN_COW}
use Rattle.xr_verify.specs.declared.ledger_reverse.TheConstants.{LINES}
use Rattle.xr_kinds.specs.declared.reverse.Reverse.{Reverse}
use Rattle.xr_kinds.specs.Reverse.{reverse_span}
use Rattle.xr_kinds.specs.Spans.{end_of}

-- staged blocks have one line. A file has one for each difference of block and offset, which is never 0.
abbrev pub ledger_line : Reverse → ℕ
ledger_line r = if r.owner == OWN_COW then 0 else (r.owner - FIRST_INODE) * GROUP_BLOCKS + (r.start - r.off)

-- for each line the end of its last run, or 0 if it has none
pub record HoldsEnds (ends : List ℕ) (noted : List Reverse) : Type 0 where
  pub long : length ends ≡ LINES
  pub above : (k : ℕ) (d : Reverse) → k < length noted
      → end_of (reverse_span (slice_index_or noted k d)) ≤ slice_index ends (ledger_line (slice_index_or noted k d))
  pub only : (line : ℕ) → (slice_index ends line ≡ 0) ⊎ Any (λ (x : Reverse). (ledger_line x ≡ line) × (end_of (reverse_span x) ≡ slice_index ends line)) noted
