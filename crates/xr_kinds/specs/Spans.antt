-- Runs of numbers, by the first one and how many they are: which numbers they hold, and how two of them lie.
use Rattle.std.specs.Prelude.{ℕ, ◌+◌, ◌<◌, ◌≤◌, ◌==◌, ◌&&◌, ◌||◌, Bool, nat_lt, nat_le, max, min}
use Rattle.xr_base.specs.declared.geometry.TheConstants.{FIRST_DATA_BLOCK, GROUP_BLOCKS}
use Rattle.xr_kinds.specs.declared.span.Span.{Span}

abbrev pub span : ℕ → ℕ → Span
span start len = record { start = start; len = len }

-- the first number after a run
abbrev pub end_of : Span → ℕ
end_of s = s.start + s.len

pub record IsIn (s : Span) (n : ℕ) : Type 0 where
  pub from : s.start ≤ n
  pub below : n < end_of s

-- the two have a number in common
abbrev pub meet : Span → Span → Bool
meet a b = nat_lt (max a.start b.start) (min (end_of a) (end_of b))

-- one ends before the other begins, with a number between them
abbrev pub apart : Span → Span → Bool
apart a b = nat_lt (end_of a) b.start || nat_lt (end_of b) a.start

-- one ends where the other begins
abbrev pub touch : Span → Span → Bool
touch a b = (end_of a == b.start) || (end_of b == a.start)

-- some data blocks of a group, by their numbers in the group
abbrev pub is_group_run : Span → Bool
is_group_run s = nat_le FIRST_DATA_BLOCK s.start && nat_lt 0 s.len && nat_le (end_of s) GROUP_BLOCKS
