-- A group's owners of blocks, in a tree: its records, and which pairs they say.
use Rattle.std.specs.Prelude.{◌↔◌, ◌⊎◌, ℕ, List}
use Rattle.std.specs.List.{Contains}
use Rattle.xr_block.specs.Trees.{IsTree, records_of_tree}
use Rattle.xr_kinds.specs.Reverse.{reverse_form}
use Rattle.xr_kinds.specs.declared.reverse.Reverse.{Reverse}
use Rattle.xr_kinds.specs.declared.span.Span.{Span}
use Rattle.xr_pool.specs.Overlay.{Blocks}
use Rattle.xr_rmap.specs.Pairs.{HasPairIn, IsPair}
use Rattle.xr_rmap.specs.declared.rmap.Rmap.{Rmap}

abbrev pub IsRmap : Blocks → Rmap → Type 0
IsRmap b m = IsTree reverse_form b m.tree

abbrev pub owner_records : Blocks → Rmap → List Reverse
owner_records b m = records_of_tree reverse_form b m.tree

abbrev pub IsOwnerRecord : Blocks → Rmap → Reverse → Type 0
IsOwnerRecord b m r = Contains (owner_records b m) r

abbrev pub HasPair : Blocks → Rmap → ℕ → ℕ → ℕ → Type 0
HasPair b m owner off n = HasPairIn (IsOwnerRecord b m) owner off n

-- a run with its owner and the offset of its first block, as a record
abbrev pub owned_run : Span → ℕ → ℕ → Reverse
owned_run run owner off = record { start = run.start; len = run.len; owner = owner; off = off }

-- none of a record's pairs is there, and all of them are
abbrev pub HasNoneOf : Blocks → Rmap → Reverse → Type 0
HasNoneOf b m r = (owner off n : ℕ) → IsPair r owner off n → ¬ (HasPair b m owner off n)

abbrev pub HasAllOf : Blocks → Rmap → Reverse → Type 0
HasAllOf b m r = (owner off n : ℕ) → IsPair r owner off n → HasPair b m owner off n

-- a record's pairs come to those that are there, and they go from them
abbrev pub GainsPairsOf : Reverse → Blocks → Rmap → Blocks → Rmap → Type 0
GainsPairsOf r before m after new = (owner off n : ℕ) → HasPair after new owner off n ↔ (HasPair before m owner off n ⊎ IsPair r owner off n)

abbrev pub LosesPairsOf : Reverse → Blocks → Rmap → Blocks → Rmap → Type 0
LosesPairsOf r before m after new = (owner off n : ℕ) → HasPair after new owner off n ↔ (HasPair before m owner off n × ¬ (IsPair r owner off n))
