-- Pairs of a block with its owner and the owner's offset: which ones a record says, which some records say together, and what
-- the records of a tree are by their pairs.
use Rattle.std.specs.Prelude.{◌≡◌, ◌↔◌, ℕ, ◌+◌, ◌<◌, ◌≤◌, ◌==◌, ◌&&◌, ◌||◌, Bool, true, if◌then◌else◌, List, length}
use Rattle.std.specs.List.{Contains}
use Rattle.xr_base.specs.declared.geometry.TheConstants.{OWN_COW}
use Rattle.xr_block.specs.Tree.{AreRecords}
use Rattle.xr_kinds.specs.Reverse.{reverse_form, reverse_span}
use Rattle.xr_kinds.specs.Spans.{end_of}
use Rattle.xr_kinds.specs.declared.reverse.Reverse.{Reverse}

-- a record says that the owner has block n at the offset. Staged blocks all have the offset 0.
pub record IsPair (r : Reverse) (owner off n : ℕ) : Type 0 where
  pub same_owner : r.owner ≡ owner
  pub from : r.start ≤ n
  pub below : n < end_of (reverse_span r)
  pub at : (if r.owner == OWN_COW then off == 0 else off + r.start == r.off + n) ≡ true

-- the offset that a record gives to its i-th block
abbrev pub offset_at : Reverse → ℕ → ℕ
offset_at r i = if r.owner == OWN_COW then 0 else r.off + i

-- of some records one says so
abbrev pub HasPairIn : (Reverse → Type 0) → ℕ → ℕ → ℕ → Type 0
HasPairIn records owner off n = (r : Reverse) × records r × IsPair r owner off n

-- the first record ends where the second begins, and its offsets run on to it
abbrev pub leads_to : Reverse → Reverse → Bool
leads_to a b = (end_of (reverse_span a) == b.start) && (a.owner == b.owner) && ((a.owner == OWN_COW) || (a.off + a.len == b.off))

-- the offset with which a record would run on behind its last block, and whether one would run on to it in front of its first
abbrev pub offset_after : Reverse → ℕ
offset_after r = if r.owner == OWN_COW then 0 else r.off + r.len

abbrev pub is_in_front : Reverse → ℕ → Bool
is_in_front r off = if r.owner == OWN_COW then off == 0 else off + 1 == r.off

-- no pair is there by which the record could be longer, on either side
pub record IsMaximal (records : Reverse → Type 0) (r : Reverse) : Type 0 where
  pub front : (off n : ℕ) → n + 1 ≡ r.start → is_in_front r off ≡ true → ¬ (HasPairIn records r.owner off n)
  pub after : ¬ (HasPairIn records r.owner (offset_after r) (end_of (reverse_span r)))

-- so it is of each record of a tree
abbrev pub RecordsAreMaximal : Type 0
RecordsAreMaximal = (records : List Reverse) → AreRecords reverse_form records → (r : Reverse) → Contains records r → IsMaximal (Contains records) r

-- no pair is said by two of them
abbrev pub PairsHaveOneRecord : Type 0
PairsHaveOneRecord =
    (records : List Reverse) → AreRecords reverse_form records → (x y : Reverse) → Contains records x → Contains records y
    → (owner off n : ℕ) → IsPair x owner off n → IsPair y owner off n → x ≡ y

-- they are determined by their pairs
abbrev pub HaveSamePairs : List Reverse → List Reverse → Type 0
HaveSamePairs xs ys = (owner off n : ℕ) → HasPairIn (Contains xs) owner off n ↔ HasPairIn (Contains ys) owner off n

abbrev pub PairsDetermineRecords : Type 0
PairsDetermineRecords =
    (xs ys : List Reverse) → AreRecords reverse_form xs → AreRecords reverse_form ys → HaveSamePairs xs ys → xs ≡ ys

-- and a list that has all their pairs is as long as they are at least
pub record Pair : Type 0 where
  pub owner : ℕ
  pub off : ℕ
  pub block : ℕ

abbrev pub pair : ℕ → ℕ → ℕ → Pair
pair owner off n = record { owner = owner; off = off; block = n }

abbrev pub NoMoreRecordsThanPairs : Type 0
NoMoreRecordsThanPairs =
    (records : List Reverse) → AreRecords reverse_form records → (pairs : List Pair)
    → ((owner off n : ℕ) → HasPairIn (Contains records) owner off n → Contains pairs (pair owner off n)) → length records ≤ length pairs
