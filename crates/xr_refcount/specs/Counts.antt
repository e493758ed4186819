-- How many own each block of a group, and which blocks are staged, as functions of reference records.
use Rattle.std.specs.Prelude.{◌≡◌, ◌⊎◌, ℕ, ◌&&◌, Bool, false, not, nat_le, nat_lt, if◌then◌else◌, List, [], ◌∷◌}
use Rattle.std.specs.List.{Contains, list_any}
use Rattle.xr_block.specs.Tree.{AreRecords}
use Rattle.xr_kinds.specs.Reference.{reference_form, reference_span}
use Rattle.xr_kinds.specs.Spans.{IsIn, end_of}
use Rattle.xr_kinds.specs.declared.reference.Reference.{Reference}
use Rattle.xr_kinds.specs.declared.span.Span.{Span}

-- a block is one of a run
abbrev pub is_in_run : Span → ℕ → Bool
is_in_run run n = nat_le run.start n && nat_lt n (end_of run)

-- how many own a block: the count of the record that holds it, where that is no staged one, and 1 where there is none
unfoldable pub count_at : List Reference → ℕ → ℕ
count_at [] n = 1
count_at (r ∷ rs) n = if not r.staged && is_in_run (reference_span r) n then r.count else count_at rs n

abbrev pub is_staged_at : List Reference → ℕ → Bool
is_staged_at records n = list_any (λ (r : Reference). r.staged && is_in_run (reference_span r) n) records

-- a block has this count, and is staged or isn't
pub record IsCountedAs (records : List Reference) (n count : ℕ) (staged : Bool) : Type 0 where
  pub owners : count_at records n ≡ count
  pub kind : is_staged_at records n ≡ staged

-- so has each block of a run
abbrev pub AreCountedAs : List Reference → Span → ℕ → Bool → Type 0
AreCountedAs records run count staged = (n : ℕ) → IsIn run n → IsCountedAs records n count staged

-- each has as many owners as the first, and none is staged
abbrev pub AreOwnedAlike : List Reference → Span → Type 0
AreOwnedAlike records run = AreCountedAs records run (count_at records run.start) false

-- no record holds a block
abbrev pub IsUnrecorded : List Reference → ℕ → Type 0
IsUnrecorded records n = (r : Reference) → Contains records r → ¬ (IsIn (reference_span r) n)

-- of the records of a tree one at most holds a block. It tells count and kind, and a block of none has the count 1 and isn't staged
pub record AreCountsOfRecords (records : List Reference) : Type 0 where
  pub alone : (r s : Reference) (n : ℕ) → Contains records r → Contains records s → IsIn (reference_span r) n → IsIn (reference_span s) n → r ≡ s
  pub told : (r : Reference) (n : ℕ) → Contains records r → IsIn (reference_span r) n → IsCountedAs records n r.count r.staged
  pub untold : (n : ℕ) → IsUnrecorded records n → IsCountedAs records n 1 false
  pub known : (n : ℕ) → ((r : Reference) × Contains records r × IsIn (reference_span r) n) ⊎ IsUnrecorded records n
  pub plain : (n : ℕ) → IsCountedAs records n 1 false → IsUnrecorded records n

abbrev pub CountsAreOfRecords : Type 0
CountsAreOfRecords = (records : List Reference) → AreRecords reference_form records → AreCountsOfRecords records

-- the same counts and the same staged blocks
pub record HaveSameCounts (xs ys : List Reference) : Type 0 where
  pub counts : (n : ℕ) → count_at xs n ≡ count_at ys n
  pub staged : (n : ℕ) → is_staged_at xs n ≡ is_staged_at ys n

abbrev pub CountsDetermineRecords : Type 0
CountsDetermineRecords =
    (xs ys : List Reference) → AreRecords reference_form xs → AreRecords reference_form ys → HaveSameCounts xs ys → xs ≡ ys
