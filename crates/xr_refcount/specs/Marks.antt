-- Of no public contract. What the two private changes of a run do: take it out of its record, and put it in as a record.
use Rattle.std.specs.Prelude.{◌≡◌, ◌⊎◌, ℕ, ◌≤◌, ◌&&◌, Bool, true, false, if◌then◌else◌, List, IfSome, Option, Some}
use Rattle.std.specs.List.{Contains}
use Rattle.xr_kinds.specs.Reference.{is_reference, reference_form, reference_span, same_count}
use Rattle.xr_kinds.specs.Spans.{IsIn, end_of, meet, touch}
use Rattle.xr_kinds.specs.declared.reference.Reference.{Reference}
use Rattle.xr_kinds.specs.declared.span.Span.{Span}
use Rattle.xr_refcount.specs.Counts.{count_at, is_in_run, is_staged_at}

-- the blocks of a run have this count and are of this kind now, and all others are as before
pub record SetsRun (before : List Reference) (run : Span) (count : ℕ) (staged : Bool) (after : List Reference) : Type 0 where
  pub counts : (n : ℕ) → count_at after n ≡ (if is_in_run run n then count else count_at before n)
  pub kinds : (n : ℕ) → is_staged_at after n ≡ (if is_in_run run n then staged else is_staged_at before n)

abbrev pub MeetsNone : List Reference → Span → Type 0
MeetsNone records run = (x : Reference) → Contains records x → meet (reference_span x) run ≡ false

-- of the records that meet a run the one with the lowest start
pub record IsFirstMeeting (records : List Reference) (run : Span) (r : Reference) : Type 0 where
  pub held : Contains records r
  pub meets : meet (reference_span r) run ≡ true
  pub first : (x : Reference) → Contains records x → meet (reference_span x) run ≡ true → r.start ≤ x.start

-- a run has a block, and a record holds all of it
pub record IsHeldRun (records : List Reference) (r : Reference) (run : Span) : Type 0 where
  pub held : Contains records r
  pub some : 1 ≤ run.len
  pub from : r.start ≤ run.start
  pub until : end_of run ≤ end_of (reference_span r)

-- what touches a run has this count
abbrev pub TouchesOnly : List Reference → Span → ℕ → Type 0
TouchesOnly records run count = (x : Reference) → Contains records x → touch (reference_span x) run ≡ true → x.count ≡ count

-- two records would be one
abbrev pub joins : Reference → Reference → Bool
joins a b = same_count a b && touch (reference_span a) (reference_span b)

-- the record that holds a block has the count and the kind of another, or doesn't
abbrev pub IsAlikeAt : List Reference → ℕ → Reference → Reference → Type 0
IsAlikeAt records block new x = Contains records x × IsIn (reference_span x) block × (same_count x new ≡ true)

abbrev pub NoneAlikeAt : List Reference → ℕ → Reference → Type 0
NoneAlikeAt records block new = (x : Reference) → Contains records x → IsIn (reference_span x) block → same_count x new ≡ false

-- the record in front of a new one is one with it, or none there is; and the one behind
abbrev pub IsInFront : List Reference → Reference → Reference → Type 0
IsInFront records new x = Contains records x × (joins x new ≡ true) × (end_of (reference_span x) ≡ new.start)

abbrev pub NoneInFront : List Reference → Reference → Type 0
NoneInFront records new = (x : Reference) → Contains records x → joins x new ≡ true → new.start ≤ x.start

abbrev pub IsBehind : List Reference → Reference → Reference → Type 0
IsBehind records new x = Contains records x × (joins x new ≡ true) × (x.start ≡ end_of (reference_span new))

abbrev pub NoneBehind : List Reference → Reference → Type 0
NoneBehind records new = (x : Reference) → Contains records x → joins x new ≡ true → x.start ≤ new.start

-- a record that may come into the tree, alone or as one with another that it touches
pub record MayMerge (records : List Reference) (r : Reference) (beside : Option Reference) : Type 0 where
  pub good : is_reference r ≡ true
  pub held : IfSome beside (λ x. Contains records x × (joins x r ≡ true))
  pub fits : MeetsNone records (reference_span r)
  pub only : (x : Reference) → Contains records x → (beside ≡ Some x) ⊎ (reference_form.agree x r ≡ true)

abbrev pub shared_run : Span → ℕ → Reference
shared_run run count = record { start = run.start; len = run.len; count = count; staged = false }
