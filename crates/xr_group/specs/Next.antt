-- The next record of a tree of a group, by addresses of the image: the first after one that is given, or the first of all.
use Rattle.std.specs.Prelude.{◌≡◌, ◌⊎◌, ⊤, ℕ, ◌<◌, true, false, Option, Some, None, List, map}
use Rattle.std.specs.List.{Contains}
use Rattle.std.specs.Option.{MatchOption}
use Rattle.xr_base.specs.declared.address.Run.{Run}
use Rattle.xr_group.specs.Group.{GroupState, records_now}
use Rattle.xr_group.specs.Sets.{run_at}
use Rattle.xr_kinds.specs.FreeRuns.{block_span, size_span}
use Rattle.xr_kinds.specs.Reference.{reference_span}
use Rattle.xr_kinds.specs.Reverse.{reverse_span}
use Rattle.xr_kinds.specs.declared.free_runs.ByBlock.{ByBlock}
use Rattle.xr_kinds.specs.declared.free_runs.BySize.{BySize}
use Rattle.xr_kinds.specs.declared.reference.Reference.{Reference}
use Rattle.xr_kinds.specs.declared.reverse.Reverse.{Reverse}
use Rattle.xr_maps.specs.declared.records.Counted.{Counted}
use Rattle.xr_maps.specs.declared.records.Rev.{Rev}

-- the records of the trees by addresses
abbrev pub free_run_at : ℕ → ByBlock → Run
free_run_at number r = run_at number (block_span r)

abbrev pub sized_run_at : ℕ → BySize → Run
sized_run_at number r = run_at number (size_span r)

abbrev pub rev_at : ℕ → Reverse → Rev
rev_at number r = record { run = run_at number (reverse_span r); owner = r.owner; off = r.off }

abbrev pub counted_at : ℕ → Reference → Counted
counted_at number r = record { run = run_at number (reference_span r); count = r.count; staged = r.staged }

abbrev pub frees_now : GroupState → List Run
frees_now g = map (free_run_at g.number) (records_now g).by_block

abbrev pub sizes_now : GroupState → List Run
sizes_now g = map (sized_run_at g.number) (records_now g).by_size

abbrev pub revs_now : GroupState → List Rev
revs_now g = map (rev_at g.number) (records_now g).reverse

abbrev pub counteds_now : GroupState → List Counted
counteds_now g = map (counted_at g.number) (records_now g).reference

-- the orders: free runs by block, and by length and then block; counts by block, and staged blocks behind all others. That of owners
-- is the one of the records that are defined from the file maps.
abbrev pub StartsBefore : Run → Run → Type 0
StartsBefore r s = r.start.0 < s.start.0

abbrev pub IsShorter : Run → Run → Type 0
IsShorter r s = (r.len < s.len) ⊎ (r.len ≡ s.len) × (r.start.0 < s.start.0)

abbrev pub IsCountedBefore : Counted → Counted → Type 0
IsCountedBefore r s = ((r.staged ≡ false) × (s.staged ≡ true)) ⊎ (r.staged ≡ s.staged) × (r.run.start.0 < s.run.start.0)

-- a record comes after another, if that is given
abbrev pub ComesAfter : {X : Type 0} → (X → X → Type 0) → Option X → X → Type 0
ComesAfter Before None r = ⊤
ComesAfter Before (Some a) r = Before a r

-- of some records the first after another, and none where there is none
pub record IsFirstAfter {X : Type 0} (Before : X → X → Type 0) (records : List X) (after : Option X) (r : X) : Type 0 where
  pub held : Contains records r
  pub follows : ComesAfter Before after r
  pub first : (x : X) → Contains records x → ComesAfter Before after x → ¬ (Before x r)

abbrev pub IsNextOf : {X : Type 0} → (X → X → Type 0) → List X → Option X → Option X → Type 0
IsNextOf {X} Before records after result =
    MatchOption result ((x : X) → Contains records x → ¬ (ComesAfter Before after x)) (λ r. IsFirstAfter Before records after r)
