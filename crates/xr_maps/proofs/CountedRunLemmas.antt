-- The search for runs of one count: what it has found before a place, and how it goes on.
use Rattle.std.proofs.Common.{◌≡◌, ℕ, ◌+◌, ◌-◌, ◌<◌, ◌≤◌, List, [], ◌∷◌, ◌++◌, length, map, false, sym, ap, subst, ◌∙◌, arith, rules}
use Rattle.std.specs.Prelude.{All, slice_index}
use Rattle.std.proofs.lemmas.List.{map_push}
use Rattle.std.proofs.lemmas.List.Elements.{All-push}
use Rattle.xr_base.specs.Address.{address_of}
use Rattle.xr_maps.specs.declared.records.Counted.{Counted}
use Rattle.xr_maps.specs.Runs.{Span}
use Rattle.xr_maps.specs.Records.{span_of_run}
use Rattle.xr_maps.specs.Counts.{HasCount, HaveOneCount, IsEqualLen, AreRunsOfCounts, HasRunsOfCounts}
use Rattle.xr_maps.proofs.RunLemmas.{AreRunsBelow, BeginsRun, none_below, runs_push, runs_skip, runs_all}

abbrev pub spans_of : List Counted → List Span
spans_of records = map span_of_run (map (λ r. r.run) records)

pub record AreCountedBelow (first : ℕ) (counts : List ℕ) (P : ℕ → Type 0) (place : ℕ) (records : List Counted) : Type 0 where
  pub runs : AreRunsBelow (HasCount first counts P) (HaveOneCount first counts P) (first + place) (spans_of records)
  pub counted : All (λ r. r.count ≡ slice_index counts (r.run.start.0 - first)) records
  pub unstaged : All (λ r. r.staged ≡ false) records

module _ (first : ℕ) (counts : List ℕ) (P : ℕ → Type 0) where
  equal_at : (place len k : ℕ) → IsEqualLen counts place len → first + place ≤ k → k < first + place + len
      → slice_index counts (k - first) ≡ slice_index counts place
  equal_at place len k h above below =
      let same : place + (k - first - place) ≡ k - first = omega arith in
      ap (slice_index counts) (sym same) ∙ h.equal (k - first - place) (omega arith)

  has_count : (place len k : ℕ) → IsEqualLen counts place len → P (slice_index counts place) → first + place ≤ k → k < first + place + len
      → HasCount first counts P k
  has_count place len k h wanted above below = record {
    above = omega arith;
    below = let w = h.within in omega arith;
    wanted = subst P (sym (equal_at place len k h above below)) wanted;
  }

  run_ends : (place len k : ℕ) → IsEqualLen counts place len → k + 1 ≡ first + place + len → ¬ HaveOneCount first counts P k
  run_ends place len k h last on =
      let some = h.some in
      let next = on.next.below in
      let after : k + 1 - first ≡ place + len = omega arith in
      h.ended (omega arith) (ap (slice_index counts) (sym after) ∙ sym on.alike ∙ equal_at place len k h (omega arith) (omega arith))

  begins_run : (place len : ℕ) → IsEqualLen counts place len → P (slice_index counts place)
      → BeginsRun (HasCount first counts P) (HaveOneCount first counts P) (first + place) len
  begins_run place len h wanted = record {
    some = h.some;
    there = λ k above below. has_count place len k h wanted above below;
    joined = λ k above below. record {
      here = has_count place len k h wanted above (omega arith);
      next = has_count place len (k + 1) h wanted (omega arith) below;
      alike = equal_at place len k h above (omega arith) ∙ sym (equal_at place len (k + 1) h (omega arith) below);
    };
    ended = λ k last. run_ends place len k h last;
  }

  at_sum : (place len : ℕ) (records : List Counted)
      → AreRunsBelow (HasCount first counts P) (HaveOneCount first counts P) (first + place + len) (spans_of records)
      → AreRunsBelow (HasCount first counts P) (HaveOneCount first counts P) (first + (place + len)) (spans_of records)
  at_sum place len records so_far =
      let e : first + place + len ≡ first + (place + len) = omega arith in
      subst (λ n. AreRunsBelow (HasCount first counts P) (HaveOneCount first counts P) n (spans_of records)) e so_far

  -- a run with a count that has P
  pub counted_push : (place len : ℕ) (records : List Counted) → AreCountedBelow first counts P place records
      → IsEqualLen counts place len → P (slice_index counts place)
      → AreCountedBelow first counts P (place + len)
      (records ++ record { run = record { start = address_of (first + place); len = len }; count = slice_index counts place; staged = false } ∷ [])
  counted_push place len records so_far h wanted = record {
    runs = at_sum place len _ (rw (map_push, map_push) (runs_push (first + place) len (spans_of records) so_far.runs (begins_run place len h wanted)));
    counted = All-push (λ r. r.count ≡ slice_index counts (r.run.start.0 - first)) records _ so_far.counted
        (let e : place ≡ first + place - first = omega arith in ap (slice_index counts) e);
    unstaged = All-push (λ r. r.staged ≡ false) records _ so_far.unstaged (search rules);
  }

  -- a run with a count that hasn't
  pub counted_skip : (place len : ℕ) (records : List Counted) → AreCountedBelow first counts P place records
      → IsEqualLen counts place len → ¬ P (slice_index counts place)
      → AreCountedBelow first counts P (place + len) records
  counted_skip place len records so_far h unwanted = record {
    runs = at_sum place len records (runs_skip (first + place) len (spans_of records) so_far.runs (λ k j. j.here)
        (λ k above below there. unwanted (subst P (equal_at place len k h above below) there.wanted)));
    counted = so_far.counted;
    unstaged = so_far.unstaged;
  }

  pub none_counted : AreCountedBelow first counts P 0 []
  none_counted = record {
    runs = none_below (first + 0) (λ k h there. let a = there.above in omega arith) (λ k h j. let a = j.here.above in omega arith);
    counted = search rules;
    unstaged = search rules;
  }

  pub all_counted_runs : (place : ℕ) (records : List Counted) → AreCountedBelow first counts P place records → length counts ≤ place
      → AreRunsOfCounts first counts P records
  all_counted_runs place records so_far end = record {
    runs = runs_all (first + place) (spans_of records) so_far.runs (λ k there. let b = there.below in omega arith);
    counted = so_far.counted;
    unstaged = so_far.unstaged;
  }

-- What is had of each run below a place, and how that goes on.
pub record HasRunsBelow {T : Type 0} (from_counted : Counted → T) (first : ℕ) (counts : List ℕ) (P : ℕ → Type 0) (place : ℕ) (records : List T) : Type 0 where
  pub within : place ≤ length counts
  pub runs : List Counted
  pub are : AreCountedBelow first counts P place runs
  pub each : records ≡ map from_counted runs

module _ {T : Type 0} (from_counted : Counted → T) (first : ℕ) (counts : List ℕ) (P : ℕ → Type 0) where
  pub no_runs : (records : List T) → records ≡ [] → HasRunsBelow from_counted first counts P 0 records
  no_runs records none = record { within = omega arith; runs = []; are = none_counted first counts P; each = none }

  pub one_run_more : (place len : ℕ) (records new : List T) (run : T) → HasRunsBelow from_counted first counts P place records → IsEqualLen counts place len
      → P (slice_index counts place)
      → run ≡ from_counted (record { run = record { start = address_of (first + place); len = len }; count = slice_index counts place; staged = false })
      → new ≡ records ++ run ∷ []
      → HasRunsBelow from_counted first counts P (place + len) new
  one_run_more place len records new run so_far equal wanted is_run is_new =
      let counted : Counted = record { run = record { start = address_of (first + place); len = len }; count = slice_index counts place; staged = false } in
      record {
        within = equal.within;
        runs = so_far.runs ++ counted ∷ [];
        are = counted_push first counts P place len so_far.runs so_far.are equal wanted;
        each = (let e : records ++ run ∷ [] ≡ map from_counted so_far.runs ++ from_counted counted ∷ [] = let h = so_far.each in cc in is_new ∙ e)
            ∙ sym (map_push from_counted so_far.runs counted);
      }

  pub no_run_more : (place len : ℕ) (records : List T) → HasRunsBelow from_counted first counts P place records → IsEqualLen counts place len
      → ¬ P (slice_index counts place) → HasRunsBelow from_counted first counts P (place + len) records
  no_run_more place len records so_far equal unwanted = record {
    within = equal.within;
    runs = so_far.runs;
    are = counted_skip first counts P place len so_far.runs so_far.are equal unwanted;
    each = so_far.each;
  }

  pub all_runs : (place : ℕ) (records : List T) → HasRunsBelow from_counted first counts P place records → length counts ≤ place
      → HasRunsOfCounts from_counted first counts P records
  all_runs place records so_far end = record {
    runs = so_far.runs;
    are = all_counted_runs first counts P place so_far.runs so_far.are end;
    each = so_far.each;
  }
