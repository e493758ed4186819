-- The runs of counts of a group are those of its blocks' numbers of owners.
use Rattle.std.proofs.Common.{◌≡◌, ℕ, ◌+◌, ◌-◌, ◌<◌, ◌≤◌, List, length, map, get_or, sym, ap, subst, ◌∙◌, arith}
use Rattle.std.specs.Prelude.{slice_index}
use Rattle.std.proofs.lemmas.List.{get_or-map, length-map, map-id}
use Rattle.xr_base.specs.Address.{address_of}
use Rattle.xr_base.specs.declared.geometry.TheConstants.{GROUPS, DATA_BLOCKS}
use Rattle.xr_base.specs.declared.address.Run.{Run}
use Rattle.xr_maps.specs.declared.records.Counted.{Counted}
use Rattle.xr_maps.specs.FileMaps.{FileMaps}
use Rattle.xr_maps.specs.Records.{owner_count, span_of_run, IsCounted, AreCountedAlike, AreCountedRuns, AreReferenceRecords, AreFreeRecords}
use Rattle.xr_maps.specs.Counts.{AreOwnerCounts, HasCount, HaveOneCount, AreRunsOfCounts, HasRunsOfCounts, first_data_of}
use Rattle.xr_maps.specs.Runs.{IsLongestRun}
use Rattle.xr_maps.proofs.RunLemmas.{runs_same}

module _ (maps : FileMaps) (group : ℕ) (counts : List ℕ) (P : ℕ → Type 0) where
  count_at : AreOwnerCounts maps group counts → (k : ℕ) → first_data_of group ≤ k → k < first_data_of group + DATA_BLOCKS
      → slice_index counts (k - first_data_of group) ≡ owner_count maps (address_of k)
  count_at known k above below =
      let same : first_data_of group + (k - first_data_of group) ≡ k = omega arith in
      known.each (k - first_data_of group) (omega arith) ∙ ap (λ n. owner_count maps (address_of n)) same

  counted_from : group < GROUPS → AreOwnerCounts maps group counts → (k : ℕ) → HasCount (first_data_of group) counts P k → IsCounted maps group P k
  counted_from there known k h =
      let above = h.above in
      let below : k < first_data_of group + DATA_BLOCKS = let b = h.below in let l = known.blocks in omega arith in
      record {
        is_data = record { group = omega arith; block = omega arith };
        in_group = omega arith;
        wanted = subst P (count_at known k above below) h.wanted;
      }

  has_from : AreOwnerCounts maps group counts → (k : ℕ) → IsCounted maps group P k → HasCount (first_data_of group) counts P k
  has_from known k h =
      let g = h.in_group in
      let b = h.is_data.block in
      let l = known.blocks in
      let above : first_data_of group ≤ k = omega arith in
      let below : k < first_data_of group + DATA_BLOCKS = omega arith in
      record {
        above = above;
        below = omega arith;
        wanted = subst P (sym (count_at known k above below)) h.wanted;
      }

  alike_from : group < GROUPS → AreOwnerCounts maps group counts → (k : ℕ) → HaveOneCount (first_data_of group) counts P k → AreCountedAlike maps group P k
  alike_from there known k h =
      let l = known.blocks in
      record {
        here = counted_from there known k h.here;
        next = counted_from there known (k + 1) h.next;
        alike = sym (count_at known k h.here.above (let b = h.here.below in omega arith)) ∙ h.alike ∙ count_at known (k + 1) h.next.above (let b = h.next.below in omega arith);
      }

  one_count_from : AreOwnerCounts maps group counts → (k : ℕ) → AreCountedAlike maps group P k → HaveOneCount (first_data_of group) counts P k
  one_count_from known k h =
      let here = has_from known k h.here in
      let next = has_from known (k + 1) h.next in
      let l = known.blocks in
      record {
        here = here;
        next = next;
        alike = count_at known k here.above (let b = here.below in omega arith) ∙ h.alike ∙ sym (count_at known (k + 1) next.above (let b = next.below in omega arith));
      }

  counted_runs_of : (records : List Counted) → group < GROUPS → AreOwnerCounts maps group counts
      → AreRunsOfCounts (first_data_of group) counts P records → AreCountedRuns maps group P (map (λ r. r.run) records)
  counted_runs_of records there known found =
      runs_same _ (counted_from there known) (has_from known) (alike_from there known) (one_count_from known) found.runs

  -- each record found begins at a block that is counted
  begins_at : (records : List Counted) → AreRunsOfCounts (first_data_of group) counts P records → (i : ℕ) (d : Counted) → i < length records
      → HasCount (first_data_of group) counts P (get_or records i d).run.start.0
  begins_at records found i d h =
      let runs = map (λ (r : Counted). r.run) records in
      let long : length runs ≡ length records = length-map records (λ (r : Counted). r.run) in
      let spans_long : length (map span_of_run runs) ≡ length runs = length-map runs span_of_run in
      let inner : get_or runs i d.run ≡ (get_or records i d).run = get_or-map (λ (r : Counted). r.run) records i d d.run h in
      let same : get_or (map span_of_run runs) i (span_of_run d.run) ≡ span_of_run (get_or records i d).run =
      get_or-map span_of_run runs i d.run (span_of_run d.run) (omega arith) ∙ ap span_of_run inner in
      let run = subst (IsLongestRun (HasCount (first_data_of group) counts P) (HaveOneCount (first_data_of group) counts P)) same
      (found.runs.each i (span_of_run d.run) (omega arith)) in
      let some = run.some in
      run.there (get_or records i d).run.start.0 (record { begun = omega arith; not_ended = omega arith })

reference_records_of : (maps : FileMaps) (group : ℕ) (counts : List ℕ) (records : List Counted) → group < GROUPS → AreOwnerCounts maps group counts
    → AreRunsOfCounts (first_data_of group) counts (λ n. 2 ≤ n) records → AreReferenceRecords maps group records
reference_records_of maps group counts records there known found = record {
  runs = counted_runs_of maps group counts (λ n. 2 ≤ n) records there known found;
  counts = λ i d h.
      let begun = begins_at maps group counts (λ n. 2 ≤ n) records found i d h in
      let l = known.blocks in
      found.counted i d h ∙ count_at maps group counts (λ n. 2 ≤ n) known (get_or records i d).run.start.0 begun.above (let b = begun.below in omega arith);
  unstaged = found.unstaged;
}

-- the same runs, where the first address and the counts are named otherwise
runs_of_same : (P : ℕ → Type 0) (first first' : ℕ) (counts counts' : List ℕ) (records : List Counted) → first ≡ first' → counts ≡ counts'
    → AreRunsOfCounts first counts P records → AreRunsOfCounts first' counts' P records
runs_of_same P first first' counts counts' records e f found =
    subst (λ n. AreRunsOfCounts n counts' P records) e (subst (λ xs. AreRunsOfCounts first xs P records) f found)

-- with their counts they are the reference records, and without them the free records
pub shared_found : (maps : FileMaps) (group first : ℕ) (counts counts' : List ℕ) (records : List Counted) → group < GROUPS → AreOwnerCounts maps group counts'
    → first ≡ first_data_of group → counts ≡ counts' → HasRunsOfCounts (λ r. r) first counts (λ n. 2 ≤ n) records → AreReferenceRecords maps group records
shared_found maps group first counts counts' records there known e f found =
    reference_records_of maps group counts' records there known (runs_of_same (λ n. 2 ≤ n) first (first_data_of group) counts counts' records e f
    (subst (AreRunsOfCounts first counts (λ n. 2 ≤ n)) (sym (found.each ∙ map-id found.runs)) found.are))

pub free_found : (maps : FileMaps) (group first : ℕ) (counts counts' : List ℕ) (runs : List Run) → group < GROUPS → AreOwnerCounts maps group counts'
    → first ≡ first_data_of group → counts ≡ counts' → HasRunsOfCounts (λ r. r.run) first counts (λ n. n ≡ 0) runs → AreFreeRecords maps group runs
free_found maps group first counts counts' runs there known e f found =
    subst (AreFreeRecords maps group) (sym found.each)
    (counted_runs_of maps group counts' (λ n. n ≡ 0) found.runs there known (runs_of_same (λ n. n ≡ 0) first (first_data_of group) counts counts' found.runs e f found.are))
