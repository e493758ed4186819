-- The records of counts of a group, without the staged ones, are those that are defined from the file maps.
use Rattle.std.proofs.Common.{◌≡◌, ℕ, ◌+◌, ◌*◌, ◌/◌, ◌%◌, ◌<◌, ◌≤◌, true, false, not, List, get_or, map, refl, sym, ap, subst, ◌∙◌, ⊎_elim, arith}
use Rattle.std.proofs.lemmas.Bool.{cases_Bool, not-true, not_from_false}
use Rattle.std.proofs.lemmas.Bool.Decides.{nat_tests}
use Rattle.std.proofs.lemmas.List.Elements.{Contains-get_or}
use Rattle.std.proofs.lemmas.List.Kept.{AllPairs-filter}
use Rattle.std.specs.List.{AllPairs, Contains}
use Rattle.std.specs.declared.cmp.Ordering.TheVariants.{Less}
use Rattle.xr_base.specs.Address.{IsData, address_of}
use Rattle.xr_base.specs.declared.address.Run.{Run}
use Rattle.xr_base.specs.declared.geometry.TheConstants.{FIRST_DATA_BLOCK, GROUPS, GROUP_BLOCKS}
use Rattle.xr_block.specs.Tree.{AreRecords}
use Rattle.xr_change.specs.SetLaws.{agree_in}
use Rattle.xr_group.proofs.FilterLemmas.{from_filter, in_filter, pairs_of_map}
use Rattle.xr_group.proofs.NextLemmas.{from_map, into_map}
use Rattle.xr_group.specs.Group.{GroupState, IsGroup, records_now}
use Rattle.xr_group.specs.Next.{counted_at, counteds_now}
use Rattle.xr_group.specs.RecordLists.{AreCountsOf, CountsFollowFromMaps, shared_now}
use Rattle.xr_group.specs.Sets.{is_in_group, owner_count_in}
use Rattle.xr_kinds.specs.Reference.{is_reference, reference_form, reference_span}
use Rattle.xr_kinds.specs.ReferenceLaws.{is_reference_form}
use Rattle.xr_kinds.specs.Spans.{IsIn}
use Rattle.xr_kinds.specs.declared.reference.Reference.{Reference}
use Rattle.xr_maps.specs.FileMaps.{FileMaps}
use Rattle.xr_maps.specs.Records.{AreCountedAlike, AreReferenceRecords, IsCounted, owner_count, span_of_run}
use Rattle.xr_maps.specs.Runs.{Covers, IsLongestRun, Span}
use Rattle.xr_maps.specs.declared.records.Counted.{Counted}
use Rattle.xr_refcount.specs.CountLaws.{of_records, staged_count, valid_in}
use Rattle.xr_refcount.specs.Counts.{AreCountsOfRecords, IsUnrecorded, count_at}

no_count : Reference
no_count = record { start = 0; len = 0; count = 0; staged = false }

no_counted : Counted
no_counted = record { run = record { start = address_of 0; len = 0 }; count = 0; staged = false }

rises : (a b : Reference) → is_reference a ≡ true → is_reference b ≡ true → reference_form.agree a b ≡ true → reference_form.order a b ≡ Less → a.staged ≡ false → b.staged ≡ false
    → a.start + a.len ≤ b.start
rises a b good fine agree less one other = grind (arith, nat_tests, good, fine, agree, less, one, other)

-- two records with one count that touch are one
apart_records : (a b : Reference) (n : ℕ) → 0 < b.len → a.staged ≡ false → b.staged ≡ false → a.count ≡ b.count → reference_form.agree a b ≡ true → IsIn (reference_span a) n
    → b.start ≤ n + 1 → n ≤ b.start + b.len → ⊥
apart_records a b n some one other count agree within from below = grind (arith, nat_tests, some, one, other, count, agree, within.from, within.below, from, below)

module _ (maps : FileMaps) (g : GroupState) (group : IsGroup g.number g.uuid g.blocks) (same : AreCountsOf maps g) where
  abbrev xs : List Reference
  xs = (records_now g).reference

  rules : AreRecords reference_form xs
  rules = group.trees.counts.records

  laws : AreCountsOfRecords xs
  laws = of_records xs rules

  abbrev place : Reference → Span
  place r = span_of_run (counted_at g.number r).run

  abbrev IsShared : ℕ → Type 0
  IsShared = IsCounted maps g.number (λ n. 2 ≤ n)

  -- a block of a record is a data block of the group
  inside : (r : Reference) (a : ℕ) → Contains xs r → Covers a (place r)
      → IsData (address_of a) × (a / GROUP_BLOCKS ≡ g.number) × IsIn (reference_span r) (a % GROUP_BLOCKS)
  inside r a held covers =
      let good = valid_in xs rules r held in
      let first : FIRST_DATA_BLOCK ≤ r.start = grind (arith, nat_tests, good) in
      let ends : r.start + r.len ≤ GROUP_BLOCKS = grind (arith, nat_tests, good) in
      let known : g.number < GROUPS = group.head.valid.group in
      let from = covers.begun in
      let below = covers.not_ended in
      let here : a / GROUP_BLOCKS ≡ g.number = omega (arith, from, below, ends) in
      let from_start : r.start ≤ a % GROUP_BLOCKS = omega (arith, from, below, ends) in (
        record { group = omega (arith, here, known); block = omega (arith, first, from_start) },
        here,
        record { from = from_start; below = omega (arith, from, below, ends) },
      )

  -- what the group counts there
  seen : (a : ℕ) → a / GROUP_BLOCKS ≡ g.number → owner_count_in g a ≡ count_at xs (a % GROUP_BLOCKS)
  seen a here = let mine : is_in_group g a ≡ true = grind (arith, nat_tests, here) in rw mine refl

  shares : (r : Reference) (a : ℕ) → Contains xs r → r.staged ≡ false → Covers a (place r)
      → IsShared a × (owner_count maps (address_of a) ≡ r.count)
  shares r a held kind covers =
      let at = inside r a held covers in
      let good = valid_in xs rules r held in
      let some : 2 ≤ r.count = grind (arith, nat_tests, good, kind) in
      let told = laws.told r (a % GROUP_BLOCKS) held at.2 in
      let counts = sym (sym (seen a at.1) ∙ same a at.0 at.1) ∙ told.owners in
      let count : owner_count maps (address_of a) ≡ r.count = grind (arith, nat_tests, counts, some) in
      (record { is_data = at.0; in_group = at.1; wanted = omega (arith, count, some) }, count)

  record_of : (a : ℕ) → IsShared a → (r : Reference) × Contains xs r × (r.staged ≡ false) × Covers a (place r)
  record_of a there =
      let many = there.wanted in
      let counts = sym (seen a there.in_group) ∙ same a there.is_data there.in_group in
      ⊎_elim
      (λ (found : (r : Reference) × Contains xs r × IsIn (reference_span r) (a % GROUP_BLOCKS)).
      let told = laws.told found.0 (a % GROUP_BLOCKS) found.1 found.2 in
      let here = there.in_group in
      let from = found.2.from in
      let below = found.2.below in (
        found.0,
        found.1,
        ⊎_elim
            (λ (staged : found.0.staged ≡ true).
            let one = staged_count found.0 (valid_in xs rules found.0 found.1) staged in let count = told.owners in absurd (grind (arith, nat_tests, counts, count, one, many)))
            (λ (kind : found.0.staged ≡ false). kind)
            (cases_Bool found.0.staged),
        record { begun = omega (arith, here, from); not_ended = omega (arith, here, below) },
      ))
      (λ (none : IsUnrecorded xs (a % GROUP_BLOCKS)).
      let count = (laws.untold (a % GROUP_BLOCKS) none).owners in absurd (grind (arith, nat_tests, counts, count, many)))
      (laws.known (a % GROUP_BLOCKS))

  -- a block that touches a record and has its count is one of it
  own : (r : Reference) (a : ℕ) → Contains xs r → r.staged ≡ false → IsShared a → owner_count maps (address_of a) ≡ r.count → (place r).start ≤ a + 1
      → a ≤ (place r).start + r.len → Covers a (place r)
  own r a held kind there count from below =
      let found = record_of a there in
      let x : Reference = found.0 in
      let at = inside x a found.1 found.3 in
      let here = at.1 in
      let counts = (shares x a found.1 found.2 found.3).1 in
      let good = valid_in xs rules r held in
      let some : 0 < r.len = grind (arith, nat_tests, good) in
      ⊎_elim
      (λ (one : x ≡ r). subst (λ (y : Reference). Covers a (place y)) one found.3)
      (λ (agree : reference_form.agree x r ≡ true).
      absurd (apart_records x r (a % GROUP_BLOCKS) some found.2 kind (sym counts ∙ count) agree at.2 (omega (arith, here, from)) (omega (arith, here, below))))
      (agree_in reference_form is_reference_form xs rules x r found.1 held)

  longest : (r : Reference) → Contains xs r → r.staged ≡ false → IsLongestRun IsShared (AreCountedAlike maps g.number (λ n. 2 ≤ n)) (place r)
  longest r held kind =
      let good = valid_in xs rules r held in
      let some : 0 < r.len = grind (arith, nat_tests, good) in
      record {
        some = some;
        there = λ k covers. (shares r k held kind covers).0;
        joined = λ k one two.
            let here = shares r k held kind one in
            let next = shares r (k + 1) held kind two in
            record { here = here.0; next = next.0; alike = here.1 ∙ sym next.1 };
        left = λ k before alike.
            let next = shares r (k + 1) held kind (record { begun = omega (arith, before); not_ended = omega (arith, before, some) }) in
            let mine = own r k held kind alike.here (alike.alike ∙ next.1) (omega (arith, before)) (omega (arith, before)) in
            absurd (omega (arith, mine.begun, before));
        right = λ k last alike.
            let here = shares r k held kind (record { begun = omega (arith, last, some); not_ended = omega (arith, last) }) in
            let mine = own r (k + 1) held kind alike.next (sym alike.alike ∙ here.1) (omega (arith, last)) (omega (arith, last)) in
            absurd (omega (arith, mine.not_ended, last));
      }

  -- what is listed are the records that aren't staged
  listed : (c : Counted) → Contains (shared_now g) c → (r : Reference) × Contains xs r × (r.staged ≡ false) × (counted_at g.number r ≡ c)
  listed c held =
      let kept = from_filter (λ (x : Counted). not x.staged) (counteds_now g) c held in
      let found = from_map (counted_at g.number) xs c kept.0 in
      (found.0, found.1, ap (λ (x : Counted). x.staged) found.2 ∙ not-true c.staged kept.1, found.2)

  is_listed : (r : Reference) → Contains xs r → r.staged ≡ false → Contains (shared_now g) (counted_at g.number r)
  is_listed r held kind =
      in_filter (λ (x : Counted). not x.staged) (counteds_now g) (counted_at g.number r) (into_map (counted_at g.number) xs r held) (not_from_false r.staged kind)

  abbrev EndsBefore : Counted → Counted → Type 0
  EndsBefore c e = c.run.start.0 + c.run.len ≤ e.run.start.0

  ordered : AllPairs (λ (c e : Counted). c.staged ≡ false → e.staged ≡ false → EndsBefore c e) (counteds_now g)
  ordered = pairs_of_map (λ (c e : Counted). c.staged ≡ false → e.staged ≡ false → EndsBefore c e) (counted_at g.number) xs no_count
      (λ i j d before within one other.
      let low = rises (get_or xs i d) (get_or xs j d) (rules.valid i d (omega (arith, before, within))) (rules.valid j d within) (rules.agree i j d before within) (rules.ascend i j d before within) one other in
      omega (arith, low))

  rising : AllPairs EndsBefore (shared_now g)
  rising i j d before within =
      let first = listed (get_or (shared_now g) i d) (Contains-get_or (shared_now g) i d (omega (arith, before, within))) in
      let second = listed (get_or (shared_now g) j d) (Contains-get_or (shared_now g) j d within) in
      AllPairs-filter (λ (c e : Counted). c.staged ≡ false → e.staged ≡ false → EndsBefore c e) (λ (x : Counted). not x.staged) (counteds_now g) ordered i j d before within
      (sym (ap (λ (x : Counted). x.staged) first.3) ∙ first.2) (sym (ap (λ (x : Counted). x.staged) second.3) ∙ second.2)

  abbrev run_of : Counted → Run
  run_of c = c.run

  pub counts_listed : AreReferenceRecords maps g.number (shared_now g)
  counts_listed = record {
    runs = record {
      each = λ k d within.
          let runs : List Run = map run_of (shared_now g) in
          let all : List Span = map span_of_run runs in
          let run = from_map span_of_run runs (get_or all k d) (Contains-get_or all k d within) in
          let counted = from_map run_of (shared_now g) run.0 run.1 in
          let found = listed counted.0 counted.1 in
          subst (IsLongestRun IsShared (AreCountedAlike maps g.number (λ n. 2 ≤ n)))
          (ap (λ (c : Counted). span_of_run c.run) found.3 ∙ ap span_of_run counted.2 ∙ run.2) (longest found.0 found.1 found.2);
      rising = pairs_of_map (λ (s t : Span). s.start + s.len ≤ t.start) span_of_run (map run_of (shared_now g)) no_counted.run
          (pairs_of_map (λ (r s : Run). r.start.0 + r.len ≤ s.start.0) run_of (shared_now g) no_counted rising);
      every = λ k there.
          let found = record_of k there in
          let run = into_map run_of (shared_now g) (counted_at g.number found.0) (is_listed found.0 found.1 found.2) in
          let at = into_map span_of_run (map run_of (shared_now g)) (counted_at g.number found.0).run run in
          (at.0, place found.0, at.1, at.2, found.3);
    };
    counts = λ k d within.
        let found = listed (get_or (shared_now g) k d) (Contains-get_or (shared_now g) k d within) in
        let r : Reference = found.0 in
        let good = valid_in xs rules r found.1 in
        let some : 0 < r.len = grind (arith, nat_tests, good) in
        let first = shares r (GROUP_BLOCKS * g.number + r.start) found.1 found.2 (record { begun = omega arith; not_ended = omega (arith, some) }) in
        subst (λ (c : Counted). c.count ≡ owner_count maps c.run.start) found.3 (sym first.1);
    unstaged = λ k d within.
        let found = listed (get_or (shared_now g) k d) (Contains-get_or (shared_now g) k d within) in
        subst (λ (c : Counted). c.staged ≡ false) found.3 found.2;
  }

pub counts_follow_from_maps : CountsFollowFromMaps
counts_follow_from_maps maps g group same = counts_listed maps g group same
