-- The free runs of a group are those that are defined from the file maps.
use Rattle.std.proofs.Common.{◌≡◌, ℕ, ◌+◌, ◌/◌, ◌%◌, ◌<◌, ◌≤◌, true, List, length, get_or, map, sym, ap, subst, ◌∙◌, ⊎_elim, arith}
use Rattle.std.proofs.lemmas.Bool.Decides.{nat_tests}
use Rattle.std.proofs.lemmas.List.{get_or-map, length-map}
use Rattle.std.proofs.lemmas.List.Elements.{All-contains, Contains-get_or}
use Rattle.std.proofs.lemmas.List.Folds.{Any-from_list_any, list_any_at}
use Rattle.std.specs.List.{Contains, list_any}
use Rattle.std.specs.declared.cmp.Ordering.TheVariants.{Less}
use Rattle.xr_base.specs.declared.geometry.TheConstants.{GROUP_BLOCKS}
use Rattle.xr_block.specs.Tree.{AreRecords}
use Rattle.xr_change.specs.SetLaws.{agree_in}
use Rattle.xr_group.proofs.NextLemmas.{from_map, into_map}
use Rattle.xr_group.specs.Group.{GroupState, IsGroup, records_now}
use Rattle.xr_group.specs.Next.{free_run_at, frees_now}
use Rattle.xr_group.specs.RecordLists.{AreFreeOf, FreeFollowFromMaps}
use Rattle.xr_group.specs.Sets.{has_free}
use Rattle.xr_kinds.specs.FreeRunLaws.{is_block_form}
use Rattle.xr_kinds.specs.FreeRuns.{block_form, block_span}
use Rattle.xr_kinds.specs.Spans.{apart}
use Rattle.xr_kinds.specs.declared.free_runs.ByBlock.{ByBlock}
use Rattle.xr_maps.specs.FileMaps.{FileMaps}
use Rattle.xr_maps.specs.Records.{AreCountedAlike, AreFreeRecords, IsCounted, span_of_run}
use Rattle.xr_maps.specs.Runs.{Covers, IsLongestRun, Span}
use Rattle.xr_refcount.specs.Counts.{is_in_run}

no_run : ByBlock
no_run = record { start = 0; len = 0 }

rises : (a b : ByBlock) → block_form.is_valid a ≡ true → block_form.agree a b ≡ true → block_form.order a b ≡ Less → a.start + a.len ≤ b.start
rises a b good agree less = grind (arith, nat_tests, good, agree, less)

module _ (maps : FileMaps) (g : GroupState) (group : IsGroup g.number g.uuid g.blocks) (same : AreFreeOf maps g) where
  abbrev xs : List ByBlock
  xs = (records_now g).by_block

  rules : AreRecords block_form xs
  rules = group.trees.space.blocks.records

  abbrev place : ByBlock → Span
  place r = span_of_run (free_run_at g.number r)

  has_of : (r : ByBlock) (a : ℕ) → Contains xs r → Covers a (place r) → has_free g a ≡ true
  has_of r a held covers =
      let good = All-contains (λ (y : ByBlock). block_form.is_valid y ≡ true) xs r rules.valid held in
      let ends : r.start + r.len ≤ GROUP_BLOCKS = grind (arith, nat_tests, good) in
      let from = covers.begun in
      let below = covers.not_ended in
      let here : a / GROUP_BLOCKS ≡ g.number = omega (arith, from, below, ends) in
      let first : r.start ≤ a % GROUP_BLOCKS = omega (arith, from, below, ends) in
      let last : a % GROUP_BLOCKS < r.start + r.len = omega (arith, from, below, ends) in
      let test : is_in_run (block_span r) (a % GROUP_BLOCKS) ≡ true = grind (arith, nat_tests, first, last) in
      let any : list_any (λ (x : ByBlock). is_in_run (block_span x) (a % GROUP_BLOCKS)) xs ≡ true =
      list_any_at (λ (x : ByBlock). is_in_run (block_span x) (a % GROUP_BLOCKS)) xs held.0 r held.1
      (subst (λ (x : ByBlock). is_in_run (block_span x) (a % GROUP_BLOCKS) ≡ true) (sym held.2) test) in
      grind (arith, nat_tests, here, any)

  run_of : (a : ℕ) → has_free g a ≡ true → (r : ByBlock) × Contains xs r × Covers a (place r)
  run_of a has =
      let any : list_any (λ (x : ByBlock). is_in_run (block_span x) (a % GROUP_BLOCKS)) xs ≡ true = grind (arith, nat_tests, has) in
      let here : a / GROUP_BLOCKS ≡ g.number = grind (arith, nat_tests, has) in
      let found = Any-from_list_any (λ (x : ByBlock). is_in_run (block_span x) (a % GROUP_BLOCKS)) xs any in
      let test = found.4 in
      let first : found.1.start ≤ a % GROUP_BLOCKS = grind (arith, nat_tests, test) in
      let last : a % GROUP_BLOCKS < found.1.start + found.1.len = grind (arith, nat_tests, test) in
      (found.1, (found.0, found.2, found.3), record { begun = omega (arith, here, first); not_ended = omega (arith, here, last) })

  -- a free block that touches a run is one of it
  own : (r : ByBlock) (a : ℕ) → Contains xs r → has_free g a ≡ true → (place r).start ≤ a + 1 → a ≤ (place r).start + (place r).len → Covers a (place r)
  own r a held has from below =
      let found = run_of a has in
      let begun = found.2.begun in
      let ended = found.2.not_ended in
      ⊎_elim
      (λ (one : found.0 ≡ r). subst (λ (x : ByBlock). Covers a (place x)) one found.2)
      (λ (agree : apart (block_span found.0) (block_span r) ≡ true). absurd (grind (arith, nat_tests, agree, begun, ended, from, below)))
      (agree_in block_form is_block_form xs rules found.0 r found.1 held)

  longest : (r : ByBlock) → Contains xs r → IsLongestRun (IsCounted maps g.number (λ n. n ≡ 0)) (AreCountedAlike maps g.number (λ n. n ≡ 0)) (place r)
  longest r held =
      let good = All-contains (λ (y : ByBlock). block_form.is_valid y ≡ true) xs r rules.valid held in
      record {
        some = grind (arith, nat_tests, good);
        there = λ k covers. (same k).0 (has_of r k held covers);
        joined = λ k one two.
            let here = (same k).0 (has_of r k held one) in
            let next = (same (k + 1)).0 (has_of r (k + 1) held two) in
            record { here = here; next = next; alike = here.wanted ∙ sym next.wanted };
        left = λ k before alike.
            let mine = own r k held ((same k).1 alike.here) (omega (arith, before)) (omega (arith, before)) in absurd (omega (arith, mine.begun, before));
        right = λ k last alike.
            let mine = own r (k + 1) held ((same (k + 1)).1 alike.next) (omega (arith, last)) (omega (arith, last)) in absurd (omega (arith, mine.not_ended, last));
      }

  spans_are : (i : ℕ) (d : Span) → i < length xs → get_or (map span_of_run (frees_now g)) i d ≡ place (get_or xs i no_run)
  spans_are i d within =
      get_or-map span_of_run (frees_now g) i (free_run_at g.number no_run) d (omega (arith, within, length-map xs (free_run_at g.number)))
      ∙ ap span_of_run (get_or-map (free_run_at g.number) xs i no_run (free_run_at g.number no_run) within)

  pub free_listed : AreFreeRecords maps g.number (frees_now g)
  free_listed = record {
    each = λ k d within.
        let all : List Span = map span_of_run (frees_now g) in
        let run = from_map span_of_run (frees_now g) (get_or all k d) (Contains-get_or all k d within) in
        let found = from_map (free_run_at g.number) xs run.0 run.1 in
        subst (IsLongestRun (IsCounted maps g.number (λ n. n ≡ 0)) (AreCountedAlike maps g.number (λ n. n ≡ 0))) (ap span_of_run found.2 ∙ run.2)
        (longest found.0 found.1);
    rising = λ i j d before within.
        let late : j < length xs = omega (arith, within, length-map (frees_now g) span_of_run, length-map xs (free_run_at g.number)) in
        let early : i < length xs = omega (arith, before, late) in
        let one = spans_are i d early in
        let other = spans_are j d late in
        let good = rules.valid i no_run early in
        let low = rises (get_or xs i no_run) (get_or xs j no_run) good (rules.agree i j no_run before late) (rules.ascend i j no_run before late) in
        rw (one, other) (omega (arith, low));
    every = λ k there.
        let found = run_of k ((same k).1 there) in
        let run = into_map (free_run_at g.number) xs found.0 found.1 in
        let at = into_map span_of_run (frees_now g) (free_run_at g.number found.0) run in
        (at.0, place found.0, at.1, at.2, found.2);
  }

pub free_follow_from_maps : FreeFollowFromMaps
free_follow_from_maps maps g group same = free_listed maps g group same
