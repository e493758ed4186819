-- What the records of a group tell of the sets that it holds, and their orders.
use Rattle.std.proofs.Common.{◌≡◌, ℕ, ◌+◌, ◌*◌, ◌/◌, ◌%◌, ◌<◌, ◌≤◌, Bool, true, false, List, length, map, get_or, refl, sym, subst, ◌∙◌, ⊎_elim, arith}
use Rattle.std.proofs.lemmas.Bool.{cases_Bool}
use Rattle.std.proofs.lemmas.Bool.Decides.{nat_tests}
use Rattle.std.proofs.lemmas.List.{get_or-map, length-map}
use Rattle.std.proofs.lemmas.List.Elements.{All-contains}
use Rattle.std.proofs.lemmas.List.Folds.{Any-from_list_any, list_any_at}
use Rattle.std.specs.List.{AllPairs, Contains, list_any}
use Rattle.std.specs.declared.cmp.Ordering.TheVariants.{Less}
use Rattle.xr_base.specs.Address.{block_number}
use Rattle.xr_base.specs.declared.address.Run.{Run}
use Rattle.xr_base.specs.declared.geometry.TheConstants.{GROUPS, GROUP_BLOCKS}
use Rattle.xr_block.specs.Tree.{AreRecords}
use Rattle.xr_group.proofs.AddressLemmas.{pair_in_run, pair_says, run_pair_is, says_is}
use Rattle.xr_group.proofs.NextLemmas.{from_map, into_map}
use Rattle.xr_group.specs.Group.{GroupState, IsGroup, IsRunOf, records_now}
use Rattle.xr_group.specs.Next.{IsCountedBefore, IsShorter, StartsBefore, counted_at, counteds_now, free_run_at, frees_now, rev_at, revs_now, sized_run_at, sizes_now}
use Rattle.xr_group.specs.Sets.{IsCountedIn, group_span, has_free, has_pair, is_in_group, is_run_pair, run_at, says_pair}
use Rattle.xr_group.specs.ToldRecords.{GroupsTellRecords, OwnersAreNoMoreThanPairs, RecordsRise, SizesAreFree, TellsCount, TellsFree, TellsOwner}
use Rattle.xr_kinds.specs.Form.{Form}
use Rattle.xr_kinds.specs.FreeRuns.{block_form, block_span, size_form, size_span}
use Rattle.xr_kinds.specs.Reference.{is_reference, reference_form, reference_span}
use Rattle.xr_kinds.specs.Reverse.{is_reverse, reverse_form, reverse_span}
use Rattle.xr_kinds.specs.SpanLaws.{group_run}
use Rattle.xr_kinds.specs.Spans.{IsIn, end_of, is_group_run}
use Rattle.xr_kinds.specs.declared.free_runs.ByBlock.{ByBlock}
use Rattle.xr_kinds.specs.declared.free_runs.BySize.{BySize}
use Rattle.xr_kinds.specs.declared.reference.Reference.{Reference}
use Rattle.xr_kinds.specs.declared.reverse.Reverse.{Reverse}
use Rattle.xr_kinds.specs.declared.span.Span.{Span}
use Rattle.xr_maps.specs.Records.{IsBefore}
use Rattle.xr_maps.specs.Steps.{is_within}
use Rattle.xr_maps.specs.declared.records.Counted.{Counted}
use Rattle.xr_maps.specs.declared.records.Rev.{Rev}
use Rattle.xr_refcount.specs.CountLaws.{counts_of_records}
use Rattle.xr_refcount.specs.Counts.{IsCountedAs, is_in_run}
use Rattle.xr_rmap.specs.PairLaws.{no_more_than_pairs}
use Rattle.xr_rmap.specs.Pairs.{IsPair, Pair, pair}

-- the records of a tree rise under other names too
records_rise : {X Y : Type 0} (form : Form X) (at : X → Y) (Before : Y → Y → Type 0) (none : X) (xs : List X) → AreRecords form xs
    → ((a b : X) → form.is_valid a ≡ true → form.is_valid b ≡ true → form.order a b ≡ Less → Before (at a) (at b)) → AllPairs Before (map at xs)
records_rise {Y = Y} form at Before none xs rules step i j d before within =
    let late : j < length xs = omega (arith, within, length-map xs at) in
    let early : i < length xs = omega (arith, before, late) in
    subst (λ (x : Y). Before x (get_or (map at xs) j d)) (sym (get_or-map at xs i none d early))
    (subst (λ (y : Y). Before (at (get_or xs i none)) y) (sym (get_or-map at xs j none d late))
    (step (get_or xs i none) (get_or xs j none) (rules.valid i none early) (rules.valid j none late) (rules.ascend i j none before late)))

-- the orders of the trees are those by addresses
module _ (number : ℕ) where
  starts_before : (a b : ByBlock) → block_form.order a b ≡ Less → StartsBefore (free_run_at number a) (free_run_at number b)
  starts_before a b less = grind (arith, nat_tests, less)

  is_shorter : (a b : BySize) → size_form.order a b ≡ Less → IsShorter (sized_run_at number a) (sized_run_at number b)
  is_shorter a b less = grind (arith, nat_tests, less)

  is_before : (a b : Reverse) → reverse_form.order a b ≡ Less → IsBefore (rev_at number a) (rev_at number b)
  is_before a b less = grind (arith, nat_tests, less)

  is_counted_before : (a b : Reference) → reference_form.is_valid a ≡ true → reference_form.is_valid b ≡ true → reference_form.order a b ≡ Less
      → IsCountedBefore (counted_at number a) (counted_at number b)
  is_counted_before a b good other less = grind (arith, nat_tests, good, other, less)

-- a run of a group's data blocks by their addresses, and back
module _ (g : GroupState) (known : g.number < GROUPS) (s : Span) (good : is_group_run s ≡ true) where
  abbrev there : Run
  there = run_at g.number s

  limits : (512 ≤ s.start) × (0 < s.len) × (end_of s ≤ 2048)
  limits = group_run s good

  pub run_is_mine : IsRunOf g there
  run_is_mine =
      let fits = limits in
      record {
        good = record {
          some = fits.1;
          data_blocks = λ i within. record { group = omega (arith, fits, known, within); block = omega (arith, fits, within) };
          one_group = λ i within. omega (arith, fits, within);
        };
        here = omega (arith, fits);
      }

  pub span_is : group_span there ≡ s
  span_is = let fits = limits in
      let start : block_number there.start ≡ s.start = omega (arith, fits) in λ i. record { start = start i; len = s.len }

  pub block_within : (a : ℕ) → is_within there.start.0 there.len a ≡ true → (a / GROUP_BLOCKS ≡ g.number) × IsIn s (a % GROUP_BLOCKS)
  block_within a is =
      let fits = limits in
      let from : GROUP_BLOCKS * g.number + s.start ≤ a = grind (arith, nat_tests, is) in
      let below : a < GROUP_BLOCKS * g.number + s.start + s.len = grind (arith, nat_tests, is) in
      (omega (arith, fits, from, below), record { from = omega (arith, fits, from, below); below = omega (arith, fits, from, below) })

  pub within_of : (a : ℕ) → a / GROUP_BLOCKS ≡ g.number → IsIn s (a % GROUP_BLOCKS) → is_within there.start.0 there.len a ≡ true
  within_of a here is =
      let from : GROUP_BLOCKS * g.number + s.start ≤ a = omega (arith, here, is.from) in
      let below : a < GROUP_BLOCKS * g.number + s.start + s.len = omega (arith, here, is.below) in
      grind (arith, nat_tests, from, below)

module _ (g : GroupState) (group : IsGroup g.number g.uuid g.blocks) where
  known : g.number < GROUPS
  known = group.head.valid.group

  abbrev runs : List ByBlock
  runs = (records_now g).by_block

  abbrev owners : List Reverse
  owners = (records_now g).reverse

  abbrev counts : List Reference
  counts = (records_now g).reference

  -- the free runs
  good_run : (r : ByBlock) → Contains runs r → is_group_run (block_span r) ≡ true
  good_run r held = All-contains (λ (y : ByBlock). block_form.is_valid y ≡ true) runs r group.trees.space.blocks.records.valid held

  free_by : (r : ByBlock) (a : ℕ) → Contains runs r → a / GROUP_BLOCKS ≡ g.number → IsIn (block_span r) (a % GROUP_BLOCKS) → has_free g a ≡ true
  free_by r a held here is =
      let from = is.from in
      let below = is.below in
      let holds : ByBlock → Bool = λ x. is_in_run (block_span x) (a % GROUP_BLOCKS) in
      let test : is_in_run (block_span r) (a % GROUP_BLOCKS) ≡ true = grind (arith, nat_tests, from, below) in
      let any : list_any holds runs ≡ true = list_any_at holds runs held.0 r held.1 (subst (λ (x : ByBlock). holds x ≡ true) (sym held.2) test) in
      grind (arith, nat_tests, here, any)

  tells_free : (run : Run) → Contains (frees_now g) run → TellsFree g run
  tells_free run told =
      let found = from_map (free_run_at g.number) runs run told in
      let good = good_run found.0 found.1 in
      subst (TellsFree g) found.2 (record {
        mine = run_is_mine g known (block_span found.0) good;
        free = λ a is. let at = block_within g known (block_span found.0) good a is in free_by found.0 a found.1 at.0 at.1;
      })

  good_size : (r : BySize) → Contains (records_now g).by_size r → is_group_run (size_span r) ≡ true
  good_size r held =
      All-contains (λ (y : BySize). size_form.is_valid y ≡ true) (records_now g).by_size r group.trees.space.sizes.records.valid held

  sized_is_mine : (run : Run) → Contains (sizes_now g) run → IsRunOf g run
  sized_is_mine run told =
      let found = from_map (sized_run_at g.number) (records_now g).by_size run told in
      subst (IsRunOf g) found.2 (run_is_mine g known (size_span found.0) (good_size found.0 found.1))

  free_told : (a : ℕ) → has_free g a ≡ true → (run : Run) × Contains (frees_now g) run × (is_within run.start.0 run.len a ≡ true)
  free_told a has =
      let any : list_any (λ (x : ByBlock). is_in_run (block_span x) (a % GROUP_BLOCKS)) runs ≡ true = grind (arith, nat_tests, has) in
      let here : a / GROUP_BLOCKS ≡ g.number = grind (arith, nat_tests, has) in
      let found = Any-from_list_any (λ (x : ByBlock). is_in_run (block_span x) (a % GROUP_BLOCKS)) runs any in
      let test = found.4 in
      let held : Contains runs found.1 = (found.0, found.2, found.3) in
      let is : IsIn (block_span found.1) (a % GROUP_BLOCKS) = record { from = grind (arith, nat_tests, test); below = grind (arith, nat_tests, test) } in (
        free_run_at g.number found.1,
        into_map (free_run_at g.number) runs found.1 held,
        within_of g known (block_span found.1) (good_run found.1 held) a here is,
      )

  -- the records of owners
  good_reverse : (r : Reverse) → Contains owners r → is_reverse r ≡ true
  good_reverse r held = All-contains (λ (y : Reverse). reverse_form.is_valid y ≡ true) owners r group.trees.rmap.records.valid held

  pair_by : (r : Reverse) (w o a : ℕ) → Contains owners r → a / GROUP_BLOCKS ≡ g.number → IsPair r w o (a % GROUP_BLOCKS) → has_pair g w o a ≡ true
  pair_by r w o a held here is =
      let says : Reverse → Bool = λ x. says_pair x w o (a % GROUP_BLOCKS) in
      let test : says_pair r w o (a % GROUP_BLOCKS) ≡ true = pair_says r w o (a % GROUP_BLOCKS) is in
      let any : list_any says owners ≡ true = list_any_at says owners held.0 r held.1 (subst (λ (x : Reverse). says x ≡ true) (sym held.2) test) in
      grind (arith, nat_tests, here, any)

  tells_owner : (r : Rev) → Contains (revs_now g) r → TellsOwner g r
  tells_owner r told =
      let found = from_map (rev_at g.number) owners r told in
      let x : Reverse = found.0 in
      let good = good_reverse x found.1 in
      let run : is_group_run (reverse_span x) ≡ true = grind (arith, nat_tests, good) in
      let mine = run_is_mine g known (reverse_span x) run in
      let span = span_is g known (reverse_span x) run in
      subst (TellsOwner g) found.2 (record {
        mine = mine;
        owner = grind (arith, nat_tests, good);
        pairs = λ w o a is.
            let at = run_pair_is (run_at g.number (reverse_span x)) x.owner x.off mine.good w o a is in
            pair_by x w o a found.1 (at.0 ∙ mine.here)
            (subst (λ (s : Span). IsPair (record { start = s.start; len = s.len; owner = x.owner; off = x.off }) w o (a % GROUP_BLOCKS)) span at.1);
      })

  pair_told : (w o a : ℕ) → has_pair g w o a ≡ true → (r : Rev) × Contains (revs_now g) r × (is_run_pair r.run r.owner r.off w o a ≡ true)
  pair_told w o a has =
      let any : list_any (λ (x : Reverse). says_pair x w o (a % GROUP_BLOCKS)) owners ≡ true = grind (arith, nat_tests, has) in
      let here : a / GROUP_BLOCKS ≡ g.number = grind (arith, nat_tests, has) in
      let found = Any-from_list_any (λ (x : Reverse). says_pair x w o (a % GROUP_BLOCKS)) owners any in
      let x : Reverse = found.1 in
      let held : Contains owners x = (found.0, found.2, found.3) in
      let good = good_reverse x held in
      let run : is_group_run (reverse_span x) ≡ true = grind (arith, nat_tests, good) in
      let mine = run_is_mine g known (reverse_span x) run in
      let span = span_is g known (reverse_span x) run in
      let is : IsPair x w o (a % GROUP_BLOCKS) = says_is x w o (a % GROUP_BLOCKS) found.4 in (
        rev_at g.number x,
        into_map (rev_at g.number) owners x held,
        pair_in_run (run_at g.number (reverse_span x)) x.owner x.off mine.good w o a (here ∙ sym mine.here)
            (subst (λ (s : Span). IsPair (record { start = s.start; len = s.len; owner = x.owner; off = x.off }) w o (a % GROUP_BLOCKS)) (sym span) is),
      )

  -- the records of counts
  good_reference : (r : Reference) → Contains counts r → is_reference r ≡ true
  good_reference r held = All-contains (λ (y : Reference). reference_form.is_valid y ≡ true) counts r group.trees.counts.records.valid held

  counted_by : (a count : ℕ) (staged : Bool) → a / GROUP_BLOCKS ≡ g.number → IsCountedAs counts (a % GROUP_BLOCKS) count staged → IsCountedIn g a count staged
  counted_by a count staged here is =
      let owners = is.owners in
      let kind = is.kind in
      let test : is_in_group g a ≡ true = grind (arith, nat_tests, here) in (
        rw test owners,
        rw test kind,
      )

  tells_count : (r : Counted) → Contains (counteds_now g) r → TellsCount g r
  tells_count r told =
      let found = from_map (counted_at g.number) counts r told in
      let x : Reference = found.0 in
      let good = good_reference x found.1 in
      let run : is_group_run (reference_span x) ≡ true = grind (arith, nat_tests, good) in
      let laws = counts_of_records counts group.trees.counts.records in
      subst (TellsCount g) found.2 (record {
        mine = run_is_mine g known (reference_span x) run;
        counted = λ a is.
            let at = block_within g known (reference_span x) run a is in
            counted_by a x.count x.staged at.0 (laws.told x (a % GROUP_BLOCKS) found.1 at.1);
        one = λ kind. grind (arith, nat_tests, good, kind);
        shared = λ kind. grind (arith, nat_tests, good, kind);
      })

  count_told : (a : ℕ) → ¬ (IsCountedIn g a 1 false) → (r : Counted) × Contains (counteds_now g) r × (is_within r.run.start.0 r.run.len a ≡ true)
  count_told a other = ⊎_elim
      (λ (test : is_in_group g a ≡ true).
      let here : a / GROUP_BLOCKS ≡ g.number = grind (arith, nat_tests, test) in
      let laws = counts_of_records counts group.trees.counts.records in
      ⊎_elim
      (λ (found : (x : Reference) × Contains counts x × IsIn (reference_span x) (a % GROUP_BLOCKS)).
      let good = good_reference found.0 found.1 in
      let run : is_group_run (reference_span found.0) ≡ true = grind (arith, nat_tests, good) in
      (counted_at g.number found.0, into_map (counted_at g.number) counts found.0 found.1, within_of g known (reference_span found.0) run a here found.2))
      (λ unrecorded. absurd (other (counted_by a 1 false here (laws.untold (a % GROUP_BLOCKS) unrecorded))))
      (laws.known (a % GROUP_BLOCKS)))
      (λ (out : is_in_group g a ≡ false). absurd (other (rw out refl, rw out refl)))
      (cases_Bool (is_in_group g a))

  all_rise : RecordsRise g
  all_rise = record {
    frees = records_rise block_form (free_run_at g.number) StartsBefore (record { start = 0; len = 0 }) (records_now g).by_block
        group.trees.space.blocks.records (λ a b good other. starts_before g.number a b);
    sizes = records_rise size_form (sized_run_at g.number) IsShorter (record { start = 0; len = 0 }) (records_now g).by_size
        group.trees.space.sizes.records (λ a b good other. is_shorter g.number a b);
    revs = records_rise reverse_form (rev_at g.number) IsBefore (record { start = 0; len = 0; owner = 0; off = 0 }) (records_now g).reverse
        group.trees.rmap.records (λ a b good other. is_before g.number a b);
    counteds = records_rise reference_form (counted_at g.number) IsCountedBefore (record { start = 0; len = 0; count = 0; staged = false })
        (records_now g).reference group.trees.counts.records (is_counted_before g.number);
  }

pub groups_tell_records : GroupsTellRecords
groups_tell_records g group = record {
  frees = tells_free g group;
  sizes = sized_is_mine g group;
  revs = tells_owner g group;
  counteds = tells_count g group;
  free_of = free_told g group;
  pair_of = pair_told g group;
  count_of = count_told g group;
  rise = all_rise g group;
}

pub sizes_are_free : SizesAreFree
sizes_are_free g paired run = (
  λ told.
      let found = from_map (sized_run_at g.number) (records_now g).by_size run told in
      subst (Contains (frees_now g)) found.2
      (into_map (free_run_at g.number) (records_now g).by_block _ ((paired (size_span found.0)).1 found.1)),
  λ told.
      let found = from_map (free_run_at g.number) (records_now g).by_block run told in
      subst (Contains (sizes_now g)) found.2
      (into_map (sized_run_at g.number) (records_now g).by_size _ ((paired (block_span found.0)).0 found.1)),
)

-- the pairs by numbers of the group's blocks
by_number : Pair → Pair
by_number p = pair p.owner p.off (p.block % GROUP_BLOCKS)

pub no_more_owners_than_pairs : OwnersAreNoMoreThanPairs
unfolding by_number
no_more_owners_than_pairs g group pairs each =
    let few = no_more_than_pairs (records_now g).reverse group.trees.rmap.records (map by_number pairs) (λ w o n has.
    let x : Reverse = has.0 in
    let good = good_reverse g group x has.1 in
    let run = group_run (reverse_span x) (grind (arith, nat_tests, good)) in
    let small : n < GROUP_BLOCKS = omega (arith, has.2.below, run) in
    let a : ℕ = GROUP_BLOCKS * g.number + n in
    let number : a % GROUP_BLOCKS ≡ n = omega (arith, small) in
    let here : a / GROUP_BLOCKS ≡ g.number = omega (arith, small) in
    let told = each w o a (pair_by g group x w o a has.1 here (subst (IsPair x w o) (sym number) has.2)) in
    subst (λ (k : ℕ). Contains (map by_number pairs) (pair w o k)) number (into_map by_number pairs (pair w o a) told)) in
    omega (arith, few, length-map pairs by_number)
