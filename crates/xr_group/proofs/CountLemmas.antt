-- Counts and staged blocks of a group by addresses, and those of its tree by numbers of its blocks.
use Rattle.std.proofs.Common.{◌≡◌, ℕ, ◌+◌, ◌-◌, ◌/◌, ◌%◌, ◌<◌, ◌≤◌, ◌==◌, ◌&&◌, ◌||◌, Bool, true, false, not, if◌then◌else◌, List, refl, sym, ap, subst, ◌∙◌, ⊎_elim, arith}
use Rattle.std.proofs.lemmas.Bool.{cases_Bool, false_from_ne_true}
use Rattle.std.proofs.lemmas.Bool.Decides.{nat_tests}
use Rattle.xr_base.specs.Address.{block_number, group_number}
use Rattle.xr_base.specs.declared.address.Run.{Run}
use Rattle.xr_base.specs.declared.geometry.TheConstants.{GROUP_BLOCKS}
use Rattle.xr_group.proofs.AddressLemmas.{address_below, address_from, block_after, block_of_number, good_span, same_group, same_test}
use Rattle.xr_group.proofs.GroupPoolLemmas.{records_read}
use Rattle.xr_group.specs.Group.{GroupState, IsRunOf, records_now}
use Rattle.xr_group.specs.Parts.{HasGroup, group_state_of}
use Rattle.xr_group.specs.Sets.{AreCountedIn, AreOwnedAlikeIn, AreStagedIn, IsCountedIn, IsFirstPart, LowersCounts, RaisesCounts, StagesAddresses, UnstagesAddresses, has_staged, is_in_group, owner_count_in, group_span}
use Rattle.xr_group.specs.Trees.{GroupRecords}
use Rattle.xr_group.specs.declared.trees.Trees.{Trees}
use Rattle.xr_kinds.specs.Spans.{IsIn, end_of}
use Rattle.xr_kinds.specs.declared.reference.Reference.{Reference}
use Rattle.xr_maps.specs.Steps.{is_within}
use Rattle.xr_pool.specs.Overlay.{Blocks}
use Rattle.xr_refcount.specs.Calls.{IsFirstEqual, Lowers, Raises, StagesRun, UnstagesRun}
use Rattle.xr_refcount.specs.Counts.{AreOwnedAlike, IsCountedAs, AreCountedAs, count_at, is_in_run, is_staged_at}
use Rattle.xr_refcount.specs.Refcount.{reference_records}
use Rattle.xr_refcount.specs.declared.refcount.CountedSpan.{CountedSpan}

-- whether an address is one of a run's, by the block's number in the group
module _ (g : GroupState) (run : Run) (mine : IsRunOf g run) (a : ℕ) where
  pub within_here : is_in_group g a ≡ true → is_in_run (group_span run) (a % GROUP_BLOCKS) ≡ is_within run.start.0 run.len a
  within_here here =
      let number : a / GROUP_BLOCKS ≡ group_number run.start = grind (arith, nat_tests, mine.here) in
      same_test _ _
      (λ is. let from : block_number run.start ≤ a % GROUP_BLOCKS = grind (arith, nat_tests) in
      let below : a % GROUP_BLOCKS < block_number run.start + run.len = grind (arith, nat_tests) in
      let after = address_from run mine.good a number from in
      let before = address_below run mine.good a number below in grind (arith, nat_tests, after, before))
      (λ is. let from : run.start.0 ≤ a = grind (arith, nat_tests) in
      let below : a < run.start.0 + run.len = grind (arith, nat_tests) in
      let after = block_after run mine.good a from below in grind (arith, nat_tests, after, from, below))

  pub without_here : is_in_group g a ≡ false → is_within run.start.0 run.len a ≡ false
  without_here other =
      false_from_ne_true (is_within run.start.0 run.len a)
      (λ is. let from : run.start.0 ≤ a = grind (arith, nat_tests) in
      let below : a < run.start.0 + run.len = grind (arith, nat_tests) in
      let number = same_group run mine.good a from below in
      let lie : is_in_group g a ≡ true = grind (arith, nat_tests, number, mine.here) in absurd cc)

module _ (b : Blocks) (t : Trees) (h : HasGroup b t) where
  references_same : (records_now (group_state_of b)).reference ≡ reference_records b t.counts
  references_same = ap (λ (x : GroupRecords). x.reference) (records_read b t h)

  pub count_read : (a : ℕ) → owner_count_in (group_state_of b) a ≡ (if is_in_group (group_state_of b) a then count_at (reference_records b t.counts) (a % GROUP_BLOCKS) else 1)
  count_read a = ap (λ (xs : List Reference). if is_in_group (group_state_of b) a then count_at xs (a % GROUP_BLOCKS) else 1) references_same

  pub staged_read : (a : ℕ) → has_staged (group_state_of b) a ≡ (is_in_group (group_state_of b) a && is_staged_at (reference_records b t.counts) (a % GROUP_BLOCKS))
  staged_read a = ap (λ (xs : List Reference). is_in_group (group_state_of b) a && is_staged_at xs (a % GROUP_BLOCKS)) references_same

module _ (run : Run) (a : Blocks) (s : Trees) (before : HasGroup a s) (mine : IsRunOf (group_state_of a) run) where
  abbrev olds : List Reference
  olds = reference_records a s.counts

  -- what is so of the addresses of the run is so of its blocks
  pub part_read : (count : ℕ) (staged : Bool) → AreCountedIn (group_state_of a) run count staged → AreCountedAs olds (group_span run) count staged
  part_read count staged all n is =
      let fits = good_span run mine.good in
      let at = block_of_number run mine.good n is.from is.below in
      let here : is_in_group (group_state_of a) at.0 ≡ true = grind (arith, nat_tests, at.2, mine.here) in
      let inside : is_within run.start.0 run.len at.0 ≡ true =
      sym (within_here (group_state_of a) run mine at.0 here) ∙ (let from = is.from in let below = is.below in let block = at.1 in grind (arith, nat_tests)) in
      let told = all at.0 inside in
      let block : at.0 % GROUP_BLOCKS ≡ n = at.1 in
      record {
        owners = ap (count_at olds) (sym block) ∙ (let c = count_read a s before at.0 in let told_count = told.0 in grind (arith, here, c, told_count));
        kind = ap (is_staged_at olds) (sym block) ∙ (let c = staged_read a s before at.0 in let told_kind = told.1 in grind (arith, here, c, told_kind));
      }

  pub staged_part_read : AreStagedIn (group_state_of a) run → (n : ℕ) → IsIn (group_span run) n → is_staged_at olds n ≡ true
  staged_part_read all n is =
      let at = block_of_number run mine.good n is.from is.below in
      let here : is_in_group (group_state_of a) at.0 ≡ true = grind (arith, nat_tests, at.2, mine.here) in
      let inside : is_within run.start.0 run.len at.0 ≡ true =
      sym (within_here (group_state_of a) run mine at.0 here) ∙ (let from = is.from in let below = is.below in let block = at.1 in grind (arith, nat_tests)) in
      let told = all at.0 inside in
      ap (is_staged_at olds) (sym at.1) ∙ (let c = staged_read a s before at.0 in grind (arith, here, c, told))

  start_here : is_in_group (group_state_of a) run.start.0 ≡ true
  start_here = grind (arith, nat_tests, mine.here)

  pub start_count : owner_count_in (group_state_of a) run.start.0 ≡ count_at olds (group_span run).start
  start_count = let c = count_read a s before run.start.0 in grind (arith, start_here, c)

  pub alike_read : AreOwnedAlikeIn (group_state_of a) run → AreOwnedAlike olds (group_span run)
  alike_read all = part_read (count_at olds (group_span run).start) false (subst (λ (n : ℕ). AreCountedIn (group_state_of a) run n false) start_count all)

  -- an address of the group is counted as its block is
  counted_seen : (x count : ℕ) (staged : Bool) → is_in_group (group_state_of a) x ≡ true → IsCountedAs olds (x % GROUP_BLOCKS) count staged
      → IsCountedIn (group_state_of a) x count staged
  counted_seen x count staged here is =
      let c = count_read a s before x in
      let k = staged_read a s before x in
      let owners = is.owners in
      let kind = is.kind in (grind (arith, here, c, owners), grind (arith, here, k, kind))

  counted_read : (x count : ℕ) (staged : Bool) → is_in_group (group_state_of a) x ≡ true → IsCountedIn (group_state_of a) x count staged
      → IsCountedAs olds (x % GROUP_BLOCKS) count staged
  counted_read x count staged here is =
      let c = count_read a s before x in
      let k = staged_read a s before x in
      let owners = is.0 in
      let kind = is.1 in record { owners = grind (arith, here, c, owners); kind = grind (arith, here, k, kind) }

  module _ (part : CountedSpan) (first : IsFirstEqual olds (group_span run) part) where
    pub first_part_read : IsFirstPart (group_state_of a) run (record { run = record { start = run.start; len = part.run.len }; count = part.count; staged = part.staged })
    first_part_read = record {
      start = refl;
      some = first.some;
      within = first.within;
      alike = λ x within.
          let fits = first.within in
          let begins = first.start in
          let from : run.start.0 ≤ x = grind (arith, nat_tests) in
          let below : x < run.start.0 + part.run.len = grind (arith, nat_tests) in
          let until : x < run.start.0 + run.len = omega (arith, below, fits) in
          let number = same_group run mine.good x from until in
          let after = block_after run mine.good x from until in
          let here : is_in_group (group_state_of a) x ≡ true = grind (arith, nat_tests, number, mine.here) in
          counted_seen x part.count part.staged here
          (first.alike (x % GROUP_BLOCKS) (record { from = omega (arith, begins, after, from); below = omega (arith, begins, after, below) }));
      longest = λ less is.
          let begins = first.start in
          let x : ℕ = run.start.0 + part.run.len in
          let number = same_group run mine.good x (omega arith) (omega (arith, less)) in
          let after = block_after run mine.good x (omega arith) (omega (arith, less)) in
          let here : is_in_group (group_state_of a) x ≡ true = grind (arith, nat_tests, number, mine.here) in
          let place : x % GROUP_BLOCKS ≡ end_of part.run = omega (arith, begins, after) in
          first.longest less (subst (λ (n : ℕ). IsCountedAs olds n part.count part.staged) place (counted_read x part.count part.staged here is));
    }

  module _ (b : Blocks) (t : Trees) (after : HasGroup b t) (same : b.owner ≡ a.owner) where
    abbrev news : List Reference
    news = reference_records b t.counts

    still : (x : ℕ) → is_in_group (group_state_of b) x ≡ is_in_group (group_state_of a) x
    still x = ap (λ (n : ℕ). x / GROUP_BLOCKS == n) same

    -- in the group and out of it
    each_count : (change : ℕ → ℕ) → ((n : ℕ) → count_at news n ≡ (if is_in_run (group_span run) n then change (count_at olds n) else count_at olds n))
        → (x : ℕ) → owner_count_in (group_state_of b) x ≡ (if is_within run.start.0 run.len x then change (owner_count_in (group_state_of a) x) else owner_count_in (group_state_of a) x)
    each_count change told x = ⊎_elim
        (λ (here : is_in_group (group_state_of a) x ≡ true).
        let now = count_read b t after x in
        let was = count_read a s before x in
        let place = within_here (group_state_of a) run mine x here in
        let at = told (x % GROUP_BLOCKS) in
        rw (now, still x, was, here, at, place) refl)
        (λ (other : is_in_group (group_state_of a) x ≡ false).
        let now = count_read b t after x in
        let was = count_read a s before x in
        let place = without_here (group_state_of a) run mine x other in
        rw (now, still x, was, other, place) refl)
        (cases_Bool (is_in_group (group_state_of a) x))

    each_staged : (change : Bool → Bool → Bool) → change false false ≡ false
        → ((n : ℕ) → is_staged_at news n ≡ change (is_staged_at olds n) (is_in_run (group_span run) n))
        → (x : ℕ) → has_staged (group_state_of b) x ≡ change (has_staged (group_state_of a) x) (is_within run.start.0 run.len x)
    each_staged change none told x = ⊎_elim
        (λ (here : is_in_group (group_state_of a) x ≡ true).
        let now = staged_read b t after x in
        let was = staged_read a s before x in
        let place = within_here (group_state_of a) run mine x here in
        let at = told (x % GROUP_BLOCKS) in
        rw (now, still x, was, here, at, place) refl)
        (λ (other : is_in_group (group_state_of a) x ≡ false).
        let now = staged_read b t after x in
        let was = staged_read a s before x in
        let place = without_here (group_state_of a) run mine x other in
        rw (now, still x, was, other, place) (sym none))
        (cases_Bool (is_in_group (group_state_of a) x))

    pub raises_read : Raises olds (group_span run) news → RaisesCounts run (group_state_of a) (group_state_of b)
    raises_read step = record {
      counts = each_count (λ (n : ℕ). n + 1) step.counts;
      staged = each_staged (λ (was place : Bool). was) refl step.staged;
    }

    pub lowers_read : Lowers olds (group_span run) news → LowersCounts run (group_state_of a) (group_state_of b)
    lowers_read step = record {
      counts = each_count (λ (n : ℕ). n - 1) step.counts;
      staged = each_staged (λ (was place : Bool). was) refl step.staged;
    }

    same_counts : ((n : ℕ) → count_at news n ≡ count_at olds n) → (x : ℕ) → owner_count_in (group_state_of b) x ≡ owner_count_in (group_state_of a) x
    same_counts told x =
        let now = count_read b t after x in
        let was = count_read a s before x in
        let at = told (x % GROUP_BLOCKS) in
        rw (now, still x, was, at) refl

    pub stages_read : StagesRun olds (group_span run) news → StagesAddresses run (group_state_of a) (group_state_of b)
    stages_read step = record {
      counts = same_counts step.counts;
      staged = each_staged (λ (was place : Bool). was || place) refl step.staged;
    }

    pub unstages_read : UnstagesRun olds (group_span run) news → UnstagesAddresses run (group_state_of a) (group_state_of b)
    unstages_read step = record {
      counts = same_counts step.counts;
      staged = each_staged (λ (was place : Bool). was && not place) refl step.staged;
    }
