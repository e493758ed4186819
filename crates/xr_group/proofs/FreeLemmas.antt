-- The free blocks of a group by addresses, and those of its trees by numbers of its blocks.
use Rattle.std.proofs.Common.{◌≡◌, ◌⊎◌, ◌↔◌, ℕ, ◌+◌, ◌*◌, ◌/◌, ◌%◌, ◌<◌, ◌≤◌, Bool, true, false, min, List, sym, ap, subst, ◌∙◌, inl, inr, ⊎_elim, arith}
use Rattle.std.proofs.lemmas.Bool.{cases_Bool, false_from_ne_true}
use Rattle.std.proofs.lemmas.Bool.Decides.{nat_tests}
use Rattle.std.proofs.lemmas.List.Folds.{Any-from_list_any, list_any_at}
use Rattle.std.proofs.lemmas.List.Elements.{All-contains}
use Rattle.std.specs.List.{list_any}
use Rattle.xr_base.specs.Address.{block_number}
use Rattle.xr_base.specs.declared.address.Run.{Run}
use Rattle.xr_base.specs.declared.geometry.TheConstants.{GROUP_BLOCKS}
use Rattle.xr_change.specs.SetLaws.{agree_in}
use Rattle.xr_group.proofs.AddressLemmas.{block_of_number, same_test}
use Rattle.xr_group.proofs.CountLemmas.{within_here, without_here}
use Rattle.xr_group.proofs.GroupPoolLemmas.{records_read}
use Rattle.xr_group.specs.Group.{IsRunOf, records_now}
use Rattle.xr_group.specs.Sets.{run_at}
use Rattle.xr_group.specs.Parts.{HasGroup, group_state_of}
use Rattle.xr_group.specs.Sets.{GivesFree, HasNoFreeOf, IsFirstFree, IsPaired, TakesFree, has_free, is_in_group, group_span}
use Rattle.xr_group.specs.Trees.{GroupRecords}
use Rattle.xr_group.specs.declared.trees.Trees.{Trees}
use Rattle.xr_kinds.specs.FreeRuns.{block_form, block_span, by_block}
use Rattle.xr_kinds.specs.FreeRunLaws.{is_block_form}
use Rattle.xr_kinds.specs.SpanLaws.{group_run}
use Rattle.xr_kinds.specs.Spans.{IsIn, end_of, is_group_run}
use Rattle.xr_kinds.specs.declared.free_runs.ByBlock.{ByBlock}
use Rattle.xr_kinds.specs.declared.span.Span.{Span}
use Rattle.xr_maps.specs.Steps.{is_within}
use Rattle.xr_pool.specs.Overlay.{Blocks}
use Rattle.xr_refcount.specs.Counts.{is_in_run}
use Rattle.xr_space.specs.Space.{ArePaired, IsFreeBlock, IsFrontOfLowest, block_records, size_records}

in_run_is : (s : Span) (n : ℕ) → is_in_run s n ≡ true → IsIn s n
in_run_is s n test = record { from = grind (arith, nat_tests); below = grind (arith, nat_tests) }

is_in_run_of : (s : Span) (n : ℕ) → IsIn s n → is_in_run s n ≡ true
is_in_run_of s n is = let from = is.from in let below = is.below in grind (arith, nat_tests)

module _ (b : Blocks) (t : Trees) (h : HasGroup b t) where
  runs_same : (records_now (group_state_of b)).by_block ≡ block_records b t.space
  runs_same = ap (λ (x : GroupRecords). x.by_block) (records_read b t h)

  sizes_same : (records_now (group_state_of b)).by_size ≡ size_records b t.space
  sizes_same = ap (λ (x : GroupRecords). x.by_size) (records_read b t h)

  pub paired_seen : ArePaired b t.space → IsPaired (group_state_of b)
  paired_seen paired run = (λ held. rw sizes_same (paired.sized run (rw runs_same at held)), λ held. rw runs_same (paired.free run (rw sizes_same at held)))

  pub paired_read : IsPaired (group_state_of b) → ArePaired b t.space
  paired_read paired = record {
    sized = λ run held. rw sizes_same at ((paired run).0 (rw (← runs_same) at held));
    free = λ run held. rw runs_same at ((paired run).1 (rw (← sizes_same) at held));
  }

  module _ (a : ℕ) where
    abbrev holds : ByBlock → Bool
    holds r = is_in_run (block_span r) (a % GROUP_BLOCKS)

    pub free_is : has_free (group_state_of b) a ≡ true → (a / GROUP_BLOCKS ≡ b.owner) × IsFreeBlock b t.space (a % GROUP_BLOCKS)
    free_is is =
        let any : list_any holds (records_now (group_state_of b)).by_block ≡ true = grind (arith, nat_tests) in
        let here : a / GROUP_BLOCKS ≡ b.owner = grind (arith, nat_tests) in
        let found = Any-from_list_any holds (block_records b t.space) (subst (λ (xs : List ByBlock). list_any holds xs ≡ true) runs_same any) in
        (here, (block_span found.1, (found.0, found.2, found.3), in_run_is (block_span found.1) (a % GROUP_BLOCKS) found.4))

    pub is_free_of : a / GROUP_BLOCKS ≡ b.owner → IsFreeBlock b t.space (a % GROUP_BLOCKS) → has_free (group_state_of b) a ≡ true
    is_free_of here (run, held, is) =
        let test : holds (by_block run) ≡ true = is_in_run_of run (a % GROUP_BLOCKS) is in
        let any : list_any holds (block_records b t.space) ≡ true =
        list_any_at holds (block_records b t.space) held.0 (by_block run) held.1 (subst (λ (x : ByBlock). holds x ≡ true) (sym held.2) test) in
        let all : list_any holds (records_now (group_state_of b)).by_block ≡ true = subst (λ (xs : List ByBlock). list_any holds xs ≡ true) (sym runs_same) any in
        grind (arith, nat_tests, here, all)

module _ (run : Run) (a : Blocks) (s : Trees) (before : HasGroup a s) (mine : IsRunOf (group_state_of a) run) where
  number_is : (x : ℕ) → x / GROUP_BLOCKS ≡ a.owner → is_in_group (group_state_of a) x ≡ true
  number_is x here = grind (arith, nat_tests, here)

  pub in_span : (x : ℕ) → x / GROUP_BLOCKS ≡ a.owner → is_within run.start.0 run.len x ≡ true → IsIn (group_span run) (x % GROUP_BLOCKS)
  in_span x here is = in_run_is (group_span run) (x % GROUP_BLOCKS) (within_here (group_state_of a) run mine x (number_is x here) ∙ is)

  pub from_span : (x : ℕ) → x / GROUP_BLOCKS ≡ a.owner → IsIn (group_span run) (x % GROUP_BLOCKS) → is_within run.start.0 run.len x ≡ true
  from_span x here is = sym (within_here (group_state_of a) run mine x (number_is x here)) ∙ is_in_run_of (group_span run) (x % GROUP_BLOCKS) is

  pub here_if_within : (x : ℕ) → is_within run.start.0 run.len x ≡ true → x / GROUP_BLOCKS ≡ a.owner
  here_if_within x is = ⊎_elim
      (λ (here : is_in_group (group_state_of a) x ≡ true). grind (arith, nat_tests, here))
      (λ (other : is_in_group (group_state_of a) x ≡ false). let out = without_here (group_state_of a) run mine x other in absurd cc)
      (cases_Bool (is_in_group (group_state_of a) x))

  pub none_free_read : HasNoFreeOf (group_state_of a) run → (n : ℕ) → IsIn (group_span run) n → ¬ (IsFreeBlock a s.space n)
  none_free_read none n is free =
      let at = block_of_number run mine.good n is.from is.below in
      let block : at.0 % GROUP_BLOCKS ≡ n = at.1 in
      let here = at.2 ∙ mine.here in
      let within = from_span at.0 here (subst (IsIn (group_span run)) (sym block) is) in
      let out = none at.0 within in
      let lie = is_free_of a s before at.0 here (subst (IsFreeBlock a s.space) (sym block) free) in absurd cc

  module _ (b : Blocks) (t : Trees) (after : HasGroup b t) (same : b.owner ≡ a.owner) where
    pub takes_read : ((n : ℕ) → IsFreeBlock b t.space n ↔ (IsFreeBlock a s.space n × ¬ (IsIn (group_span run) n))) → TakesFree run (group_state_of a) (group_state_of b)
    takes_read takes x = same_test _ _
        (λ now.
        let is = free_is b t after x now in
        let was = (takes (x % GROUP_BLOCKS)).0 is.1 in
        let old = is_free_of a s before x (is.0 ∙ same) was.0 in
        let out = false_from_ne_true (is_within run.start.0 run.len x) (λ within. was.1 (in_span x (is.0 ∙ same) within)) in
        grind (arith, old, out))
        (λ both.
        let was = free_is a s before x (grind (arith, both)) in
        let out : is_within run.start.0 run.len x ≡ false = grind (arith, both) in
        is_free_of b t after x (was.0 ∙ sym same) ((takes (x % GROUP_BLOCKS)).1 (was.1, λ within. let test = from_span x was.0 within in absurd cc)))

    pub gives_read : ((n : ℕ) → IsFreeBlock b t.space n ↔ (IsFreeBlock a s.space n ⊎ IsIn (group_span run) n)) → GivesFree run (group_state_of a) (group_state_of b)
    gives_read gives x = same_test _ _
        (λ now.
        let is = free_is b t after x now in
        ⊎_elim
        (λ (was : IsFreeBlock a s.space (x % GROUP_BLOCKS)). let old = is_free_of a s before x (is.0 ∙ same) was in grind (arith, old))
        (λ (new : IsIn (group_span run) (x % GROUP_BLOCKS)). let test = from_span x (is.0 ∙ same) new in grind (arith, test))
        ((gives (x % GROUP_BLOCKS)).0 is.1))
        (λ either. ⊎_elim
        (λ (old : has_free (group_state_of a) x ≡ true).
        let was = free_is a s before x old in is_free_of b t after x (was.0 ∙ sym same) ((gives (x % GROUP_BLOCKS)).1 (inl was.1)))
        (λ (out : has_free (group_state_of a) x ≡ false).
        let within : is_within run.start.0 run.len x ≡ true = grind (arith, either, out) in
        let here = here_if_within x within in
        is_free_of b t after x (here ∙ sym same) ((gives (x % GROUP_BLOCKS)).1 (inr (in_span x here within))))
        (cases_Bool (has_free (group_state_of a) x)))

-- the front of the first free run, by addresses
module _ (a : Blocks) (s : Trees) (before : HasGroup a s) (need : ℕ) (run : Span) (good : is_group_run run ≡ true)
    (front : IsFrontOfLowest a s.space need run) where
  limits : (512 ≤ run.start) × (0 < run.len) × (end_of run ≤ 2048)
  limits = group_run run good

  abbrev there : Run
  there = run_at a.owner run

  pub there_is : group_span there ≡ run
  there_is = let fits = limits in
      let start : block_number there.start ≡ run.start = omega (arith, fits) in λ i. record { start = start i; len = run.len }

  mine : IsRunOf (group_state_of a) there
  mine =
      let fits = limits in
      let known = before.valid.group in
      record {
        good = record {
          some = fits.1;
          data_blocks = λ i within. record { group = omega (arith, fits, known, within); block = omega (arith, fits, within) };
          one_group = λ i within. omega (arith, fits, within);
        };
        here = omega (arith, fits);
      }

  held_front : (n : ℕ) → IsIn run n → IsFreeBlock a s.space n
  held_front n is =
      let start = front.start in
      let len = front.len in
      let least : min need front.whole.len ≤ front.whole.len = grind (arith, nat_tests) in
      (front.whole, front.first.held, record { from = omega (arith, is.from, start); below = omega (arith, is.below, start, len, least) })

  -- the block behind it is free only if it is a part of its run
  next_taken : (there.start.0 + there.len) / GROUP_BLOCKS ≡ a.owner → IsFreeBlock a s.space ((there.start.0 + there.len) % GROUP_BLOCKS)
      → run.len < need → ⊥
  next_taken here (other, held, is) less =
      let fits = limits in
      let number : (there.start.0 + there.len) % GROUP_BLOCKS ≡ end_of run = omega (arith, fits, here) in
      let whole : end_of run ≡ end_of front.whole = let start = front.start in let len = front.len in grind (arith, nat_tests, less) in
      let from = is.from in
      let below = is.below in
      ⊎_elim
      (λ (same : by_block front.whole ≡ by_block other).
      let start = ap (λ (r : ByBlock). r.start) same in
      let long = ap (λ (r : ByBlock). r.len) same in omega (arith, number, whole, below, start, long))
      (λ (agree : block_form.agree (by_block front.whole) (by_block other) ≡ true). grind (arith, nat_tests, number, whole, from, below))
      (agree_in block_form is_block_form (block_records a s.space) before.trees.space.blocks.records (by_block front.whole) (by_block other) front.first.held held)

  pub front_read : IsFirstFree (group_state_of a) need there
  front_read = record {
    mine = mine;
    free = λ x within.
        let here = here_if_within there a s before mine x within in
        is_free_of a s before x here (held_front (x % GROUP_BLOCKS) (rw there_is at (in_span there a s before mine x here within)));
    first = λ x is.
        let found = free_is a s before x is in
        let low = front.first.lowest found.1.0 found.1.1 in
        let from = found.1.2.from in
        omega (arith, found.0, low, from, front.start);
    most = let least : min need front.whole.len ≤ need = grind (arith, nat_tests) in omega (arith, front.len, least);
    longest = λ less. false_from_ne_true _ (λ is.
        let found = free_is a s before (there.start.0 + there.len) is in
        absurd (next_taken found.0 found.1 less));
  }

  pub taken_read : (b : Blocks) (t : Trees) → HasGroup b t → b.owner ≡ a.owner
      → ((n : ℕ) → IsFreeBlock b t.space n ↔ (IsFreeBlock a s.space n × ¬ (IsIn run n))) → TakesFree there (group_state_of a) (group_state_of b)
  taken_read b t after same takes =
      takes_read there a s before mine b t after same
      (subst (λ (r : Span). (n : ℕ) → IsFreeBlock b t.space n ↔ (IsFreeBlock a s.space n × ¬ (IsIn r n))) (sym there_is) takes)

-- no block is free, by addresses and by blocks
pub no_free_seen : (a : Blocks) (s : Trees) → HasGroup a s → ((n : ℕ) → ¬ (IsFreeBlock a s.space n)) → (x : ℕ) → has_free (group_state_of a) x ≡ false
no_free_seen a s before none x =
    false_from_ne_true (has_free (group_state_of a) x) (λ is. let found = free_is a s before x is in none (x % GROUP_BLOCKS) found.1)

pub no_free_read : (a : Blocks) (s : Trees) → HasGroup a s → ((x : ℕ) → has_free (group_state_of a) x ≡ false) → (n : ℕ) → ¬ (IsFreeBlock a s.space n)
no_free_read a s before none n free =
    let r = free.0 in
    let good = group_run r (All-contains (λ (x : ByBlock). block_form.is_valid x ≡ true) (block_records a s.space) (by_block r)
    before.trees.space.blocks.records.valid free.1) in
    let below : n < GROUP_BLOCKS = omega (arith, free.2.below, good) in
    let x : ℕ = GROUP_BLOCKS * a.owner + n in
    let block : x % GROUP_BLOCKS ≡ n = omega (arith, below) in
    let here : x / GROUP_BLOCKS ≡ a.owner = omega (arith, below) in
    let lie = is_free_of a s before x here (subst (IsFreeBlock a s.space) (sym block) free) in
    let out = none x in absurd cc
