-- The sets of a group by addresses, and those of its trees by numbers of its blocks.
use Rattle.std.proofs.Common.{◌≡◌, ℕ, ◌+◌, ◌-◌, ◌*◌, ◌/◌, ◌%◌, ◌<◌, ◌≤◌, Bool, true, false, List, refl, sym, ap, subst, ◌∙◌, inl, inr, ⊎_elim, arith}
use Rattle.std.proofs.lemmas.Bool.{cases_Bool, false_from_ne_true}
use Rattle.std.proofs.lemmas.Bool.Decides.{nat_tests}
use Rattle.std.proofs.lemmas.List.Folds.{Any-from_list_any, list_any_at}
use Rattle.std.specs.List.{list_any}
use Rattle.xr_base.specs.Address.{IsGoodRun, block_number, group_number}
use Rattle.xr_base.specs.declared.address.Run.{Run}
use Rattle.xr_base.specs.declared.geometry.TheConstants.{GROUP_BLOCKS}
use Rattle.xr_group.proofs.GroupPoolLemmas.{records_read}
use Rattle.xr_group.specs.Group.{IsRunOf, records_now}
use Rattle.xr_group.specs.Parts.{HasGroup, group_state_of}
use Rattle.xr_group.specs.Sets.{AddsPairs, HasNoPairOf, HasPairsOf, RemovesPairs, has_pair, is_run_pair, says_pair, group_span}
use Rattle.xr_group.specs.Trees.{GroupRecords}
use Rattle.xr_group.specs.declared.trees.Trees.{Trees}
use Rattle.xr_kinds.specs.Reverse.{is_good_owner, is_reverse}
use Rattle.xr_kinds.specs.Spans.{end_of, is_group_run}
use Rattle.xr_kinds.specs.declared.reverse.Reverse.{Reverse}
use Rattle.xr_pool.specs.Overlay.{Blocks}
use Rattle.xr_rmap.specs.Pairs.{IsPair}
use Rattle.xr_rmap.specs.Rmap.{GainsPairsOf, HasAllOf, HasNoneOf, HasPair, LosesPairsOf, owned_run, owner_records}

-- two tests that hold together are one
pub same_test : (p q : Bool) → (p ≡ true → q ≡ true) → (q ≡ true → p ≡ true) → p ≡ q
same_test true true one other = refl
same_test true false one other = sym (one refl)
same_test false true one other = other refl
same_test false false one other = refl

-- a good run stands in one group, among its data blocks
pub good_span : (run : Run) → IsGoodRun run → is_group_run (group_span run) ≡ true
good_span run good =
    let first = good.data_blocks 0 good.some in
    let last = good.one_group (run.len - 1) (omega (arith, good.some)) in
    let within : end_of (group_span run) ≤ GROUP_BLOCKS = omega (arith, last, good.some) in
    grind (arith, nat_tests, first.block, within, good.some)

-- an address of the run is one of its group, and its block there is one of the run's
abbrev block_in : ℕ → ℕ
block_in a = a % GROUP_BLOCKS

module _ (run : Run) (good : IsGoodRun run) (a : ℕ) where
  ends : run.start.0 % GROUP_BLOCKS + run.len ≤ GROUP_BLOCKS
  ends = let last = good.one_group (run.len - 1) (omega (arith, good.some)) in omega (arith, last, good.some)

  pub same_group : run.start.0 ≤ a → a < run.start.0 + run.len → a / GROUP_BLOCKS ≡ group_number run.start
  same_group from below = omega (arith, from, below, ends)

  pub block_after : run.start.0 ≤ a → a < run.start.0 + run.len → block_in a + run.start.0 ≡ block_number run.start + a
  block_after from below = omega (arith, from, below, ends)

  pub address_from : a / GROUP_BLOCKS ≡ group_number run.start → block_number run.start ≤ block_in a → run.start.0 ≤ a
  address_from here from = omega (arith, here, from)

  pub address_below : a / GROUP_BLOCKS ≡ group_number run.start → block_in a < block_number run.start + run.len → a < run.start.0 + run.len
  address_below here below = omega (arith, here, below)

-- the address of a block of the run
pub block_of_number : (run : Run) → IsGoodRun run → (n : ℕ) → block_number run.start ≤ n → n < block_number run.start + run.len
    → (x : ℕ) × (block_in x ≡ n) × (x / GROUP_BLOCKS ≡ group_number run.start)
block_of_number run good n from below =
    let fits = ends run good 0 in
    let small : n < GROUP_BLOCKS = omega (arith, below, fits) in
    (group_number run.start * GROUP_BLOCKS + n, omega (arith, small), omega (arith, small))

pub pair_says : (r : Reverse) (w o n : ℕ) → IsPair r w o n → says_pair r w o n ≡ true
pair_says r w o n is = grind (arith, nat_tests, is.same_owner, is.from, is.below, is.at)

pub says_is : (r : Reverse) (w o n : ℕ) → says_pair r w o n ≡ true → IsPair r w o n
says_is r w o n says = record {
  same_owner = grind (arith, nat_tests);
  from = grind (arith, nat_tests);
  below = grind (arith, nat_tests);
  at = grind (arith, nat_tests);
}

-- the pairs of a run
module _ (run : Run) (owner off : ℕ) (good : IsGoodRun run) (w o a : ℕ) where
  pub run_pair_is : is_run_pair run owner off w o a ≡ true → (a / GROUP_BLOCKS ≡ group_number run.start) × IsPair (owned_run (group_span run) owner off) w o (block_in a)
  run_pair_is is =
      let from : run.start.0 ≤ a = grind (arith, nat_tests) in
      let below : a < run.start.0 + run.len = grind (arith, nat_tests) in
      let after = block_after run good a from below in (
        same_group run good a from below,
        record {
          same_owner = grind (arith, nat_tests);
          from = omega (arith, after, from);
          below = omega (arith, after, below);
          at = grind (arith, nat_tests, after, from, below);
        },
      )

  pub pair_in_run : a / GROUP_BLOCKS ≡ group_number run.start → IsPair (owned_run (group_span run) owner off) w o (block_in a) → is_run_pair run owner off w o a ≡ true
  pair_in_run here is =
      let from = address_from run good a here is.from in
      let below = address_below run good a here is.below in
      let after = block_after run good a from below in
      grind (arith, nat_tests, from, below, after, is.same_owner, is.at)

-- the pairs of a group
module _ (b : Blocks) (t : Trees) (h : HasGroup b t) (w o a : ℕ) where
  records_same : (records_now (group_state_of b)).reverse ≡ owner_records b t.rmap
  records_same = ap (λ (x : GroupRecords). x.reverse) (records_read b t h)

  abbrev says : Reverse → Bool
  says r = says_pair r w o (block_in a)

  pub pair_is : has_pair (group_state_of b) w o a ≡ true → (a / GROUP_BLOCKS ≡ b.owner) × HasPair b t.rmap w o (block_in a)
  pair_is is =
      let any : list_any says (records_now (group_state_of b)).reverse ≡ true = grind (arith, nat_tests) in
      let here : a / GROUP_BLOCKS ≡ b.owner = grind (arith, nat_tests) in
      let found = Any-from_list_any says (owner_records b t.rmap) (subst (λ (xs : List Reverse). list_any says xs ≡ true) records_same any) in
      (here, (found.1, (found.0, found.2, found.3), says_is found.1 w o (block_in a) found.4))

  pub is_pair_of : a / GROUP_BLOCKS ≡ b.owner → HasPair b t.rmap w o (block_in a) → has_pair (group_state_of b) w o a ≡ true
  is_pair_of here (r, held, is) =
      let test : says r ≡ true = pair_says r w o (block_in a) is in
      let any : list_any says (owner_records b t.rmap) ≡ true =
      list_any_at says (owner_records b t.rmap) held.0 r held.1 (subst (λ (x : Reverse). says x ≡ true) (sym held.2) test) in
      let all : list_any says (records_now (group_state_of b)).reverse ≡ true = subst (λ (xs : List Reverse). list_any says xs ≡ true) (sym records_same) any in
      grind (arith, nat_tests, here, all)

module _ (run : Run) (owner off : ℕ) (a : Blocks) (s : Trees) (before : HasGroup a s) (mine : IsRunOf (group_state_of a) run) where
  pub none_read : HasNoPairOf (group_state_of a) run owner off → HasNoneOf a s.rmap (owned_run (group_span run) owner off)
  none_read none w o n is held =
      let at = block_of_number run mine.good n is.from is.below in
      let test = pair_in_run run owner off mine.good w o at.0 at.2 (rw at.1 is) in
      let has = is_pair_of a s before w o at.0 (at.2 ∙ mine.here) (rw at.1 held) in
      let out = none w o at.0 test in absurd cc

  pub all_read : HasPairsOf (group_state_of a) run owner off → HasAllOf a s.rmap (owned_run (group_span run) owner off)
  all_read all w o n is =
      let at = block_of_number run mine.good n is.from is.below in
      let test = pair_in_run run owner off mine.good w o at.0 at.2 (rw at.1 is) in
      let has = pair_is a s before w o at.0 (all w o at.0 test) in
      rw at.1 at has.1

  module _ (b : Blocks) (t : Trees) (after : HasGroup b t) (same : b.owner ≡ a.owner) where
    in_run : (w o x : ℕ) → is_run_pair run owner off w o x ≡ true → (x / GROUP_BLOCKS ≡ b.owner) × IsPair (owned_run (group_span run) owner off) w o (block_in x)
    in_run w o x is = let both = run_pair_is run owner off mine.good w o x is in (both.0 ∙ mine.here ∙ sym same, both.1)

    pub adds_read : GainsPairsOf (owned_run (group_span run) owner off) a s.rmap b t.rmap → AddsPairs run owner off (group_state_of a) (group_state_of b)
    adds_read gains w o x = same_test _ _
        (λ now.
        let has = pair_is b t after w o x now in
        ⊎_elim
        (λ (was : HasPair a s.rmap w o (block_in x)). let old = is_pair_of a s before w o x (has.0 ∙ same) was in grind (arith, old))
        (λ (new : IsPair (owned_run (group_span run) owner off) w o (block_in x)).
        let test = pair_in_run run owner off mine.good w o x (has.0 ∙ same ∙ sym mine.here) new in grind (arith, test))
        ((gains w o (block_in x)).0 has.1))
        (λ either. ⊎_elim
        (λ (old : has_pair (group_state_of a) w o x ≡ true).
        let was = pair_is a s before w o x old in is_pair_of b t after w o x (was.0 ∙ sym same) ((gains w o (block_in x)).1 (inl was.1)))
        (λ (out : has_pair (group_state_of a) w o x ≡ false).
        let new = in_run w o x (grind (arith, either, out)) in is_pair_of b t after w o x new.0 ((gains w o (block_in x)).1 (inr new.1)))
        (cases_Bool (has_pair (group_state_of a) w o x)))

    pub removes_read : LosesPairsOf (owned_run (group_span run) owner off) a s.rmap b t.rmap → RemovesPairs run owner off (group_state_of a) (group_state_of b)
    removes_read loses w o x = same_test _ _
        (λ now.
        let has = pair_is b t after w o x now in
        let kept = (loses w o (block_in x)).0 has.1 in
        let old = is_pair_of a s before w o x (has.0 ∙ same) kept.0 in
        let out = false_from_ne_true (is_run_pair run owner off w o x) (λ is. let new = in_run w o x is in kept.1 new.1) in
        grind (arith, old, out))
        (λ either.
        let was = pair_is a s before w o x (grind (arith, either)) in
        let out : is_run_pair run owner off w o x ≡ false = grind (arith, either) in
        is_pair_of b t after w o x (was.0 ∙ sym same) ((loses w o (block_in x)).1 (
          was.1,
          λ new. let test = pair_in_run run owner off mine.good w o x (was.0 ∙ sym mine.here) new in absurd cc,
        )))

pub good_owned : (run : Run) (owner off : ℕ) → IsGoodRun run → is_good_owner (owned_run (group_span run) owner off) ≡ true
    → is_reverse (owned_run (group_span run) owner off) ≡ true
good_owned run owner off good valid = let fits = good_span run good in grind (arith, fits, valid)
