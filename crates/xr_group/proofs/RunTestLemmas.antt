-- What is asked of a run by addresses is so of its blocks in the trees, and the other way round.
use Rattle.std.proofs.Common.{◌≡◌, ◌↔◌, ℕ, ◌%◌, Bool, true, false, not, max, Option, Some, None, IsTrue, refl, ◌∙◌, arith}
use Rattle.std.proofs.lemmas.Bool.{false_from_ne_true}
use Rattle.std.proofs.lemmas.Bool.Decides.{nat_tests}
use Rattle.std.proofs.lemmas.List.Elements.{All-contains}
use Rattle.std.specs.Option.{is_some}
use Rattle.xr_base.specs.declared.address.Run.{Run}
use Rattle.xr_base.specs.declared.geometry.TheConstants.{GROUP_BLOCKS}
use Rattle.xr_group.proofs.AddressLemmas.{is_pair_of, pair_is, run_pair_is}
use Rattle.xr_group.proofs.FreeLemmas.{free_is, here_if_within, in_span}
use Rattle.xr_group.specs.Group.{IsRunOf}
use Rattle.xr_group.specs.Parts.{HasGroup, group_state_of}
use Rattle.xr_group.specs.Sets.{HasNoFreeOf, HasNoPairOf, HasPairsOf, group_span, has_free, has_pair}
use Rattle.xr_group.specs.declared.trees.Trees.{Trees}
use Rattle.xr_kinds.specs.FreeRuns.{block_form, block_span, by_block}
use Rattle.xr_kinds.specs.Spans.{IsIn}
use Rattle.xr_kinds.specs.declared.free_runs.ByBlock.{ByBlock}
use Rattle.xr_kinds.specs.declared.span.Span.{Span}
use Rattle.xr_lookup.specs.Lookup.{AreUnwanted, FindsLeast, IsLeast, overlaps}
use Rattle.xr_pool.specs.Overlay.{Blocks}
use Rattle.xr_rmap.specs.Rmap.{HasAllOf, HasNoneOf, owned_run}
use Rattle.xr_space.specs.Space.{IsFreeBlock, block_records}

module _ (run : Run) (a : Blocks) (s : Trees) (h : HasGroup a s) (mine : IsRunOf (group_state_of a) run) where
  pub none_seen : (owner off : ℕ) → HasNoneOf a s.rmap (owned_run (group_span run) owner off) → HasNoPairOf (group_state_of a) run owner off
  none_seen owner off none w o x is =
      let at = run_pair_is run owner off mine.good w o x is in
      false_from_ne_true (has_pair (group_state_of a) w o x) (λ has. let there = pair_is a s h w o x has in none w o (x % GROUP_BLOCKS) at.1 there.1)

  pub all_seen : (owner off : ℕ) → HasAllOf a s.rmap (owned_run (group_span run) owner off) → HasPairsOf (group_state_of a) run owner off
  all_seen owner off all w o x is =
      let at = run_pair_is run owner off mine.good w o x is in is_pair_of a s h w o x (at.0 ∙ mine.here) (all w o (x % GROUP_BLOCKS) at.1)

  pub none_free_seen : ((n : ℕ) → IsIn (group_span run) n → ¬ (IsFreeBlock a s.space n)) → HasNoFreeOf (group_state_of a) run
  none_free_seen none x within =
      let here = here_if_within run a s h mine x within in
      false_from_ne_true (has_free (group_state_of a) x) (λ has.
      let there = free_is a s h x has in none (x % GROUP_BLOCKS) (in_span run a s h mine x here within) there.1)

-- no free run meets a run exactly where none of its blocks is free
module _ (b : Blocks) (t : Trees) (run : Span) where
  abbrev meets : ByBlock → Bool
  meets = overlaps block_form (by_block run) None

  abbrev HasNoFreeBlock : Type 0
  HasNoFreeBlock = (n : ℕ) → IsIn run n → ¬ (IsFreeBlock b t.space n)

  none_meets : AreUnwanted meets (block_records b t.space) → HasNoFreeBlock
  none_meets none n is (s, held, has) =
      let out = All-contains (λ (x : ByBlock). meets x ≡ false) (block_records b t.space) (by_block s) none held in
      let from = is.from in
      let below = is.below in
      let start = has.from in
      let last = has.below in
      absurd (grind (arith, nat_tests, out, from, below, start, last))

  one_meets : (x : ByBlock) → IsLeast block_form (block_records b t.space) meets x → ¬ HasNoFreeBlock
  one_meets x least none =
      let fits = least.fits in
      let n : ℕ = max x.start run.start in
      let mine : IsIn run n = record { from = grind (arith, nat_tests); below = grind (arith, nat_tests, fits) } in
      let free : IsIn (block_span x) n = record { from = grind (arith, nat_tests); below = grind (arith, nat_tests, fits) } in
      none n mine (block_span x, least.held, free)

  pub none_found : (found : Option ByBlock) (test : Bool) → FindsLeast block_form (block_records b t.space) meets found → is_some found ≡ not test
      → IsTrue test ↔ HasNoFreeBlock
  none_found None true none is = (λ told. none_meets none, λ told. refl)
  none_found None false none is = absurd cc
  none_found (Some x) true least is = absurd cc
  none_found (Some x) false least is = (λ lie. absurd cc, λ told. absurd (one_meets x least told))
