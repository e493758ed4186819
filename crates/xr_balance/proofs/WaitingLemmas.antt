-- Each block without an owner that isn't free is staged, or named by a lowering or a gift.
use Rattle.xr_balance.proofs.TotalLemmas.{count-kept}
use Rattle.std.proofs.Common.{◌≡◌, ℕ, ◌+◌, ◌*◌, ◌/◌, ◌<◌, ◌≤◌, zero, suc, List, eqb, arith, refl, ap, true, false, Bool, ⊎_elim, not}
use Rattle.std.specs.Prelude.{◌&&◌, ◌%◌}
use Rattle.std.proofs.lemmas.Bool.{cases_lt, cases_eq, ne_eqb}
use Rattle.std.proofs.lemmas.Nat.{div-mul-add, mod-mul-add}
use Rattle.xr_base.specs.declared.geometry.TheConstants.{GROUPS, GROUP_BLOCKS, FIRST_DATA_BLOCK, DATA_BLOCKS}
use Rattle.xr_maps.specs.FileMaps.{FileMaps}
use Rattle.xr_maps.specs.Holdings.{one_if, owners, sum_below}
use Rattle.xr_balance.specs.Lanes.{lane_total}
use Rattle.xr_balance.specs.Settled.{Committed, IsDataOf, IsSettled}
use Rattle.xr_balance.specs.Waiting.{FewBlocksWait, giving_back, sum_of_group, waiting}
use Rattle.xr_balance.specs.Works.{Debt, freed, lowered, sum_of_lanes, total}
use Rattle.xr_balance.proofs.ReadyLemmas.{total-by-lanes}
use Rattle.xr_balance.proofs.StepLaneLemmas.{below-add, below-swap}
use Rattle.xr_balance.proofs.SumLemmas.{at_most_one}

waits_for : {C : Committed} {P : List Debt} {M : FileMaps} {Q : ℕ → Bool} (b : ℕ) → IsSettled C P M Q → IsDataOf C b → waiting C M b ≤ one_if (Q b) + total (lowered b) P + total (freed b) P
waits_for {C} {P} {M} {Q} b was is_data = ⊎_elim
    (λ given. omega (arith, given, at_most_one (eqb (owners M b) 0 && not (C.is_free b))))
    (λ none. ⊎_elim
    (λ unowned. free_or (C.is_free b) refl unowned (omega (arith, none)))
    (λ owned. omega (arith, ap (λ t. one_if (t && not (C.is_free b))) (ne_eqb (owners M b) 0 owned)))
    (cases_eq (owners M b) 0))
    (cases_lt 0 (total (freed b) P))
  where
    free_or : (t : Bool) → C.is_free b ≡ t → owners M b ≡ 0 → total (freed b) P ≡ 0 → waiting C M b ≤ one_if (Q b) + total (lowered b) P + total (freed b) P
    free_or true e unowned none = omega (arith, ap (λ s. one_if (eqb (owners M b) 0 && not s)) e, no_and (eqb (owners M b) 0))
      where
        no_and : (s : Bool) → one_if (s && not true) ≡ 0
        no_and true = refl
        no_and false = refl
    free_or false e unowned none = omega (arith, at_most_one (eqb (owners M b) 0 && not (C.is_free b)), was.counts b is_data, count-kept C P b e none, was.blocks.counted_some b, unowned)

-- a data block of one of the first groups
data_of : (C : Committed) (group k : ℕ) → group < C.groups → group < GROUPS → k < DATA_BLOCKS → IsDataOf C (group * GROUP_BLOCKS + (FIRST_DATA_BLOCK + k))
data_of C group k there small below =
    let q : (group * GROUP_BLOCKS + (FIRST_DATA_BLOCK + k)) / GROUP_BLOCKS ≡ group = div-mul-add group GROUP_BLOCKS (FIRST_DATA_BLOCK + k) (omega (arith, below)) in
    let r : (group * GROUP_BLOCKS + (FIRST_DATA_BLOCK + k)) % GROUP_BLOCKS ≡ FIRST_DATA_BLOCK + k = mod-mul-add group GROUP_BLOCKS (FIRST_DATA_BLOCK + k) (omega (arith, below)) in
    (record { group = omega (arith, q, small); block = omega (arith, r) }, omega (arith, q, there))

below-le-in : (n : ℕ) (f g : ℕ → ℕ) → ((k : ℕ) → k < n → f k ≤ g k) → sum_below n f ≤ sum_below n g
unfolding sum_below
below-le-in zero f g le = omega arith
below-le-in (suc n) f g le = omega (arith, le n (omega arith), below-le-in n f g (λ k l. le k (omega (arith, l))))

pub few_blocks_wait : FewBlocksWait
few_blocks_wait held mine C P M Q group was lanes there small =
    let at : ℕ → ℕ = λ k. group * GROUP_BLOCKS + (FIRST_DATA_BLOCK + k) in
    let own : ℕ → ℕ → ℕ = λ l b. one_if (mine l b) + giving_back b l P in
    let lanes_of : (b : ℕ) → one_if (Q b) + total (lowered b) P + total (freed b) P ≡ sum_of_lanes (λ l. own l b) = λ b. omega (
      arith,
      lanes.staged_for b,
      total-by-lanes (lowered b) P was.parted.lanes,
      total-by-lanes (freed b) P was.parted.lanes,
      below-add 8 (λ j. lane_total (lowered b) (suc j) P) (λ j. lane_total (freed b) (suc j) P),
      below-add 8 (λ j. one_if (mine (suc j) b)) (λ j. giving_back b (suc j) P),
    ) in
    let each : sum_of_group group (waiting C M) ≤ sum_below DATA_BLOCKS (λ k. sum_of_lanes (λ l. own l (at k))) =
    below-le-in DATA_BLOCKS (λ k. waiting C M (at k)) (λ k. sum_of_lanes (λ l. own l (at k))) (λ k l. omega (arith, waits_for (at k) was (data_of C group k there small l), lanes_of (at k))) in
    omega (arith, each, below-swap 8 DATA_BLOCKS (λ j k. own (suc j) (at k)))
