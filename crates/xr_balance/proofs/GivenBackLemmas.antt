-- What a lane gives back: no more after a roll, and after a first commit at most what the step is long.
use Rattle.std.proofs.Common.{◌≡◌, ℕ, ◌+◌, ◌*◌, ◌≤◌, zero, suc, List, arith, refl, ap, sym, ◌∙◌, true, false, Bool, ⊎_elim, ◌-◌, Option, Some, None, map, subst}
use Rattle.std.specs.Prelude.{sum_by}
use Rattle.std.proofs.lemmas.Bool.{cases_eq, cases_lt, ne_eqb}
use Rattle.std.proofs.lemmas.List.Sums.{sum_by-cons, sum_by-append}
use Rattle.xr_base.specs.declared.address.FileNo.{FileNo}
use Rattle.xr_base.specs.declared.address.Run.{Run}
use Rattle.xr_base.specs.declared.geometry.TheConstants.{DATA_BLOCKS, FIRST_DATA_BLOCK, GROUP_BLOCKS}
use Rattle.xr_maps.specs.FileMaps.{FileMaps}
use Rattle.xr_maps.specs.declared.steps.Step.{Step}
use Rattle.xr_maps.specs.declared.steps.Step.TheVariants.{Remap, Punch, Exchange}
use Rattle.xr_maps.specs.Steps.{is_within}
use Rattle.xr_maps.specs.Holdings.{one_if, sum_below}
use Rattle.xr_items.specs.declared.work.Work.{Work}
use Rattle.xr_items.specs.declared.work.Work.TheVariants.{Free, Own, Count, Map, Swap}
use Rattle.xr_items.specs.declared.work.CountKind.TheVariants.{Increase, Decrease, AllocCow, FreeCow}
use Rattle.xr_balance.specs.FirstGives.{FirstGives}
use Rattle.xr_balance.specs.Lanes.{lane_total}
use Rattle.xr_balance.specs.Pieces.{IsHoleOrRun}
use Rattle.xr_balance.specs.RollGives.{RollGives, works_of_rest}
use Rattle.xr_balance.specs.Rolls.{Rolls, in_lane, works_of_freed}
use Rattle.xr_balance.specs.Settled.{Committed}
use Rattle.xr_balance.specs.Waiting.{FirstGivesBack, RollGivesNoMoreBack, giving_back, step_length, sum_of_group}
use Rattle.xr_balance.specs.Works.{Debt, freed, lowered, total}
use Rattle.xr_balance.proofs.ChainLemmas.{chain-rolls, chain-rolls-other}
use Rattle.xr_balance.proofs.CountRolls.{rest-none, rest-sum}
use Rattle.xr_balance.proofs.CountSlots.{sum_below-none}
use Rattle.xr_balance.proofs.LastLowering.{above_none, below_none, freed_left, in_parts, lowered_left, rest_of_run}
use Rattle.xr_balance.proofs.PieceLemmas.{IsRow, blocks_of, row_of_fresh, row_of_punch, row_of_share}
use Rattle.xr_balance.proofs.PieceRows.{uncounted}
use Rattle.xr_balance.proofs.StepLaneLemmas.{begun-other, begun-own, below-add, below-le, below-unique}
use Rattle.xr_balance.proofs.SumLemmas.{run-range}
use Rattle.xr_balance.proofs.TotalLemmas.{sum_by-in_lane}

-- what a roll leaves lowers and gives at most the blocks that its work did
no_more : (b : ℕ) (C C' : Committed) (w : Work) (new : List Work) → RollGives C w C' new → sum_by (lowered b) new + sum_by (freed b) new ≤ lowered b w + freed b w
no_more b C C' (Map kind file off run) new gives = omega (arith, ap (sum_by (lowered b)) gives.new_is, ap (sum_by (freed b)) gives.new_is)
no_more b C C' (Own kind owner off run) new gives = omega (arith, ap (sum_by (lowered b)) gives.new_is, ap (sum_by (freed b)) gives.new_is)
no_more b C C' (Count AllocCow run) new gives = omega (arith, ap (sum_by (lowered b)) gives.new_is, ap (sum_by (freed b)) gives.new_is)
no_more b C C' (Count FreeCow run) new gives = omega (arith, ap (sum_by (lowered b)) gives.new_is, ap (sum_by (freed b)) gives.new_is)
no_more b C C' (Free run) new gives = omega (arith, ap (sum_by (lowered b)) gives.new_is, ap (sum_by (freed b)) gives.new_is)
no_more b C C' (Swap file off other other_off len) new gives = let it = uncounted gives.piece in omega (arith, it.lowers b, it.gives b)
no_more b C C' (Count Increase run) new gives = omega (
  arith,
  ap (sum_by (lowered b)) gives.new_is,
  ap (sum_by (freed b)) gives.new_is,
  rest-none (lowered b) Increase run gives.len refl,
  rest-none (freed b) Increase run gives.len refl,
)
no_more b C C' (Count Decrease run) new gives = ⊎_elim
    (λ one. let is : new ≡ works_of_freed run gives.len = gives.new_is ∙ rw one refl in
    omega (arith, ap (sum_by (lowered b)) is, ap (sum_by (freed b)) is, lowered_left b run gives.len gives.part.fits, freed_left b run gives.len))
    (λ more. let is : new ≡ works_of_rest Decrease run gives.len = gives.new_is ∙ rw (ne_eqb gives.count 1 more) refl in
    omega (arith, ap (sum_by (lowered b)) is, ap (sum_by (freed b)) is, rest-sum (lowered b) Decrease run gives.len, rest_of_run b run gives.len gives.part.fits, rest-none (freed b) Decrease run gives.len refl))
    (cases_eq gives.count 1)

lane_moves : (g : Work → ℕ) {P P' : List Debt} {i lane : ℕ} {w : Work} {new : List Work} → Rolls P i lane w new P' → lane_total g lane P' + g w ≡ lane_total g lane P + sum_by g new
lane_moves g {P} {P'} {i} {lane} {w} {new} rolls =
    let it = chain-rolls rolls in
    let h : Debt → ℕ = λ d. g d.work in
    let before : lane_total g lane P ≡ g w + total g it.0 = ap (total g) it.1 ∙ sum_by-cons h (in_lane lane w) it.0 in
    let after : lane_total g lane P' ≡ total g it.0 + sum_by g new = ap (total g) it.2 ∙ sum_by-append h it.0 (map (in_lane lane) new) ∙ ap (λ n. total g it.0 + n) (sum_by-in_lane g lane new) in
    omega (arith, before, after)

pub roll_gives_no_more_back : RollGivesNoMoreBack
roll_gives_no_more_back C C' P P' i lane w new rolls gives l b = ⊎_elim
    (λ e. omega (
      arith,
      lane_moves (lowered b) rolls,
      lane_moves (freed b) rolls,
      no_more b C C' w new gives,
      ap (λ m. giving_back b m P) e,
      ap (λ m. giving_back b m P') e,
    ))
    (λ ne. omega (arith, ap (λ c. total (lowered b) c + total (freed b) c) (chain-rolls-other rolls ne)))
    (cases_eq lane l)

-- a run has no more of some blocks than it is long
run_blocks : (n start len : ℕ) (at : ℕ → ℕ) → ((j k : ℕ) → at j ≡ at k → j ≡ k) → sum_below n (λ k. one_if (is_within start len (at k))) ≤ len
run_blocks n start zero at apart = omega (arith, sum_below-none n (λ k. one_if (is_within start 0 (at k))) (λ k _. ⊎_elim (λ low. below_none start 0 (at k) low) (λ high. above_none start 0 (at k) (omega (arith, high))) (cases_lt (at k) start)))
run_blocks n start (suc len) at apart =
    let one : suc len - len ≡ 1 = omega arith in
    let each : (k : ℕ) → one_if (is_within start (suc len) (at k)) ≤ one_if (is_within start len (at k)) + one_if (is_within (start + len) 1 (at k)) = λ k.
    omega (arith, in_parts start len (suc len) (at k) (omega arith), ap (λ m. one_if (is_within (start + len) m (at k))) one) in
    omega (
      arith,
      below-le n (λ k. one_if (is_within start (suc len) (at k))) (λ k. one_if (is_within start len (at k)) + one_if (is_within (start + len) 1 (at k))) each,
      below-add n (λ k. one_if (is_within start len (at k))) (λ k. one_if (is_within (start + len) 1 (at k))),
      run_blocks n start len at apart,
      below-unique n 1 (λ k. is_within (start + len) 1 (at k)) (λ j k p q.
          let a = run-range (start + len) 1 (at j) (ap one_if p) in
          let c = run-range (start + len) 1 (at k) (ap one_if q) in
          apart j k (omega (arith, a.0, a.1, c.0, c.1))),
    )

-- the blocks of a piece are no more than its offsets
piece_blocks : (group : ℕ) (maps : FileMaps) (file : FileNo) (off len : ℕ) (old : Option Run) → IsHoleOrRun maps file off len old → sum_of_group group (blocks_of old) ≤ len
piece_blocks group maps file off len None piece = omega (arith, sum_below-none DATA_BLOCKS (λ _. 0) (λ _ _. refl))
piece_blocks group maps file off len (Some run) piece = omega (
  arith,
  piece.1,
  run_blocks DATA_BLOCKS run.start.0 run.len (λ k. group * GROUP_BLOCKS + (FIRST_DATA_BLOCK + k)) (λ j k e. omega (arith, e)),
)

-- a row gives back what it takes out
row_back : {file : FileNo} {off len : ℕ} {old put : Option Run} {staged : Bool} {new : List Work} (maps : FileMaps) (group : ℕ) → IsRow file off old put staged new
    → IsHoleOrRun maps file off len old → sum_of_group group (λ b. sum_by (lowered b) new + sum_by (freed b) new) ≤ len
row_back {file} {off} {len} {old} {put} {staged} {new} maps group row piece = omega (
  arith,
  piece_blocks group maps file off len old piece,
  below-le DATA_BLOCKS (λ k. let b : ℕ = group * GROUP_BLOCKS + (FIRST_DATA_BLOCK + k) in sum_by (lowered b) new + sum_by (freed b) new) (λ k. blocks_of old (group * GROUP_BLOCKS + (FIRST_DATA_BLOCK + k)))
      (λ k. let b : ℕ = group * GROUP_BLOCKS + (FIRST_DATA_BLOCK + k) in omega (arith, row.lowers b, row.step.no_gift b)),
)

new_back : (held mine mine' : ℕ → ℕ → Bool) (C : Committed) (P P' : List Debt) (M : FileMaps) (Q Q' : ℕ → Bool) (lane group : ℕ) (step : Step) (staged : Bool)
    → (it : FirstGives held mine C P M Q lane step staged P' mine' Q') → sum_of_group group (λ b. sum_by (lowered b) it.new + sum_by (freed b) it.new) ≤ step_length step
new_back held mine mine' C P P' M Q Q' lane group (Punch file off len) staged it =
    row_back C.maps group (subst (IsRow file off (Some it.row.old) None false) (sym it.row.row) (row_of_punch file off it.row.old)) it.row.piece
new_back held mine mine' C P P' M Q Q' lane group (Remap file off len at) true it =
    row_back C.maps group (subst (IsRow file off it.row.old (Some (record { start = at; len = len })) true) (sym it.row.row) (row_of_fresh file off it.row.old (record { start = at; len = len }))) it.row.piece
new_back held mine mine' C P P' M Q Q' lane group (Remap file off len at) false it =
    row_back C.maps group (subst (IsRow file off it.row.old (Some (record { start = at; len = len })) false) (sym it.row.row) (row_of_share file off it.row.old (record { start = at; len = len }))) it.row.piece
new_back held mine mine' C P P' M Q Q' lane group (Exchange file off other other_off len) staged it = omega (
  arith,
  sum_below-none DATA_BLOCKS (λ k. let b : ℕ = group * GROUP_BLOCKS + (FIRST_DATA_BLOCK + k) in sum_by (lowered b) it.new + sum_by (freed b) it.new)
      (λ k _. let b : ℕ = group * GROUP_BLOCKS + (FIRST_DATA_BLOCK + k) in ap (λ works. sum_by (lowered b) works + sum_by (freed b) works) it.row),
)

pub first_gives_back : FirstGivesBack
first_gives_back held mine mine' C P P' M Q Q' lane group step staged it = (
  omega (
    arith,
    new_back held mine mine' C P P' M Q Q' lane group step staged it,
    below-le DATA_BLOCKS (λ k. giving_back (group * GROUP_BLOCKS + (FIRST_DATA_BLOCK + k)) lane P')
        (λ k. let b : ℕ = group * GROUP_BLOCKS + (FIRST_DATA_BLOCK + k) in sum_by (lowered b) it.new + sum_by (freed b) it.new)
        (λ k. let b : ℕ = group * GROUP_BLOCKS + (FIRST_DATA_BLOCK + k) in omega (arith, begun-own (lowered b) P it.begins, begun-own (freed b) P it.begins)),
  ),
  λ l b ne. omega (arith, begun-other (lowered b) P l (λ e. ne (sym e)) it.begins, begun-other (freed b) P l (λ e. ne (sym e)) it.begins),
)
