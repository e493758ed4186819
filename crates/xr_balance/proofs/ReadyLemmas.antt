-- In a settled state the first work of each chain is ready.
use Rattle.xr_balance.proofs.TotalLemmas.{count-kept}
use Rattle.xr_balance.proofs.SumLemmas.{names-all}
use Rattle.std.proofs.Common.{◌≡◌, ℕ, ◌+◌, ◌-◌, ◌<◌, ◌≤◌, zero, suc, List, [], ◌∷◌, ◌++◌, length, get_or, cond, eqb, arith, refl, ap, sym, ◌∙◌, true, false, Bool, ⊎_elim, subst}
use Rattle.std.specs.Prelude.{sum_by, remove, All, ◌≢◌, IsTrue}
use Rattle.std.proofs.lemmas.Bool.{cases_lt, cases_eq, eq-eqb, ne_eqb}
use Rattle.std.proofs.lemmas.List.Sums.{sum_by-cons}
use Rattle.xr_base.specs.Address.{IsData, address_of}
use Rattle.xr_base.specs.declared.geometry.TheConstants.{FILES, OFFSETS}
use Rattle.xr_maps.specs.FileMaps.{FileMaps}
use Rattle.xr_items.specs.declared.work.Work.{Work}
use Rattle.xr_items.specs.declared.work.Work.TheVariants.{Free, Own, Count, Map, Swap}
use Rattle.xr_items.specs.declared.work.CountKind.TheVariants.{Increase, Decrease, AllocCow, FreeCow}
use Rattle.xr_items.specs.declared.work.MapKind.TheVariants as Mapping
use Rattle.xr_items.specs.Valid.{IsWork}
use Rattle.xr_maps.specs.Holdings.{holds, one_if, owners, owners_of_file, sum_below}
use Rattle.xr_maps.specs.StepLaws.{from-front}
use Rattle.xr_balance.specs.Chains.{AreInOrder, lowering}
use Rattle.xr_balance.specs.Rolls.{IsFirstWork, Rolls, in_lane}
use Rattle.xr_balance.specs.Settled.{Committed, IsDataOf, IsPartedByLane, IsSettled, chain_of}
use Rattle.xr_balance.specs.Works.{Debt, IsLane, lowered, mapping_at, naming, naming_file, pairing, raised, staging, staging_pair, staging_unpair, sum_of_lanes, total, unmapping, unmapping_at, unpairing, unstaging}
use Rattle.xr_balance.proofs.FindsWords.{Finds}
use Rattle.xr_balance.proofs.TotalLemmas.{work-le-total}
use Rattle.xr_balance.proofs.SumLemmas.{at_most_one, run-range}
use Rattle.xr_balance.proofs.CountSlots.{sum_below-balance, sum_below-none, sum_below-one}
use Rattle.xr_balance.proofs.ChainLemmas.{chain-rolls}
use Rattle.xr_balance.proofs.OrderLemmas.{order-head, order-tail}
use Rattle.xr_balance.proofs.AloneLemmas.{total-works, works_of}
use Rattle.xr_balance.proofs.CountRolls.{zero_or_one, counted_there}
use Rattle.xr_balance.proofs.QuietLemmas.{no_offset}
use Rattle.xr_balance.proofs.FirstCommits.{not_true}

pub rolls_of : {P : List Debt} {i lane : ℕ} {w : Work} → IsFirstWork P i lane w → Rolls P i lane w [] (remove P i ++ [])
rolls_of it = record { first = it; after = refl }

-- what one lane alone does, its chain does
total-in-lane : (f : Work → ℕ) (P : List Debt) (lane : ℕ) → ((k : ℕ) (d : Debt) → k < length P → (get_or P k d).lane ≢ lane → f (get_or P k d).work ≡ 0) → total f P ≡ total f (chain_of P lane)
total-in-lane f [] lane none = refl
total-in-lane f (e ∷ P) lane none =
    let g : Debt → ℕ = λ e. f e.work in
    let rest = total-in-lane f P lane (λ k d l ne. none (suc k) d (omega (arith, l)) ne) in
    ⊎_elim
    (λ same. rw (eq-eqb e.lane lane same) (omega (arith, sum_by-cons g e P, sum_by-cons g e (chain_of P lane), rest)))
    (λ ne. rw (ne_eqb e.lane lane ne) (omega (arith, sum_by-cons g e P, rest, none 0 e (omega arith) ne)))
    (cases_eq e.lane lane)

-- the lanes' chains together
total-by-numbers : (f : Work → ℕ) (n : ℕ) (P : List Debt) → All (λ d. d.lane < n) P → total f P ≡ sum_below n (λ l. total f (chain_of P l))
total-by-numbers f n [] lanes = sym (sum_below-none n _ (λ k l. refl))
total-by-numbers f n (e ∷ P) lanes =
    let g : Debt → ℕ = λ e. f e.work in
    let rest = total-by-numbers f n P (λ k d l. lanes (suc k) d (omega (arith, l))) in
    let own : ℕ → ℕ = λ l. cond (eqb e.lane l) (f e.work) 0 in
    let each : (l : ℕ) → l < n → total f (chain_of (e ∷ P) l) + 0 ≡ own l + total f (chain_of P l) = λ l _. ⊎_elim
    (λ same. rw (eq-eqb e.lane l same) (omega (arith, sum_by-cons g e (chain_of P l))))
    (λ ne. rw (ne_eqb e.lane l ne) (omega arith))
    (cases_eq e.lane l) in
    let all = sum_below-balance n (λ l. total f (chain_of (e ∷ P) l)) (λ _. 0) own (λ l. total f (chain_of P l)) each in
    let mine : sum_below n own ≡ f e.work = sum_below-one n e.lane own (lanes 0 e (omega arith)) (λ k _ ne. rw (ne_eqb e.lane k (λ h. ne (sym h))) refl) ∙ rw (eq-eqb e.lane e.lane refl) refl in
    omega (arith, sum_by-cons g e P, rest, all, mine, sum_below-none n (λ _. 0) (λ _ _. refl))

no_lane_zero : (P : List Debt) → All (λ d. IsLane d.lane) P → chain_of P 0 ≡ []
no_lane_zero [] lanes = refl
no_lane_zero (e ∷ P) lanes = rw (ne_eqb e.lane 0 (λ h. absurd (omega (arith, h, (lanes 0 e (omega arith)).0)))) (no_lane_zero P (λ k d l. lanes (suc k) d (omega (arith, l))))

pub total-by-lanes : (f : Work → ℕ) (P : List Debt) → All (λ d. IsLane d.lane) P → total f P ≡ sum_of_lanes (λ l. total f (chain_of P l))
total-by-lanes f P lanes =
    let g : ℕ → ℕ = λ l. total f (chain_of P l) in
    omega (arith, total-by-numbers f 9 P (λ k d l. omega (arith, (lanes k d l).1)), from-front 8 g, ap (total f) (no_lane_zero P lanes))

pub below-times : (n m : ℕ) (f : ℕ → ℕ) → ((k : ℕ) → f k ≤ m) → sum_below n f ≤ sum_below n (λ _. m)
unfolding sum_below
below-times zero m f le = omega arith
below-times (suc n) m f le = omega (arith, le n, below-times n m f le)

all_lanes : sum_below 8 (λ _. 1) ≡ 8
unfolding sum_below
all_lanes = refl

all_offsets : sum_below OFFSETS (λ _. 1) ≡ 512
unfolding sum_below
all_offsets = refl

all_files : sum_below FILES (λ _. 512) ≡ 16384
unfolding sum_below
all_files = refl

pub few_owners : (maps : FileMaps) (b : ℕ) → owners maps b ≤ 16384
few_owners maps b = omega (arith, all_files, below-times FILES 512 (owners_of_file maps b) (λ f. omega (arith, all_offsets, below-times OFFSETS 1 (λ o. holds maps f o b) (λ o. at_most_one _))))

-- a chain lowers a block at most once
lowered-le : (b : ℕ) (w : Work) → lowered b w ≤ lowering w
lowered-le b (Count Increase run) = omega arith
lowered-le b (Count Decrease run) = at_most_one _
lowered-le b (Count AllocCow run) = omega arith
lowered-le b (Count FreeCow run) = omega arith
lowered-le b (Free run) = omega arith
lowered-le b (Own kind owner off run) = omega arith
lowered-le b (Map kind file off run) = omega arith
lowered-le b (Swap file off other other_off len) = omega arith

lowering_once : (works : List Work) → AreInOrder works → sum_by lowering works ≤ 1
lowering_once [] order = omega arith
lowering_once (w ∷ works) order = ⊎_elim
    (λ some. let last = (order-head w works order).lowered_last some in omega (arith, sum_by-cons lowering w works, last, lowering_of w))
    (λ none. omega (arith, sum_by-cons lowering w works, none, lowering_once works (order-tail w works order)))
    (cases_lt 0 (lowering w))
  where
    lowering_of : (w : Work) → lowering w ≤ 1
    lowering_of (Count Increase run) = omega arith
    lowering_of (Count Decrease run) = omega arith
    lowering_of (Count AllocCow run) = omega arith
    lowering_of (Count FreeCow run) = omega arith
    lowering_of (Free run) = omega arith
    lowering_of (Own kind owner off run) = omega arith
    lowering_of (Map kind file off run) = omega arith
    lowering_of (Swap file off other other_off len) = omega arith

few_lowered : (P : List Debt) (b : ℕ) → IsPartedByLane P → total (lowered b) P ≤ 8
few_lowered P b parted =
    omega (
      arith,
      all_lanes,
      total-by-lanes (lowered b) P parted.lanes,
      below-times 8 1 (λ k. total (lowered b) (chain_of P (suc k))) (λ k. let l : ℕ = suc k in
          omega (arith, Rattle.xr_balance.proofs.SumLemmas.total-le (lowered b) lowering (chain_of P l) (lowered-le b), total-works lowering (chain_of P l), lowering_once (works_of (chain_of P l)) (parted.chains l).order)),
    )

-- a work that maps an offset is its lane's first: no unmapping of it is pending
unmapped_before : {C : Committed} {P : List Debt} {M : FileMaps} {Q : ℕ → Bool} {i lane : ℕ} {w : Work} (f o : ℕ) → IsSettled C P M Q → IsFirstWork P i lane w → 0 < mapping_at f o w → total (unmapping_at f o) P ≡ 0
unmapped_before {C} {P} {M} {Q} {i} {lane} {w} f o was it some =
    let e : Debt = in_lane lane w in
    let named : 0 < naming_file f w = ⊎_elim (λ l. l) (λ z. absurd (omega (arith, some, (no_offset f o w (omega (arith, z))).maps))) (cases_lt 0 (naming_file f w)) in
    let apart : (k : ℕ) (d : Debt) → k < length P → (get_or P k d).lane ≢ lane → unmapping_at f o (get_or P k d).work ≡ 0 = λ k d l ne. ⊎_elim
    (λ off. let there : 0 < naming_file f (get_or P k d).work = ⊎_elim (λ x. x) (λ z. absurd (omega (arith, off, (no_offset f o (get_or P k d).work (omega (arith, z))).unmaps))) (cases_lt 0 (naming_file f (get_or P k d).work)) in
    let mine : 0 < naming_file f (get_or P i d).work = subst (λ (x : Debt). 0 < naming_file f x.work) (sym (it.is_work d)) named in
    ⊎_elim
    (λ below. absurd (ne ((was.parted.agree k i d below it.inside).file f there mine ∙ ap (λ (x : Debt). x.lane) (it.is_work d))))
    (λ above. ⊎_elim
    (λ same. absurd (ne (ap (λ j. (get_or P j d).lane) same ∙ ap (λ (x : Debt). x.lane) (it.is_work d))))
    (λ other. absurd (ne (sym ((was.parted.agree i k d (omega (arith, above, other)) l).file f mine there) ∙ ap (λ (x : Debt). x.lane) (it.is_work d))))
    (cases_eq k i))
    (cases_lt k i))
    (λ none. omega (arith, none))
    (cases_lt 0 (unmapping_at f o (get_or P k d).work)) in
    let chain = chain-rolls (rolls_of it) in
    let order : AreInOrder (w ∷ works_of chain.0) = subst (λ c. AreInOrder (works_of c)) chain.1 (was.parted.chains lane).order in
    let behind : sum_by (unmapping_at f o) (works_of chain.0) ≡ 0 = (order-head w (works_of chain.0) order).unmapped f o some in
    omega (arith, total-in-lane (unmapping_at f o) P lane apart, ap (total (unmapping_at f o)) chain.1, sum_by-cons (λ (x : Debt). unmapping_at f o x.work) e chain.0, total-works (unmapping_at f o) chain.0, behind, not_both f o w some)
  where
    not_both : (f o : ℕ) (w : Work) → 0 < mapping_at f o w → unmapping_at f o w ≡ 0
    not_both f o (Map Mapping.Map file off run) some = refl
    not_both f o (Map Mapping.Unmap file off run) some = absurd (omega (arith, some))
    not_both f o (Free run) some = refl
    not_both f o (Own kind owner off run) some = refl
    not_both f o (Count kind run) some = refl
    not_both f o (Swap file off other other_off len) some = refl

raised_data : (b : ℕ) (w : Work) → IsWork w → 0 < raised b w → IsData (address_of b)
raised_data b (Count Increase run) good some =
    let in_it = run-range run.start.0 run.len b (⊎_elim (λ z. absurd (omega (arith, z, some))) (λ o. o) (zero_or_one _)) in
    let same : run.start.0 + (b - run.start.0) ≡ b = omega (arith, in_it.0) in
    subst (λ k. IsData (address_of k)) same (good.data_blocks (b - run.start.0) (omega (arith, in_it.0, in_it.1)))
raised_data b (Count Decrease run) good some = absurd (omega (arith, some))
raised_data b (Count AllocCow run) good some = absurd (omega (arith, some))
raised_data b (Count FreeCow run) good some = absurd (omega (arith, some))
raised_data b (Free run) good some = absurd (omega (arith, some))
raised_data b (Own kind owner off run) good some = absurd (omega (arith, some))
raised_data b (Map kind file off run) good some = absurd (omega (arith, some))
raised_data b (Swap file off other other_off len) good some = absurd (omega (arith, some))

pub first_finds : (C : Committed) (P : List Debt) (M : FileMaps) (Q : ℕ → Bool) (i lane : ℕ) (w : Work) → IsSettled C P M Q → IsFirstWork P i lane w → Finds C w
first_finds C P M Q i lane w was it =
    let rolls = rolls_of it in
    let part : (f : Work → ℕ) → f w ≤ total f P = λ f. work-le-total f rolls in
    let valid : IsWork w = subst (λ (d : Debt). IsWork d.work) (it.is_work (in_lane lane w)) (was.valid i (in_lane lane w) it.inside) in
    record {
      unmaps = λ f o b. omega (arith, part (unmapping f o b), was.due.unmaps f o b);
      maps = λ f o some. omega (arith, some, part (mapping_at f o), was.due.maps f o, unmapped_before f o was it some);
      removals = λ f o b. omega (arith, part (unpairing f o b), was.due.removals f o b);
      additions = λ f o b. omega (arith, part (pairing f o b), was.due.additions f o b);
      staging_removals = λ b. omega (arith, part (staging_unpair b), was.due.staging_removals b);
      staging_additions = λ b. omega (arith, part (staging_pair b), was.due.staging_additions b);
      unstagings = λ b. omega (arith, part (unstaging b), was.due.unstagings b);
      stagings = λ b some. (was.due.stagings b (omega (arith, some, part (staging b))), not_true (C.is_staged b) (omega (arith, some, part (staging b), was.blocks.staged_once b)));
      unfree = λ b some. not_true (C.is_free b) (⊎_elim
          (λ z. z)
          (λ free. absurd (omega (arith, some, part (naming b), was.blocks.free_unnamed b (is_free (C.is_free b) free))))
          (zero_or_one (C.is_free b)));
      unstaged = λ b some. (was.blocks.counted_unstaged b (omega (arith, some, part (raised b), part (lowered b)))).0;
      below = λ b some.
          let is_data : IsDataOf C b = (raised_data b w valid some, was.blocks.named_groups b (omega (arith, some, part (naming b), names-all b w))) in
          let there = counted_there b was is_data (omega (arith, some, part (raised b))) in
          omega (arith, was.counts b is_data, count-kept C P b there.0 there.1, few_owners M b, few_lowered P b was.parted, at_most_one (Q b));
    }
  where
    is_free : (t : Bool) → one_if t ≡ 1 → IsTrue t
    is_free true h = refl
    is_free false h = absurd (omega (arith, h))
