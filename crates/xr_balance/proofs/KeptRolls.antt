-- A roll of each kind keeps the balance.
use Rattle.std.proofs.Common.{◌≡◌, ℕ, ◌+◌, ◌<◌, ◌≤◌, List, [], ◌∷◌, refl, Bool}
use Rattle.std.specs.Prelude.{◌||◌, All}
use Rattle.xr_maps.specs.Steps.{is_within}
use Rattle.xr_maps.specs.FileMaps.{FileMaps}
use Rattle.xr_items.specs.declared.work.Work.{Work}
use Rattle.xr_items.specs.declared.work.Work.TheVariants.{Free, Own, Count, Map, Swap}
use Rattle.xr_items.specs.declared.work.CountKind.TheVariants.{Increase, Decrease, AllocCow, FreeCow}
use Rattle.xr_items.specs.declared.work.MapKind.TheVariants as Mapping
use Rattle.xr_items.specs.Valid.{IsWork}
use Rattle.xr_maps.specs.Holdings.{in_run}
use Rattle.xr_balance.specs.RollGives.{RollsLower, RollsPlain, works_of_rest}
use Rattle.xr_balance.specs.RollLaws.{RollKeeps}
use Rattle.xr_balance.specs.Rolls.{Rolls, run_back, run_front, in_lane, works_of_freed}
use Rattle.xr_balance.specs.Settled.{Committed, IsDataOf, IsSettled, bringing, taking}
use Rattle.xr_balance.specs.Works.{Debt, naming}
use Rattle.xr_balance.proofs.TotalLemmas.{work-le-total}
use Rattle.xr_balance.proofs.ExchangeRollLemmas.{exchange_roll_keeps}
use Rattle.xr_balance.proofs.PieceRolls.{all_same, none_rolls, takes_rolls}
use Rattle.xr_balance.specs.Pieces.{GivesPiece}
use Rattle.xr_base.specs.declared.address.FileNo.{FileNo}
use Rattle.xr_base.specs.declared.address.Run.{Run}
use Rattle.xr_base.specs.Address.{IsData, address_of}
use Rattle.std.proofs.Common.{subst, sym, ap}
use Rattle.xr_items.specs.declared.work.CountKind.{CountKind}
use Rattle.xr_balance.proofs.CountRolls.{raise_keeps, lower_keeps}
use Rattle.std.proofs.Common.{⊎_elim, ◌∙◌, ◌-◌}
use Rattle.std.proofs.lemmas.Bool.{cases_eq, ne_eqb}
use Rattle.xr_balance.proofs.LastRolls.{LowersLast, lower_last_keeps, free_roll_keeps}
use Rattle.std.proofs.Common.{zero, suc, length, get_or, arith, cond}
use Rattle.std.specs.Prelude.{◌≢◌}
use Rattle.std.proofs.lemmas.Bool.{eq-eqb}
use Rattle.xr_base.specs.Address.{IsGoodRun, group_number}
use Rattle.xr_balance.proofs.SumLemmas.{run-range}
use Rattle.xr_balance.proofs.PartedRolls.{all_after}
use Rattle.xr_balance.proofs.PartedKinds.{parted_plain, parted_raise, parted_lower, parted_last}
use Rattle.xr_balance.proofs.RollLemmas.{plain_roll_keeps, IsPlain, IsStill, rebuilt}

abbrev AreValid : List Debt → Type 0
AreValid P = All (λ d. IsWork d.work) P

good_work : (kind : CountKind) {P P' : List Debt} {i lane : ℕ} {run : Run} {new : List Work} → AreValid P → Rolls P i lane (Count kind run) new P' → IsGoodRun run
good_work kind {P} {P'} {i} {lane} {run} valid rolls = subst (λ (d : Debt). IsWork d.work) (rolls.first.is_work (in_lane lane (Count kind run))) (valid i (in_lane lane (Count kind run)) rolls.first.inside)

pub good_front : (run : Run) (n : ℕ) → IsGoodRun run → 0 < n → n ≤ run.len → IsGoodRun (run_front run n)
good_front run n good some fits = record {
  some = some;
  data_blocks = λ k l. good.data_blocks k (omega (arith, l, fits));
  one_group = λ k l. good.one_group k (omega (arith, l, fits));
}

good_back : (run : Run) (n : ℕ) → IsGoodRun run → n ≤ run.len → n ≢ run.len → IsGoodRun (run_back run n)
good_back run n good fits ne =
    let same : (k : ℕ) → run.start.0 + (n + k) ≡ run.start.0 + n + k = λ k. omega arith in
    record {
      some = omega (arith, fits, ne);
      data_blocks = λ k l. subst (λ m. IsData (address_of m)) (same k) (good.data_blocks (n + k) (omega (arith, l, fits)));
      one_group = λ k l. ap (λ m. group_number (address_of m)) (sym (same k)) ∙ good.one_group (n + k) (omega (arith, l, fits)) ∙ sym (good.one_group n (omega (arith, fits, ne)));
    }

one_of : (v : Work) → IsWork v → (k : ℕ) (d : Work) → k < length (v ∷ []) → IsWork (get_or (v ∷ []) k d)
one_of v it zero d l = it
one_of v it (suc k) d l = absurd (omega (arith, l))

two_of : (u v : Work) → IsWork u → IsWork v → (k : ℕ) (d : Work) → k < length (u ∷ v ∷ []) → IsWork (get_or (u ∷ v ∷ []) k d)
two_of u v one two zero d l = one
two_of u v one two (suc zero) d l = two
two_of u v one two (suc (suc k)) d l = absurd (omega (arith, l))

plain_valid : {P P' : List Debt} {i lane : ℕ} {w : Work} → AreValid P → Rolls P i lane w [] P' → AreValid P'
plain_valid valid rolls = all_after (λ d. IsWork d.work) rolls valid (λ k d l. absurd (omega (arith, l)))

part_valid : (kind : CountKind) {P P' : List Debt} {i lane n : ℕ} {run : Run} → AreValid P → Rolls P i lane (Count kind run) (works_of_rest kind run n) P' → n ≤ run.len → AreValid P'
part_valid kind {P} {P'} {i} {lane} {n} {run} valid rolls fits = all_after (λ d. IsWork d.work) rolls valid
    (⊎_elim
    (λ e. rw (eq-eqb n run.len e) (λ k d l. absurd (omega (arith, l))))
    (λ ne. rw (ne_eqb n run.len ne) (one_of (Count kind (run_back run n)) (good_back run n (good_work kind valid rolls) fits ne)))
    (cases_eq n run.len))

abbrev AllGood : List Work → Type 0
AllGood works = (k : ℕ) (d : Work) → k < length works → IsWork (get_or works k d)

gift_valid : (run : Run) (n : ℕ) → IsGoodRun run → 0 < n → n ≤ run.len → (k : ℕ) (d : Work) → k < length (works_of_freed run n) → IsWork (get_or (works_of_freed run n) k d)
gift_valid run n good some fits = ⊎_elim
    (λ e. subst AllGood (sym (ap (λ t. Free (run_front run n) ∷ cond t [] (Count Decrease (run_back run n) ∷ [])) (eq-eqb n run.len e))) (one_of (Free (run_front run n)) (good_front run n good some fits)))
    (λ ne. subst AllGood (sym (ap (λ t. Free (run_front run n) ∷ cond t [] (Count Decrease (run_back run n) ∷ [])) (ne_eqb n run.len ne)))
    (two_of (Free (run_front run n)) (Count Decrease (run_back run n)) (good_front run n good some fits) (good_back run n good fits ne)))
    (cases_eq n run.len)

last_valid : {P P' : List Debt} {i lane n : ℕ} {run : Run} → AreValid P → Rolls P i lane (Count Decrease run) (works_of_freed run n) P' → 0 < n → n ≤ run.len → AreValid P'
last_valid {P} {P'} {i} {lane} {n} {run} valid rolls some fits = all_after (λ d. IsWork d.work) rolls valid (gift_valid run n (good_work Decrease valid rolls) some fits)

good_blocks : (kind : CountKind) {P P' : List Debt} {i lane : ℕ} {run : Run} {new : List Work} → AreValid P → Rolls P i lane (Count kind run) new P'
    → (b : ℕ) → in_run b run ≡ 1 → IsData (address_of b)
good_blocks kind {run = run} valid rolls b it =
    let in_it = run-range run.start.0 run.len b it in
    let same : run.start.0 + (b - run.start.0) ≡ b = omega (arith, in_it.0) in
    subst (λ k. IsData (address_of k)) same ((good_work kind valid rolls).data_blocks (b - run.start.0) (omega (arith, in_it.0, in_it.1)))

lowering_keeps : (C C' : Committed) {P P' : List Debt} {M : FileMaps} {Q : ℕ → Bool} {i lane : ℕ} {run : Run} {new : List Work}
    → IsSettled C P M Q → Rolls P i lane (Count Decrease run) new P' → RollsLower C run C' new → IsSettled C' P' M Q
lowering_keeps C C' {P} {P'} {M} {Q} {i} {lane} {run} {new} was rolls gives =
    let blocks : (b : ℕ) → in_run b run ≡ 1 → IsDataOf C b = λ b it. (good_blocks Decrease was.valid rolls b it, was.blocks.named_groups b (omega (arith, it, work-le-total (naming b) rolls))) in
    ⊎_elim
    (λ one. let new_is : new ≡ works_of_freed run gives.len = gives.new_is ∙ rw one refl in
    let is : C' ≡ C = rebuilt C C' C.counted C.is_free gives.keeps (λ b. gives.counted b ∙ ap (λ t. cond t (C.counted b) (C.counted b - in_run b (run_front run gives.len))) (eq-eqb gives.count 1 one)) gives.free in
    let rolls' = subst (λ l. Rolls P i lane (Count Decrease run) l P') new_is rolls in
    let lowers : LowersLast C P i lane run gives.len P' = record { rolls = rolls'; fits = gives.part.fits; blocks = blocks; ones = λ b it. gives.part.same b it ∙ one } in
    subst (λ D. IsSettled D P' M Q) (sym is) (lower_last_keeps was lowers (last_valid was.valid rolls' gives.part.some gives.part.fits) (parted_last was lowers)))
    (λ more. let new_is : new ≡ works_of_rest Decrease run gives.len = gives.new_is ∙ rw (ne_eqb gives.count 1 more) refl in
    let is : C' ≡ record C { counted = λ b. C.counted b - in_run b (run_front run gives.len) } =
    rebuilt C C' (λ b. C.counted b - in_run b (run_front run gives.len)) C.is_free gives.keeps (λ b. gives.counted b ∙ ap (λ t. cond t (C.counted b) (C.counted b - in_run b (run_front run gives.len))) (ne_eqb gives.count 1 more)) gives.free in
    let rolls' = subst (λ l. Rolls P i lane (Count Decrease run) l P') new_is rolls in
    subst (λ D. IsSettled D P' M Q) (sym is) (lower_keeps was rolls' gives.part.fits blocks
    (λ b it. omega (arith, gives.part.same b it, gives.some, more)) (part_valid Decrease was.valid rolls' gives.part.fits) (parted_lower was rolls' gives.part.fits blocks)))
    (cases_eq gives.count 1)

plain_keeps : (C C' : Committed) {P P' : List Debt} {M : FileMaps} {Q : ℕ → Bool} {i lane : ℕ} {w : Work} {new : List Work}
    → IsPlain w → IsStill w → IsSettled C P M Q → Rolls P i lane w new P' → RollsPlain C w C' new → IsSettled C' P' M Q
plain_keeps C C' {P} {P'} {M} {Q} {i} {lane} {w} {new} plain still was rolls gives =
    let rolls' : Rolls P i lane w [] P' = subst (λ l. Rolls P i lane w l P') gives.new_is rolls in
    plain_roll_keeps was rolls plain still gives (plain_valid was.valid rolls') (parted_plain was.parted rolls')

-- an exchange passes over its front, and takes a piece
swap_keeps : {C : Committed} {P P' : List Debt} {M : FileMaps} {Q : ℕ → Bool} {i lane : ℕ} {file : FileNo} {off : ℕ} {other : FileNo} {other_off len : ℕ} {new : List Work}
    → IsSettled C P M Q → Rolls P i lane (Swap file off other other_off len) new P' → GivesPiece C.maps file off other other_off len new → IsSettled C P' M Q
swap_keeps {C} {P} {P'} {M} {Q} {i} {lane} {file} {off} {other} {other_off} {len} {new} was rolls it =
    let w : Work = Swap file off other other_off len in ⊎_elim
    (λ none. let rolls' = subst (λ l. Rolls P i lane w l P') none.1 rolls in
    exchange_roll_keeps C P P' M was.base Q i lane w [] was rolls' (none_rolls was (λ f o b. ap (λ n. taking was.base f o b (Swap file off other other_off n)) (sym none.0) ∙ all_same was rolls.first it.within it.same f o b ∙ ap (λ n. bringing was.base f o b (Swap file off other other_off n)) none.0)))
    (λ takes. exchange_roll_keeps C P P' M _ Q i lane w new was rolls (takes_rolls it.over was rolls.first it.within it.same takes))
    it.gives

pub roll_keeps_all : RollKeeps
roll_keeps_all C C' P P' M Q i lane (Map Mapping.Map file off run) new was rolls gives =
    plain_keeps C C' (record { at = λ f o. refl; takes = λ B f o b. refl; brings = λ B f o b. refl }) (record { gives = λ b. refl; raises = λ b. refl; lowers = λ b. refl }) was rolls gives
roll_keeps_all C C' P P' M Q i lane (Map Mapping.Unmap file off run) new was rolls gives =
    plain_keeps C C' (record { at = λ f o. refl; takes = λ B f o b. refl; brings = λ B f o b. refl }) (record { gives = λ b. refl; raises = λ b. refl; lowers = λ b. refl }) was rolls gives
roll_keeps_all C C' P P' M Q i lane (Own kind owner off run) new was rolls gives =
    plain_keeps C C' (record { at = λ f o. refl; takes = λ B f o b. refl; brings = λ B f o b. refl }) (record { gives = λ b. refl; raises = λ b. refl; lowers = λ b. refl }) was rolls gives
roll_keeps_all C C' P P' M Q i lane (Count AllocCow run) new was rolls gives =
    plain_keeps C C' (record { at = λ f o. refl; takes = λ B f o b. refl; brings = λ B f o b. refl }) (record { gives = λ b. refl; raises = λ b. refl; lowers = λ b. refl }) was rolls gives
roll_keeps_all C C' P P' M Q i lane (Count FreeCow run) new was rolls gives =
    plain_keeps C C' (record { at = λ f o. refl; takes = λ B f o b. refl; brings = λ B f o b. refl }) (record { gives = λ b. refl; raises = λ b. refl; lowers = λ b. refl }) was rolls gives
roll_keeps_all C C' P P' M Q i lane (Count Increase run) new was rolls gives =
    let rolls' = subst (λ l. Rolls P i lane (Count Increase run) l P') gives.new_is rolls in
    let blocks : (b : ℕ) → in_run b run ≡ 1 → IsDataOf C b = λ b it. (good_blocks Increase was.valid rolls b it, was.blocks.named_groups b (omega (arith, it, work-le-total (naming b) rolls))) in
    subst (λ D. IsSettled D P' M Q) (sym (rebuilt C C' (λ b. C.counted b + in_run b (run_front run gives.len)) C.is_free gives.keeps gives.counted gives.free)) (raise_keeps was rolls' gives.part.fits blocks (part_valid Increase was.valid rolls' gives.part.fits) (parted_raise was rolls' gives.part.fits blocks))
roll_keeps_all C C' P P' M Q i lane (Count Decrease run) new was rolls gives = lowering_keeps C C' was rolls gives
roll_keeps_all C C' P P' M Q i lane (Free run) new was rolls gives =
    let rolls' = subst (λ l. Rolls P i lane (Free run) l P') gives.new_is rolls in
    subst (λ D. IsSettled D P' M Q) (sym (rebuilt C C' C.counted (λ b. C.is_free b || is_within run.start.0 run.len b) gives.keeps gives.counted gives.free)) (free_roll_keeps was rolls' (plain_valid was.valid rolls') (parted_plain was.parted rolls'))
roll_keeps_all C C' P P' M Q i lane (Swap file off other other_off len) new was rolls gives = subst (λ D. IsSettled D P' M Q) (sym (rebuilt C C' C.counted C.is_free gives.keeps gives.counted gives.free)) (swap_keeps was rolls gives.piece)
