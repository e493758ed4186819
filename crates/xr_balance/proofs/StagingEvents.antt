-- A staging, a release and an exchange's first commit keep the balance.
use Rattle.xr_balance.proofs.TotalLemmas.{count-kept}
use Rattle.std.proofs.Common.{◌≡◌, ℕ, ◌+◌, ◌-◌, ◌<◌, zero, suc, List, [], ◌∷◌, length, get_or, arith, refl, ap, sym, ◌∙◌, true, false, Bool, ⊎_elim, ◌⊎◌, inl, inr, subst}
use Rattle.std.specs.Prelude.{sum_by, IsTrue, ◌||◌, ◌&&◌, not}
use Rattle.xr_maps.specs.FileMaps.{FileMaps}
use Rattle.std.proofs.lemmas.Bool.{cases_lt}
use Rattle.std.proofs.lemmas.List.Sums.{sum_by-cons, get_or-le-sum_by}
use Rattle.std.proofs.lemmas.List.{length-map}
use Rattle.xr_base.specs.declared.address.Run.{Run}
use Rattle.xr_base.specs.Address.{IsData, IsGoodRun, address_of, group_number}
use Rattle.xr_maps.specs.Steps.{is_within}
use Rattle.xr_base.specs.declared.geometry.TheConstants.{OWN_COW}
use Rattle.xr_items.specs.declared.work.Work.{Work}
use Rattle.xr_items.specs.declared.work.Work.TheVariants.{Free, Own, Count, Swap}
use Rattle.xr_items.specs.declared.work.OwnKind.TheVariants as Owning
use Rattle.xr_items.specs.declared.work.CountKind.TheVariants.{AllocCow, FreeCow}
use Rattle.xr_items.specs.Valid.{IsWork}
use Rattle.xr_maps.specs.Holdings.{in_run, one_if, owners}
use Rattle.xr_balance.proofs.StepPremises.{ExchangeKeeps}
use Rattle.xr_balance.specs.Rolls.{in_lane}
use Rattle.xr_balance.specs.Rows.{works_of_exchange, works_of_release, works_of_staging}
use Rattle.xr_balance.specs.Settled.{Agree, Committed, IsDataOf, IsSettled, bringing, count_of, taking}
use Rattle.xr_balance.specs.Stagings.{ReleaseKeeps, StageKeeps, Stages}
use Rattle.xr_balance.specs.Works.{Debt, exchanging_at, freed, lowered, mapping, mapping_at, naming, naming_file, pairing, pairing_at, raised, staging, staging_pair, staging_unpair, total, unmapping, unmapping_at, unpairing, unpairing_at, unstaging}
use Rattle.xr_balance.proofs.TotalLemmas.{count-gone}
use Rattle.xr_balance.proofs.PartedLemmas.{NewAgree, get_or-new}
use Rattle.xr_balance.proofs.SumLemmas.{total-le, names-all, run-range}
use Rattle.xr_balance.proofs.QuietLemmas.{IsQuiet, quiet_at, names_file, once}
use Rattle.xr_balance.proofs.CountRolls.{IsGiven, zero_or_one, given_when_zero, count-free}
use Rattle.xr_balance.proofs.RollLemmas.{rebuilt}
use Rattle.xr_balance.proofs.RowLemmas.{rows_are_chains}
use Rattle.xr_balance.proofs.FirstCommits.{total-begins, all_begin, begins_parted, count_same, not_true, is_one, is_true, at_most_one, owned_there}

good_block : (run : Run) → IsGoodRun run → (b : ℕ) → in_run b run ≡ 1 → IsData (address_of b)
good_block run good b it =
    let in_it = run-range run.start.0 run.len b it in
    let same : run.start.0 + (b - run.start.0) ≡ b = omega (arith, in_it.0) in
    subst (λ k. IsData (address_of k)) same (good.data_blocks (b - run.start.0) (omega (arith, in_it.0, in_it.1)))

one_group : (run : Run) → IsGoodRun run → (b : ℕ) → in_run b run ≡ 1 → group_number (address_of b) ≡ group_number run.start
one_group run good b it =
    let in_it = run-range run.start.0 run.len b it in
    let same : run.start.0 + (b - run.start.0) ≡ b = omega (arith, in_it.0) in
    subst (λ k. group_number (address_of k) ≡ group_number run.start) same (good.one_group (b - run.start.0) (omega (arith, in_it.0, in_it.1)))

-- new works that name no file, of blocks that are not to be given
fresh_agree : (P : List Debt) (lane : ℕ) (new : List Work) → ((f j : ℕ) (w : Work) → j < length new → naming_file f (get_or new j w) ≡ 0)
    → ((b j : ℕ) (w : Work) → j < length new → freed b (get_or new j w) ≡ 0) → ((b j : ℕ) (w : Work) → j < length new → 0 < naming b (get_or new j w) → total (freed b) P ≡ 0) → NewAgree P lane new
fresh_agree P lane new no_file no_gift not_given = record {
  old = λ k d j w kl jl. record {
    file = λ f x y. absurd (omega (arith, y, no_file f j w jl));
    before = λ b x y. absurd (omega (arith, y, no_gift b j w jl));
    after = λ b given. ⊎_elim
        (λ some. absurd (omega (arith, given, not_given b j w jl some, get_or-le-sum_by (λ (e : Debt). freed b e.work) P k d kl)))
        (λ none. omega (arith, none))
        (cases_lt 0 (naming b (get_or new j w)));
  };
  among = λ i j d less jl.
      let n = length-map new (in_lane lane) in
      rw (get_or-new lane new i d (omega (arith, less, jl, n)), get_or-new lane new j d (omega (arith, jl, n))) (record {
        file = λ f x y. refl;
        before = λ b x y. refl;
        after = λ b x. absurd (omega (arith, x, no_gift b i d.work (omega (arith, less, jl, n))));
      });
}

two_each : (T : Work → Type 0) (u v : Work) → T u → T v → (j : ℕ) (w : Work) → j < length (u ∷ v ∷ []) → T (get_or (u ∷ v ∷ []) j w)
two_each T u v one two zero w l = one
two_each T u v one two (suc zero) w l = two
two_each T u v one two (suc (suc j)) w l = absurd (omega (arith, l))

same_counts : (C : Committed) (free : ℕ → Bool) (P P' : List Debt) (b : ℕ) → free b ≡ C.is_free b → total (freed b) P' ≡ total (freed b) P → count_of (record C { is_free = free }) P' b ≡ count_of C P b
same_counts C free P P' b e same = rw (same, e) refl

-- the blocks of a run that is staged were free
run_free : {C C' : Committed} {P P' : List Debt} {Q Q' : ℕ → Bool} {lane : ℕ} {run : Run} → Stages C P Q lane run C' P' Q' → (b : ℕ) → in_run b run ≡ 1 → IsTrue (C.is_free b)
run_free {C} it b one = is_true (C.is_free b) (omega (arith, one, it.free b))

run_data : {C C' : Committed} {P P' : List Debt} {Q Q' : ℕ → Bool} {lane : ℕ} {run : Run} → Stages C P Q lane run C' P' Q' → (b : ℕ) → in_run b run ≡ 1 → IsDataOf C b
run_data {run = run} it b one = (good_block run it.good b one, omega (arith, one_group run it.good b one, it.group))

pub staged_free : {C C' : Committed} {P P' : List Debt} {M : FileMaps} {Q Q' : ℕ → Bool} {lane : ℕ} {run : Run} → IsSettled C P M Q → Stages C P Q lane run C' P' Q' → (b : ℕ) → in_run b run ≡ 1 → IsGiven P M Q b
staged_free {C} {C'} {P} was it b one = given_when_zero b was (run_data it b one) (count-free C P b (run_free it b one))

pub or_sum : (s t : Bool) → (one_if t ≡ 1 → s ≡ false) → one_if (s || t) ≡ one_if s + one_if t
or_sum true true apart = absurd (omega (arith, ap one_if (apart refl)))
or_sum true false apart = refl
or_sum false t apart = omega arith

pub and_sum : (s t : Bool) → (one_if t ≡ 1 → one_if s ≡ 1) → one_if (s && not t) + one_if t ≡ one_if s
and_sum true true within = refl
and_sum true false within = refl
and_sum false true within = absurd (omega (arith, within refl))
and_sum false false within = refl

-- so none of them was staged
pub staged_more : {C C' : Committed} {P P' : List Debt} {M : FileMaps} {Q Q' : ℕ → Bool} {lane : ℕ} {run : Run} → IsSettled C P M Q → Stages C P Q lane run C' P' Q' → (b : ℕ) → one_if (Q' b) ≡ one_if (Q b) + in_run b run
staged_more {Q = Q} {run = run} was it b = ap one_if (it.staged b) ∙ or_sum (Q b) (is_within run.start.0 run.len b) (λ one. (staged_free was it b one).unstaged)

pub stage_keeps : StageKeeps
stage_keeps C C' P P' M Q Q' lane run was it =
    let free : ℕ → Bool = C'.is_free in
    let D : Committed = record C { is_free = free } in
    let new : List Work = works_of_staging run in
    let more : (g : Work → ℕ) → total g P' ≡ total g P + sum_by g new = λ g. total-begins g P lane new it.begins.after in
    let kept : (g : Work → ℕ) → sum_by g new ≡ 0 → total g P' ≡ total g P = λ g none. omega (arith, more g, none) in
    let was_free : (b : ℕ) → in_run b run ≡ 1 → IsTrue (C.is_free b) = run_free it in
    let unnamed : (b : ℕ) → in_run b run ≡ 1 → total (naming b) P ≡ 0 = λ b one. was.blocks.free_unnamed b (was_free b one) in
    let is_data : (b : ℕ) → in_run b run ≡ 1 → IsDataOf C b = run_data it in
    let given = λ (b : ℕ) (one : in_run b run ≡ 1). staged_free was it b one in
    let staged : (b : ℕ) → one_if (Q' b) ≡ one_if (Q b) + in_run b run = staged_more was it in
    let ungiven : (b : ℕ) → in_run b run ≡ 1 → total (freed b) P ≡ 0 = λ b one. omega (arith, unnamed b one, total-le (freed b) (naming b) P (λ w. omega (arith, names-all b w))) in
    let out : (b : ℕ) → in_run b run ≡ 0 → free b ≡ C.is_free b = λ b z. same_bool (free b) (C.is_free b) (omega (arith, z, it.free b)) in
    let taken : (b : ℕ) → in_run b run ≡ 1 → free b ≡ false = λ b one. not_true (free b) (omega (arith, one, it.free b, at_most_one (C.is_free b))) in
    subst (λ E. IsSettled E P' M Q') (sym (rebuilt C C' C.counted free it.keeps it.counted (λ b. refl))) (record {
      base = was.base;
      good_base = was.good_base;
      good_maps = was.good_maps;
      maps = record {
        base = λ f o b. omega (arith, was.maps.base f o b, kept (mapping f o b) refl, kept (unmapping f o b) refl);
        exchanged = λ f o b. omega (arith, was.maps.exchanged f o b, kept (taking was.base f o b) refl, kept (bringing was.base f o b) refl);
      };
      staging = record {
        staged = λ b. omega (arith, was.staging.staged b, staged b, more (staging b), kept (unstaging b) refl);
        data_only = λ b q. ⊎_elim
            (λ z. was.staging.data_only b (is_true (Q b) (omega (arith, is_one (Q' b) q, staged b, z))))
            (λ one. is_data b one)
            (zero_or_one (is_within run.start.0 run.len b));
        unowned = λ b q. ⊎_elim
            (λ z. was.staging.unowned b (is_true (Q b) (omega (arith, is_one (Q' b) q, staged b, z))))
            (λ one. (given b one).unowned)
            (zero_or_one (is_within run.start.0 run.len b));
      };
      pairs = record {
        owners = λ f o b. omega (arith, was.pairs.owners f o b, kept (pairing f o b) refl, kept (unpairing f o b) refl);
        staging_pairs = λ b. omega (arith, was.pairs.staging_pairs b, staged b, more (staging_pair b), kept (staging_unpair b) refl);
      };
      counts = λ b is_data. ⊎_elim
          (λ z. omega (arith, z, was.counts b is_data, same_counts C free P P' b (out b z) (kept (freed b) refl), kept (raised b) refl, kept (lowered b) refl, staged b))
          (λ one. omega (
            arith,
            one,
            count-kept D P' b (taken b one) (kept (freed b) refl ∙ ungiven b one),
            was.blocks.free_unshared b (was_free b one),
            kept (raised b) refl,
            kept (lowered b) refl,
            staged b,
            (given b one).unraised,
            (given b one).unlowered,
            (given b one).unowned,
            ap one_if (given b one).unstaged,
          ))
          (zero_or_one (is_within run.start.0 run.len b));
      due = record {
        unmaps = λ f o b. omega (arith, was.due.unmaps f o b, kept (unmapping f o b) refl);
        maps = λ f o. omega (arith, was.due.maps f o, kept (mapping_at f o) refl, kept (unmapping_at f o) refl);
        removals = λ f o b. omega (arith, was.due.removals f o b, kept (unpairing f o b) refl);
        additions = λ f o b. omega (arith, was.due.additions f o b, kept (pairing f o b) refl);
        staging_removals = λ b. omega (arith, was.due.staging_removals b, kept (staging_unpair b) refl);
        staging_additions = λ b. ⊎_elim
            (λ z. omega (arith, z, was.due.staging_additions b, more (staging_pair b)))
            (λ one. omega (arith, one, more (staging_pair b), was.pairs.staging_pairs b, ap one_if (given b one).unstaged, unnamed b one, total-le (staging_unpair b) (naming b) P (λ w. omega (arith, names-all b w))))
            (zero_or_one (is_within run.start.0 run.len b));
        stagings = λ b some. ⊎_elim
            (λ z. was.due.stagings b (omega (arith, z, some, more (staging b))))
            (λ one. was.blocks.free_unshared b (was_free b one))
            (zero_or_one (is_within run.start.0 run.len b));
        unstagings = λ b. omega (arith, was.due.unstagings b, kept (unstaging b) refl);
      };
      blocks = record {
        counted_some = was.blocks.counted_some;
        owned_data = was.blocks.owned_data;
        named_groups = λ b some. ⊎_elim
            (λ z. was.blocks.named_groups b (omega (arith, z, some, more (naming b))))
            (λ one. (is_data b one).1)
            (zero_or_one (is_within run.start.0 run.len b));
        counted_unstaged = λ b some. let before = was.blocks.counted_unstaged b (omega (arith, some, kept (raised b) refl, kept (lowered b) refl)) in ⊎_elim
            (λ z. (before.0, not_true (Q' b) (omega (arith, z, staged b, ap one_if before.1))))
            (λ one. absurd (omega (arith, some, kept (raised b) refl, kept (lowered b) refl, (given b one).unraised, (given b one).unlowered)))
            (zero_or_one (is_within run.start.0 run.len b));
        free_unnamed = λ b f. ⊎_elim
            (λ z. omega (arith, z, more (naming b), was.blocks.free_unnamed b (subst IsTrue (out b z) f)))
            (λ one. absurd (omega (arith, ap one_if (sym f ∙ taken b one))))
            (zero_or_one (is_within run.start.0 run.len b));
        free_unshared = λ b f. ⊎_elim
            (λ z. was.blocks.free_unshared b (subst IsTrue (out b z) f))
            (λ one. was.blocks.free_unshared b (was_free b one))
            (zero_or_one (is_within run.start.0 run.len b));
        freed_unshared = λ b some. was.blocks.freed_unshared b (omega (arith, some, kept (freed b) refl));
        freed_once = λ b. omega (arith, kept (freed b) refl, was.blocks.freed_once b);
        staged_once = λ b. ⊎_elim
            (λ z. omega (arith, z, was.blocks.staged_once b, more (staging b)))
            (λ one. omega (arith, one, more (staging b), was.staging.staged b, ap one_if (given b one).unstaged, unnamed b one, total-le (unstaging b) (naming b) P (λ w. omega (arith, names-all b w))))
            (zero_or_one (is_within run.start.0 run.len b));
        two_owners = λ b. omega (arith, kept (raised b) refl, was.blocks.two_owners b);
      };
      offsets = record {
        unmaps = λ f o. omega (arith, was.offsets.unmaps f o, kept (unmapping_at f o) refl, kept (exchanging_at f o) refl);
        maps = λ f o. omega (arith, was.offsets.maps f o, kept (mapping_at f o) refl, kept (exchanging_at f o) refl);
        removals = λ f o. omega (arith, was.offsets.removals f o, kept (unpairing_at f o) refl, kept (exchanging_at f o) refl);
        additions = λ f o. omega (arith, was.offsets.additions f o, kept (pairing_at f o) refl, kept (exchanging_at f o) refl);
      };
      valid = all_begin (λ d. IsWork d.work) P new it.begins.after was.valid (two_each IsWork (Count AllocCow run) (Own Owning.Alloc OWN_COW 0 run) it.good (it.good, refl, (λ x. absurd (omega (arith, x.1)), λ _. refl)));
      parted = begins_parted was.parted it.begins (rows_are_chains.staging run) (fresh_agree P lane new
          (λ f. two_each (λ w. naming_file f w ≡ 0) (Count AllocCow run) (Own Owning.Alloc OWN_COW 0 run) refl refl)
          (λ b. two_each (λ w. freed b w ≡ 0) (Count AllocCow run) (Own Owning.Alloc OWN_COW 0 run) refl refl)
          (λ b. two_each (λ w. 0 < naming b w → total (freed b) P ≡ 0) (Count AllocCow run) (Own Owning.Alloc OWN_COW 0 run)
          (λ some. ungiven b (one_in b some)) (λ some. ungiven b (one_in b some))));
    })
  where
    same_bool : (s t : Bool) → one_if s ≡ one_if t → s ≡ t
    same_bool true true h = refl
    same_bool true false h = absurd (omega (arith, h))
    same_bool false true h = absurd (omega (arith, h))
    same_bool false false h = refl

    one_in : (b : ℕ) → 0 < in_run b run → in_run b run ≡ 1
    one_in b some = ⊎_elim (λ z. absurd (omega (arith, z, some))) (λ o. o) (zero_or_one (is_within run.start.0 run.len b))

three_each : (T : Work → Type 0) (u v x : Work) → T u → T v → T x → (j : ℕ) (w : Work) → j < length (u ∷ v ∷ x ∷ []) → T (get_or (u ∷ v ∷ x ∷ []) j w)
three_each T u v x one two three zero w l = one
three_each T u v x one two three (suc zero) w l = two
three_each T u v x one two three (suc (suc zero)) w l = three
three_each T u v x one two three (suc (suc (suc j))) w l = absurd (omega (arith, l))

-- where nothing is pending, new works agree with each other in their order
alone_agree : (lane : ℕ) (new : List Work) → ((i j : ℕ) (w : Work) → i < j → j < length new → (b : ℕ) → 0 < freed b (get_or new i w) → naming b (get_or new j w) ≡ 0) → NewAgree [] lane new
alone_agree lane new after = record {
  old = λ k d j w kl jl. absurd (omega (arith, kl));
  among = λ i j d less jl.
      let n = length-map new (in_lane lane) in
      rw (get_or-new lane new i d (omega (arith, less, jl, n)), get_or-new lane new j d (omega (arith, jl, n))) (record {
        file = λ f x y. refl;
        before = λ b x y. refl;
        after = λ b x. after i j d.work less (omega (arith, jl, n)) b x;
      });
}

pub release_keeps : ReleaseKeeps
release_keeps C P' M Q Q' lane run was it =
    let new : List Work = works_of_release run in
    let none : List Debt = [] in
    let more : (g : Work → ℕ) → total g P' ≡ sum_by g new = λ g. omega (arith, total-begins g none lane new it.begins.after) in
    let zero_of : (g : Work → ℕ) → sum_by g new ≡ 0 → total g P' ≡ 0 = λ g e. omega (arith, more g, e) in
    let staged : (b : ℕ) → one_if (Q' b) + in_run b run ≡ one_if (Q b) = λ b. ap (λ t. one_if t + in_run b run) (it.staged b)
    ∙ and_sum (Q b) (is_within run.start.0 run.len b) (λ one. omega (arith, is_one (C.is_staged b) (it.there b one), was.staging.staged b)) in
    let staged_in : (b : ℕ) → in_run b run ≡ 1 → IsTrue (Q b) = λ b one. is_true (Q b) (omega (arith, one, staged b)) in
    let there = λ (b : ℕ) (one : in_run b run ≡ 1). owned_there b was (omega (arith, one, staged b)) in
    let unowned : (b : ℕ) → in_run b run ≡ 1 → owners M b ≡ 0 = λ b one. was.staging.unowned b (staged_in b one) in
    let one_count : (b : ℕ) → in_run b run ≡ 1 → C.counted b ≡ 1 = λ b one.
    omega (arith, was.counts b (was.staging.data_only b (staged_in b one)), count-kept C none b (there b one).0 (there b one).1, unowned b one, is_one (Q b) (staged_in b one)) in
    record {
      base = was.base;
      good_base = was.good_base;
      good_maps = was.good_maps;
      maps = record {
        base = λ f o b. omega (arith, was.maps.base f o b, zero_of (mapping f o b) refl, zero_of (unmapping f o b) refl);
        exchanged = λ f o b. omega (arith, was.maps.exchanged f o b, zero_of (taking was.base f o b) refl, zero_of (bringing was.base f o b) refl);
      };
      staging = record {
        staged = λ b. omega (arith, was.staging.staged b, staged b, zero_of (staging b) refl, more (unstaging b));
        data_only = λ b q. was.staging.data_only b (is_true (Q b) (omega (arith, is_one (Q' b) q, staged b)));
        unowned = λ b q. was.staging.unowned b (is_true (Q b) (omega (arith, is_one (Q' b) q, staged b)));
      };
      pairs = record {
        owners = λ f o b. omega (arith, was.pairs.owners f o b, zero_of (pairing f o b) refl, zero_of (unpairing f o b) refl);
        staging_pairs = λ b. omega (arith, was.pairs.staging_pairs b, staged b, zero_of (staging_pair b) refl, more (staging_unpair b));
      };
      counts = λ b is_data. ⊎_elim
          (λ z. omega (arith, z, was.counts b is_data, count_same C none P' b (omega (arith, more (freed b), z)), zero_of (raised b) refl, zero_of (lowered b) refl, staged b))
          (λ one. omega (arith, one, count-gone C P' b (there b one).0 (omega (arith, more (freed b), one)), zero_of (raised b) refl, zero_of (lowered b) refl, staged b, unowned b one, at_most_one (Q b)))
          (zero_or_one (is_within run.start.0 run.len b));
      due = record {
        unmaps = λ f o b. omega (arith, zero_of (unmapping f o b) refl);
        maps = λ f o. omega (arith, zero_of (mapping_at f o) refl, was.due.maps f o);
        removals = λ f o b. omega (arith, zero_of (unpairing f o b) refl);
        additions = λ f o b. omega (arith, zero_of (pairing f o b) refl, was.due.additions f o b);
        staging_removals = λ b. omega (arith, more (staging_unpair b), was.pairs.staging_pairs b, staged b);
        staging_additions = λ b. omega (arith, zero_of (staging_pair b) refl, was.due.staging_additions b);
        stagings = λ b some. absurd (omega (arith, some, zero_of (staging b) refl));
        unstagings = λ b. omega (arith, more (unstaging b), was.staging.staged b, staged b);
      };
      blocks = record {
        counted_some = was.blocks.counted_some;
        owned_data = was.blocks.owned_data;
        named_groups = λ b some. ⊎_elim
            (λ z. absurd (omega (arith, z, some, more (naming b))))
            (λ one. (was.staging.data_only b (staged_in b one)).1)
            (zero_or_one (is_within run.start.0 run.len b));
        counted_unstaged = λ b some. absurd (omega (arith, some, zero_of (raised b) refl, zero_of (lowered b) refl));
        free_unnamed = λ b free. ⊎_elim
            (λ z. omega (arith, z, more (naming b)))
            (λ one. absurd (omega (arith, ap one_if (sym free ∙ (there b one).0))))
            (zero_or_one (is_within run.start.0 run.len b));
        free_unshared = was.blocks.free_unshared;
        freed_unshared = λ b some. ⊎_elim
            (λ z. absurd (omega (arith, z, some, more (freed b))))
            (λ one. one_count b one)
            (zero_or_one (is_within run.start.0 run.len b));
        freed_once = λ b. omega (arith, more (freed b), at_most_one (is_within run.start.0 run.len b));
        staged_once = λ b. omega (arith, zero_of (staging b) refl, was.blocks.staged_once b);
        two_owners = λ b. omega (arith, zero_of (raised b) refl);
      };
      offsets = record {
        unmaps = λ f o. omega (arith, zero_of (unmapping_at f o) refl, zero_of (exchanging_at f o) refl);
        maps = λ f o. omega (arith, zero_of (mapping_at f o) refl, zero_of (exchanging_at f o) refl);
        removals = λ f o. omega (arith, zero_of (unpairing_at f o) refl, zero_of (exchanging_at f o) refl);
        additions = λ f o. omega (arith, zero_of (pairing_at f o) refl, zero_of (exchanging_at f o) refl);
      };
      valid = all_begin (λ d. IsWork d.work) none new it.begins.after was.valid (three_each IsWork (Count FreeCow run) (Own Owning.Free OWN_COW 0 run) (Free run) it.good (it.good, refl, (λ x. absurd (omega (arith, x.1)), λ _. refl)) it.good);
      parted = begins_parted was.parted it.begins (rows_are_chains.release run) (alone_agree lane new after_of);
    }
  where
    after_of : (i j : ℕ) (w : Work) → i < j → j < length (works_of_release run) → (b : ℕ) → 0 < freed b (get_or (works_of_release run) i w) → naming b (get_or (works_of_release run) j w) ≡ 0
    after_of zero j w less jl b some = absurd (omega (arith, some))
    after_of (suc zero) j w less jl b some = absurd (omega (arith, some))
    after_of (suc (suc i)) j w less jl b some = absurd (omega (arith, less, jl))

-- an exchange begins: nothing but the maps in the end changes
pub exchange_keeps : ExchangeKeeps
exchange_keeps C P P' M M' Q lane off other_off len file other was it =
    let new : List Work = works_of_exchange file off other other_off len in
    let w : Work = Swap file off other other_off len in
    let more : (g : Work → ℕ) → total g P' ≡ total g P + g w = λ g. total-begins g P lane new it.begins.after ∙ ap (λ n. total g P + n) (sum_by-cons g w [] ∙ omega arith) in
    let kept : (g : Work → ℕ) → g w ≡ 0 → total g P' ≡ total g P = λ g none. omega (arith, more g, none) in
    let quiet : (f o : ℕ) → IsQuiet P f o ⊎ (exchanging_at f o w ≡ 0) = λ f o. ⊎_elim
    (λ some. inl (quiet_at P f o (it.quiet f (omega (arith, some, names_file f o w)))))
    (λ none. inr (omega (arith, none)))
    (cases_lt 0 (exchanging_at f o w)) in
    record {
      base = was.base;
      good_base = was.good_base;
      good_maps = it.good;
      maps = record {
        base = λ f o b. omega (arith, was.maps.base f o b, kept (mapping f o b) refl, kept (unmapping f o b) refl);
        exchanged = λ f o b. omega (arith, was.maps.exchanged f o b, it.step f o b, more (taking was.base f o b), more (bringing was.base f o b));
      };
      staging = record {
        staged = λ b. omega (arith, was.staging.staged b, kept (staging b) refl, kept (unstaging b) refl);
        data_only = was.staging.data_only;
        unowned = λ b q. it.same_owners b ∙ was.staging.unowned b q;
      };
      pairs = record {
        owners = λ f o b. omega (arith, was.pairs.owners f o b, kept (pairing f o b) refl, kept (unpairing f o b) refl);
        staging_pairs = λ b. omega (arith, was.pairs.staging_pairs b, kept (staging_pair b) refl, kept (staging_unpair b) refl);
      };
      counts = λ b is_data. omega (arith, was.counts b is_data, it.same_owners b, count_same C P P' b (kept (freed b) refl), kept (raised b) refl, kept (lowered b) refl);
      due = record {
        unmaps = λ f o b. omega (arith, was.due.unmaps f o b, kept (unmapping f o b) refl);
        maps = λ f o. omega (arith, was.due.maps f o, kept (mapping_at f o) refl, kept (unmapping_at f o) refl);
        removals = λ f o b. omega (arith, was.due.removals f o b, kept (unpairing f o b) refl);
        additions = λ f o b. omega (arith, was.due.additions f o b, kept (pairing f o b) refl);
        staging_removals = λ b. omega (arith, was.due.staging_removals b, kept (staging_unpair b) refl);
        staging_additions = λ b. omega (arith, was.due.staging_additions b, kept (staging_pair b) refl);
        stagings = λ b some. was.due.stagings b (omega (arith, some, kept (staging b) refl));
        unstagings = λ b. omega (arith, was.due.unstagings b, kept (unstaging b) refl);
      };
      blocks = record {
        counted_some = was.blocks.counted_some;
        owned_data = λ b some. was.blocks.owned_data b (omega (arith, some, it.same_owners b));
        named_groups = λ b some. was.blocks.named_groups b (omega (arith, some, kept (naming b) refl));
        counted_unstaged = λ b some. was.blocks.counted_unstaged b (omega (arith, some, kept (raised b) refl, kept (lowered b) refl));
        free_unnamed = λ b f. omega (arith, was.blocks.free_unnamed b f, kept (naming b) refl);
        free_unshared = was.blocks.free_unshared;
        freed_unshared = λ b some. was.blocks.freed_unshared b (omega (arith, some, kept (freed b) refl));
        freed_once = λ b. omega (arith, kept (freed b) refl, was.blocks.freed_once b);
        staged_once = λ b. omega (arith, kept (staging b) refl, was.blocks.staged_once b);
        two_owners = λ b. omega (arith, kept (raised b) refl, was.blocks.two_owners b, it.same_owners b);
      };
      offsets = record {
        unmaps = λ f o. ⊎_elim
            (λ q. omega (arith, q, kept (unmapping_at f o) refl, more (exchanging_at f o), once f o file other off other_off len it.valid))
            (λ n. omega (arith, n, was.offsets.unmaps f o, kept (unmapping_at f o) refl, more (exchanging_at f o)))
            (quiet f o);
        maps = λ f o. ⊎_elim
            (λ q. omega (arith, q, kept (mapping_at f o) refl, more (exchanging_at f o), once f o file other off other_off len it.valid))
            (λ n. omega (arith, n, was.offsets.maps f o, kept (mapping_at f o) refl, more (exchanging_at f o)))
            (quiet f o);
        removals = λ f o. ⊎_elim
            (λ q. omega (arith, q, kept (unpairing_at f o) refl, more (exchanging_at f o), once f o file other off other_off len it.valid))
            (λ n. omega (arith, n, was.offsets.removals f o, kept (unpairing_at f o) refl, more (exchanging_at f o)))
            (quiet f o);
        additions = λ f o. ⊎_elim
            (λ q. omega (arith, q, kept (pairing_at f o) refl, more (exchanging_at f o), once f o file other off other_off len it.valid))
            (λ n. omega (arith, n, was.offsets.additions f o, kept (pairing_at f o) refl, more (exchanging_at f o)))
            (quiet f o);
      };
      valid = all_begin (λ d. IsWork d.work) P new it.begins.after was.valid (one_each it.valid);
      parted = begins_parted was.parted it.begins (rows_are_chains.exchange file off other other_off len) (record {
        old = old_of;
        among = λ i j d less jl. absurd (omega (arith, less, jl));
      });
    }
  where
    one_each : IsWork (Swap file off other other_off len) → (j : ℕ) (x : Work) → j < length (works_of_exchange file off other other_off len) → IsWork (get_or (works_of_exchange file off other other_off len) j x)
    one_each valid zero x l = valid
    one_each valid (suc j) x l = absurd (omega (arith, l))

    old_of : (k : ℕ) (d : Debt) (j : ℕ) (x : Work) → k < length P → j < length (works_of_exchange file off other other_off len) → Agree (get_or P k d) (in_lane lane (get_or (works_of_exchange file off other other_off len) j x))
    old_of k d zero x kl jl = record {
      file = λ f a b. absurd (omega (arith, a, it.quiet f b, get_or-le-sum_by (λ (e : Debt). naming_file f e.work) P k d kl));
      before = λ b a c. absurd (omega (arith, c));
      after = λ b a. refl;
    }
    old_of k d (suc j) x kl jl = absurd (omega (arith, jl))
