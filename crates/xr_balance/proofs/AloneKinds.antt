-- Where the last owner of a block goes, all else that names the block stands in the same chain.
use Rattle.std.proofs.Common.{◌≡◌, ℕ, ◌+◌, ◌-◌, ◌<◌, ◌≤◌, List, length, get_or, arith, refl, ap, sym, ◌∙◌, false, Bool, ⊎_elim, subst}
use Rattle.std.specs.Prelude.{remove}
use Rattle.std.proofs.lemmas.Bool.{eq-eqb}
use Rattle.std.proofs.lemmas.List.Sums.{get_or-le-sum_by, sum_by-remove}
use Rattle.xr_base.specs.declared.address.Run.{Run}
use Rattle.xr_base.specs.declared.geometry.TheConstants.{FILES, OFFSETS}
use Rattle.xr_maps.specs.FileMaps.{FileMaps}
use Rattle.xr_maps.specs.Steps.{is_within}
use Rattle.xr_items.specs.declared.work.Work.{Work}
use Rattle.xr_items.specs.declared.work.Work.TheVariants.{Free, Own, Count, Map, Swap}
use Rattle.xr_items.specs.declared.work.OwnKind.TheVariants as Owning
use Rattle.xr_items.specs.declared.work.CountKind.TheVariants.{Increase, Decrease, AllocCow, FreeCow}
use Rattle.xr_items.specs.declared.work.MapKind.TheVariants as Mapping
use Rattle.xr_items.specs.Valid.{IsWork}
use Rattle.xr_maps.specs.Holdings.{holds, in_run, one_if, owners}
use Rattle.xr_balance.specs.Chains.{answering, disowning, unstaging_pair}
use Rattle.xr_balance.specs.Rolls.{Rolls, in_lane}
use Rattle.xr_balance.specs.Settled.{Committed, IsSettled, taking}
use Rattle.xr_balance.specs.Works.{Debt, exchanging_at, freed, lowered, mapping, mapping_at, naming, pairing, pairing_at, raised, staging, staging_pair, total, unstaging}
use Rattle.xr_balance.proofs.TotalLemmas.{IsLastLowering}
use Rattle.xr_balance.proofs.SumLemmas.{total-le, total-same, mapping-le, pairing-le, taking-le, one_owner, run-range, layout-there}
use Rattle.xr_balance.proofs.AloneLemmas.{disowned_alone, still_unstaged}
use Rattle.xr_balance.proofs.CountRolls.{zero_or_one}
use Rattle.xr_balance.proofs.PartedRolls.{stayed}

-- what is held where no exchange is pending has an owner in the end
owned_at : {C : Committed} {P : List Debt} {M : FileMaps} {Q : ℕ → Bool} (f o b : ℕ) (was : IsSettled C P M Q) → f < FILES → o < OFFSETS
    → total (exchanging_at f o) P ≡ 0 → 0 < holds was.base f o b → 0 < owners M b
owned_at {C} {P} {M} {Q} f o b was fl ol none some =
    omega (arith, was.maps.exchanged f o b, total-le (taking was.base f o b) (exchanging_at f o) P (taking-le was.base f o b), none, some, one_owner M f o b fl ol)

-- a block that is to be mapped, or to get a pair, has an owner
pub mapped_owned : {C : Committed} {P : List Debt} {M : FileMaps} {Q : ℕ → Bool} (f o b : ℕ) → IsSettled C P M Q → f < FILES → o < OFFSETS → 0 < total (mapping f o b) P → 0 < owners M b
mapped_owned {C} {P} {M} {Q} f o b was fl ol some = owned_at f o b was fl ol
    (omega (arith, total-le (mapping f o b) (mapping_at f o) P (mapping-le f o b), some, was.offsets.maps f o))
    (omega (arith, some, was.maps.base f o b, was.due.unmaps f o b))

pub paired_owned : {C : Committed} {P : List Debt} {M : FileMaps} {Q : ℕ → Bool} (f o b : ℕ) → IsSettled C P M Q → f < FILES → o < OFFSETS → 0 < total (pairing f o b) P → 0 < owners M b
paired_owned {C} {P} {M} {Q} f o b was fl ol some = owned_at f o b was fl ol
    (omega (arith, total-le (pairing f o b) (pairing_at f o) P (pairing-le f o b), some, was.offsets.additions f o))
    (omega (arith, some, was.pairs.owners f o b, was.due.removals f o b))

one_in : (b : ℕ) (run : Run) → 0 < in_run b run → in_run b run ≡ 1
one_in b run some = ⊎_elim (λ z. absurd (omega (arith, z, some))) (λ o. o) (zero_or_one (is_within run.start.0 run.len b))

-- each work is part of the sum
abbrev AreParts : List Debt → Work → Type 0
AreParts P v = (f : Work → ℕ) → f v ≤ total f P

-- a valid pending work that adds the block's pair gives it an owner
adding_owned : {C : Committed} {P : List Debt} {M : FileMaps} {Q : ℕ → Bool} (b owner off : ℕ) (run : Run) → IsSettled C P M Q → IsWork (Own Owning.MapShared owner off run)
    → AreParts P (Own Owning.MapShared owner off run) → in_run b run ≡ 1 → 0 < owners M b
adding_owned {C} {P} b owner off run was valid parts it =
    let f : ℕ = owner - 128 in
    let o : ℕ = off + (b - run.start.0) in
    let in_it = run-range run.start.0 run.len b it in
    let here : pairing f o b (Own Owning.MapShared owner off run) ≡ 1 = rw (eq-eqb owner (128 + f) (omega (arith, valid.1.0))) (layout-there b off run it) in
    paired_owned f o b was (omega (arith, valid.1.0, valid.1.1)) (omega (arith, in_it.0, in_it.1, valid.2.0 valid.1)) (omega (arith, here, parts (pairing f o b)))

-- in the sum for the block, only lowerings answer
answers-lowers : {C : Committed} {P : List Debt} {M : FileMaps} {Q : ℕ → Bool} (b : ℕ) → IsSettled C P M Q → owners M b ≡ 0 → (v : Work) → IsWork v → AreParts P v → answering b v ≡ lowered b v
answers-lowers b was none (Own Owning.MapShared owner off run) valid parts = ⊎_elim
    (λ z. z)
    (λ it. absurd (omega (arith, none, adding_owned b owner off run was valid parts it)))
    (zero_or_one (is_within run.start.0 run.len b))
answers-lowers b was none (Own Owning.UnmapShared owner off run) valid parts = refl
answers-lowers b was none (Own Owning.Alloc owner off run) valid parts = refl
answers-lowers b was none (Own Owning.Free owner off run) valid parts = refl
answers-lowers b was none (Free run) valid parts = refl
answers-lowers b was none (Count Increase run) valid parts = refl
answers-lowers b was none (Count Decrease run) valid parts = refl
answers-lowers b was none (Count AllocCow run) valid parts = refl
answers-lowers b was none (Count FreeCow run) valid parts = refl
answers-lowers b was none (Map kind file off run) valid parts = refl
answers-lowers b was none (Swap file off other other_off len) valid parts = refl

named_alone : {C : Committed} {P : List Debt} {M : FileMaps} {Q : ℕ → Bool} {one two : ℕ} (b : ℕ) → IsSettled C P M Q → IsLastLowering C P M Q b → C.is_staged b ≡ false
    → (v : Work) → IsWork v → AreParts P v → lowered b v ≡ 0 → (0 < disowning b v → one ≡ two) → (0 < unstaging_pair b v → 0 < total (unstaging b) P + total (freed b) P)
    → 0 < naming b v → one ≡ two
named_alone b was last unstaged (Free run) valid parts low dis uns named = absurd (omega (arith, named, parts (freed b), last.not_given))
named_alone b was last unstaged (Count Increase run) valid parts low dis uns named = absurd (omega (arith, named, parts (raised b), last.not_raised))
named_alone b was last unstaged (Count Decrease run) valid parts low dis uns named = absurd (omega (arith, named, low))
named_alone {C} {P} {M} {Q} b was last unstaged (Count AllocCow run) valid parts low dis uns named =
    let off : one_if (Q b) ≡ 0 = rw (last.unstaged) refl in
    absurd (omega (arith, named, parts (staging b), was.staging.staged b, was.due.unstagings b, off))
named_alone {C} b was last unstaged (Count FreeCow run) valid parts low dis uns named =
    let off : one_if (C.is_staged b) ≡ 0 = rw unstaged refl in
    absurd (omega (arith, named, parts (unstaging b), was.due.unstagings b, off))
named_alone b was last unstaged (Map Mapping.Map file off run) valid parts low dis uns named =
    let it = one_in b run named in
    let o : ℕ = off + (b - run.start.0) in
    let in_it = run-range run.start.0 run.len b it in
    let here : mapping file.0 o b (Map Mapping.Map file off run) ≡ 1 = rw (eq-eqb file.0 file.0 refl) (layout-there b off run it) in
    absurd (omega (arith, last.unowned, mapped_owned file.0 o b was valid.1 (omega (arith, in_it.0, in_it.1, valid.2)) (omega (arith, here, parts (mapping file.0 o b)))))
named_alone b was last unstaged (Map Mapping.Unmap file off run) valid parts low dis uns named = dis named
named_alone b was last unstaged (Own Owning.MapShared owner off run) valid parts low dis uns named =
    absurd (omega (arith, last.unowned, adding_owned b owner off run was valid parts (one_in b run named)))
named_alone b was last unstaged (Own Owning.UnmapShared owner off run) valid parts low dis uns named = dis named
named_alone {C} {P} {M} {Q} b was last unstaged (Own Owning.Alloc owner off run) valid parts low dis uns named =
    let off : one_if (Q b) ≡ 0 = rw (last.unstaged) refl in
    absurd (omega (arith, named, parts (staging_pair b), was.pairs.staging_pairs b, was.due.staging_removals b, off))
named_alone {C} b was last unstaged (Own Owning.Free owner off run) valid parts low dis uns named =
    let off : one_if (C.is_staged b) ≡ 0 = rw unstaged refl in
    absurd (omega (arith, uns named, last.not_given, was.due.unstagings b, off))
named_alone b was last unstaged (Swap file off other other_off len) valid parts low dis uns named = absurd (omega (arith, named))

-- all that names the block and stays stands in the lane of its last lowering
pub alone : {C : Committed} {P P' : List Debt} {M : FileMaps} {Q : ℕ → Bool} {i lane : ℕ} {run : Run} {new : List Work} (b k : ℕ) (d : Debt)
    → IsSettled C P M Q → Rolls P i lane (Count Decrease run) new P' → in_run b run ≡ 1 → IsLastLowering C P M Q b
    → k < length (remove P i) → 0 < naming b (get_or (remove P i) k d).work → (get_or (remove P i) k d).lane ≡ lane
alone {C} {P} {P'} {M} {Q} {i} {lane} {run} {new} b k d was rolls it last inside named =
    let at = stayed P i k d rolls.first.inside inside in
    let e : Debt = in_lane lane (Count Decrease run) in
    let apart = was.blocks.counted_unstaged b (omega (arith, last.lowered_once)) in
    let part : (f : Work → ℕ) → f (get_or (remove P i) k d).work ≤ total f P = λ f.
    omega (arith, get_or-le-sum_by (λ (x : Debt). f x.work) (remove P i) k d inside, sum_by-remove (λ (x : Debt). f x.work) P i e rolls.first.inside) in
    let low : lowered b (get_or (remove P i) k d).work ≡ 0 =
    omega (
      arith,
      get_or-le-sum_by (λ (x : Debt). lowered b x.work) (remove P i) k d inside,
      sum_by-remove (λ (x : Debt). lowered b x.work) P i e rolls.first.inside,
      ap (λ (x : Debt). lowered b x.work) (rolls.first.is_work e),
      last.lowered_once,
      it,
    ) in
    let valid : IsWork (get_or (remove P i) k d).work = subst (λ (x : Debt). IsWork x.work) (sym at.2) (was.valid at.0 d at.1) in
    let answers : total (answering b) P ≡ total (lowered b) P = total-same (answering b) (lowered b) P (λ j x l.
    answers-lowers b was last.unowned (get_or P j x).work (was.valid j x l) (λ f. get_or-le-sum_by (λ (y : Debt). f y.work) P j x l)) in
    named_alone b was last apart.0 (get_or (remove P i) k d).work valid part low
    (λ dis. ap (λ (x : Debt). x.lane) at.2 ∙ disowned_alone b at.0 d was.parted rolls it last.lowered_once answers it at.1 (subst (λ (x : Debt). 0 < disowning b x.work) at.2 dis))
    (λ uns. still_unstaged b at.0 d was.parted at.1 (subst (λ (x : Debt). 0 < unstaging_pair b x.work) at.2 uns))
    named
