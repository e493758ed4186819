-- Events that begin a chain keep the balance.
use Rattle.std.proofs.Common.{◌≡◌, ℕ, ◌+◌, ◌-◌, ◌<◌, ◌≤◌, List, ◌++◌, length, get_or, arith, refl, ap, sym, ◌∙◌, true, false, map, Bool, ⊎_elim, subst, length-append}
use Rattle.std.specs.Prelude.{sum_by, IsTrue, All, AllPairs}
use Rattle.std.proofs.lemmas.Bool.{cases_lt, cases_eq}
use Rattle.std.proofs.lemmas.List.Sums.{sum_by-append, get_or-le-sum_by}
use Rattle.std.proofs.lemmas.List.{get_or_append_left, length-map}
use Rattle.std.proofs.Math.Seq.{get_or-append_right}
use Rattle.xr_maps.specs.FileMaps.{FileMaps}
use Rattle.xr_items.specs.declared.work.Work.{Work}
use Rattle.xr_items.specs.Valid.{IsWork}
use Rattle.xr_maps.specs.Holdings.{one_if, owners}
use Rattle.xr_balance.proofs.StepPremises.{BeginsStep, NamesApart, StepKeeps}
use Rattle.xr_balance.specs.Chains.{IsChain}
use Rattle.xr_balance.specs.Rolls.{in_lane}
use Rattle.xr_balance.specs.Settled.{Agree, Committed, IsDataOf, IsPartedByLane, IsSettled, chain_of, count_of}
use Rattle.xr_balance.specs.Stagings.{BeginsChain}
use Rattle.xr_balance.specs.Works.{Debt, IsLane, exchanging_at, freed, lowered, mapping, mapping_at, naming, naming_file, pairing, pairing_at, raised, staging, staging_pair, staging_unpair, total, unmapping, unmapping_at, unpairing, unpairing_at, unstaging}
use Rattle.xr_balance.proofs.TotalLemmas.{sum_by-in_lane, count-gone}
use Rattle.xr_balance.proofs.ChainLemmas.{chain-begun, chain-begun-other}
use Rattle.xr_balance.proofs.PartedLemmas.{NewAgree, all_pairs_append, get_or-new}
use Rattle.xr_balance.proofs.PartedRolls.{works_of, works-new}
use Rattle.xr_balance.proofs.SumLemmas.{names-all, total-le, sum-le, mapping-le, unmapping-le, pairing-le, unpairing-le}
use Rattle.xr_balance.proofs.CountRolls.{given_when_zero, count-free}

pub total-begins : (g : Work → ℕ) (P : List Debt) {P' : List Debt} (lane : ℕ) (new : List Work) → P' ≡ P ++ map (in_lane lane) new → total g P' ≡ total g P + sum_by g new
total-begins g P {P'} lane new after =
    ap (total g) after ∙ sum_by-append (λ (d : Debt). g d.work) P (map (in_lane lane) new) ∙ ap (λ n. total g P + n) (sum_by-in_lane g lane new)

pub all_begin : (T : Debt → Type 0) (P : List Debt) {P' : List Debt} {lane : ℕ} (new : List Work) → P' ≡ P ++ map (in_lane lane) new → All T P
    → ((k : ℕ) (d : Work) → k < length new → T (in_lane lane (get_or new k d))) → All T P'
all_begin T P {P'} {lane} new after all fresh = subst (All T) (sym after) (λ k d inside.
    let n : ℕ = length P in
    let long : length (P ++ map (in_lane lane) new) ≡ n + length (map (in_lane lane) new) = length-append P (map (in_lane lane) new) in
    let count = length-map new (in_lane lane) in
    ⊎_elim
    (λ left. subst T (sym (get_or_append_left P (map (in_lane lane) new) d k left)) (all k d left))
    (λ right. subst T (sym (get_or-append_right P (map (in_lane lane) new) k d right ∙ get_or-new lane new (k - n) d (omega (arith, inside, long, count, right))))
    (fresh (k - n) d.work (omega (arith, inside, long, count, right))))
    (cases_lt k n))

pub begins_parted : {P P' : List Debt} {lane : ℕ} {new : List Work} → IsPartedByLane P → BeginsChain P lane new P' → IsChain new → NewAgree P lane new → IsPartedByLane P'
begins_parted {P} {P'} {lane} {new} was begins chain agree =
    record {
      lanes = all_begin (λ d. IsLane d.lane) P new begins.after was.lanes (λ k d l. begins.seat);
      agree = subst (AllPairs Agree) (sym begins.after) (all_pairs_append P (map (in_lane lane) new) was.agree agree.among
          (λ k j d kl jl. rw (get_or-new lane new j d (omega (arith, jl, length-map new (in_lane lane)))) (agree.old k d j d.work kl (omega (arith, jl, length-map new (in_lane lane))))));
      chains = λ l. ⊎_elim
          (λ e. let is : chain_of P' l ≡ map (in_lane lane) new = ap (λ m. chain_of P' m) (sym e) ∙ chain-begun begins in
          subst IsChain (sym (ap works_of is ∙ works-new lane new)) chain)
          (λ ne. subst (λ c. IsChain (works_of c)) (sym (chain-begun-other l ne begins)) (was.chains l))
          (cases_eq lane l);
    }

pub count_same : (C : Committed) (P P' : List Debt) (b : ℕ) → total (freed b) P' ≡ total (freed b) P → count_of C P' b ≡ count_of C P b
count_same C P P' b same = rw same refl

pub not_true : (t : Bool) → one_if t ≡ 0 → t ≡ false
not_true true h = absurd (omega (arith, h))
not_true false h = refl

pub is_one : (t : Bool) → IsTrue t → one_if t ≡ 1
is_one true h = refl
is_one false h = absurd (omega (arith, ap one_if h))

pub is_true : (t : Bool) → 0 < one_if t → IsTrue t
is_true true h = refl
is_true false h = absurd (omega (arith, h))

pub at_most_one : (t : Bool) → one_if t ≤ 1
at_most_one true = omega arith
at_most_one false = omega arith

-- a block that has an owner or is staged is a data block
pub data_there : {C : Committed} {P : List Debt} {M : FileMaps} {Q : ℕ → Bool} (b : ℕ) → IsSettled C P M Q → 0 < owners M b + one_if (Q b) → IsDataOf C b
data_there {C} {P} {M} {Q} b was some = ⊎_elim
    (λ owned. was.blocks.owned_data b owned)
    (λ none. was.staging.data_only b (is_true (Q b) (omega (arith, none, some))))
    (cases_lt 0 (owners M b))

-- a block that has an owner or is to be staged is neither free nor to be given
pub owned_there : {C : Committed} {P : List Debt} {M : FileMaps} {Q : ℕ → Bool} (b : ℕ) → IsSettled C P M Q
    → 0 < owners M b + one_if (Q b) → (C.is_free b ≡ false) × (total (freed b) P ≡ 0)
owned_there {C} {P} {M} {Q} b was some = (
  unfree,
  ⊎_elim
      (λ more. let it = given_when_zero b was is_data (count-gone C P b unfree more) in let off : one_if (Q b) ≡ 0 = rw (it.unstaged) refl in absurd (omega (arith, some, it.unowned, off)))
      (λ none. omega (arith, none))
      (cases_lt 0 (total (freed b) P)),
)
  where
    is_data : IsDataOf C b
    is_data = data_there b was some

    unfree : C.is_free b ≡ false
    unfree = elim (C.is_free b) as (λ t. C.is_free b ≡ t → t ≡ false) [
      | true ↦ λ e. let it = given_when_zero b was is_data (count-free C P b e) in let off : one_if (Q b) ≡ 0 = rw (it.unstaged) refl in absurd (omega (arith, some, it.unowned, off))
      | false ↦ λ _. refl
    ] refl

-- what names an offset and a block names the offset
abbrev Parts : List Debt → List Work → ℕ → ℕ → ℕ → Type 0
Parts P new f o b = (sum_by (mapping f o b) new ≤ sum_by (mapping_at f o) new) × (sum_by (unmapping f o b) new ≤ sum_by (unmapping_at f o) new)
    × (total (mapping f o b) P ≤ total (mapping_at f o) P) × (total (unmapping f o b) P ≤ total (unmapping_at f o) P)
    × (total (pairing f o b) P ≤ total (pairing_at f o) P) × (total (unpairing f o b) P ≤ total (unpairing_at f o) P)

all_parts : (P : List Debt) (new : List Work) (f o b : ℕ) → Parts P new f o b
all_parts P new f o b = (
  sum-le (mapping f o b) (mapping_at f o) new (mapping-le f o b),
  sum-le (unmapping f o b) (unmapping_at f o) new (unmapping-le f o b),
  total-le (mapping f o b) (mapping_at f o) P (mapping-le f o b),
  total-le (unmapping f o b) (unmapping_at f o) P (unmapping-le f o b),
  total-le (pairing f o b) (pairing_at f o) P (pairing-le f o b),
  total-le (unpairing f o b) (unpairing_at f o) P (unpairing-le f o b),
)

-- a remap's or a punch's first commit
pub step_keeps : {C : Committed} {P P' : List Debt} {M M' B' : FileMaps} {Q Q' : ℕ → Bool} {lane : ℕ} {new : List Work}
    → (was : IsSettled C P M Q) → BeginsStep C P M was.base Q lane new P' M' B' Q' → NewAgree P lane new → All (λ d. IsWork d.work) P' → IsSettled C P' M' Q'
step_keeps {C} {P} {P'} {M} {M'} {B'} {Q} {Q'} {lane} {new} was it agree valid =
    let B : FileMaps = was.base in
    let more : (g : Work → ℕ) → total g P' ≡ total g P + sum_by g new = λ g. total-begins g P lane new it.begins.after in
    let kept : (g : Work → ℕ) → sum_by g new ≡ 0 → total g P' ≡ total g P = λ g none. omega (arith, more g, none) in
    let counted_now : (b : ℕ) → 0 < sum_by (raised b) new + sum_by (lowered b) new → (C.is_staged b ≡ false) × (Q' b ≡ false) = λ b some.
    let off = it.counted_unstaged b some in
    (not_true (C.is_staged b) (omega (arith, off.1, off.0, was.staging.staged b, was.due.unstagings b)), not_true (Q' b) (omega (arith, off.0, it.staged b))) in
    let parts : (f o b : ℕ) → Parts P new f o b = λ f o b. all_parts P new f o b in
    record {
      base = B';
      good_base = it.good_base;
      good_maps = it.good;
      maps = record {
        base = λ f o b. omega (arith, was.maps.base f o b, it.base f o b, more (mapping f o b), more (unmapping f o b));
        exchanged = λ f o b. omega (arith, was.maps.exchanged f o b, it.base f o b, it.step f o b, it.takes f o b, it.brings f o b);
      };
      staging = record {
        staged = λ b. omega (arith, was.staging.staged b, it.staged b, kept (staging b) (it.row.no_staging b), more (unstaging b));
        data_only = λ b q. was.staging.data_only b (is_true (Q b) (omega (arith, is_one (Q' b) q, it.staged b)));
        unowned = λ b q. ⊎_elim
            (λ some. absurd (omega (arith, is_one (Q' b) q, ap one_if (counted_now b some).1)))
            (λ none. omega (arith, none, is_one (Q' b) q, it.staged b, it.counts b, at_most_one (Q b), was.staging.unowned b (is_true (Q b) (omega (arith, is_one (Q' b) q, it.staged b)))))
            (cases_lt 0 (sum_by (raised b) new + sum_by (lowered b) new));
      };
      pairs = record {
        owners = λ f o b. omega (arith, was.pairs.owners f o b, it.base f o b, more (pairing f o b), more (unpairing f o b), it.row.pairs_on f o b, it.row.pairs_off f o b);
        staging_pairs = λ b. omega (arith, was.pairs.staging_pairs b, it.staged b, kept (staging_pair b) (it.row.no_staging_pair b), more (staging_unpair b), it.row.stagings_off b);
      };
      counts = λ b is_data. omega (arith, was.counts b is_data, count_same C P P' b (kept (freed b) (it.row.no_gift b)), more (raised b), more (lowered b), it.counts b);
      due = record {
        unmaps = λ f o b. ⊎_elim
            (λ q. omega (arith, q, more (unmapping f o b), parts f o b, it.old_there f o b))
            (λ q. omega (arith, q, more (unmapping f o b), parts f o b, was.due.unmaps f o b))
            (it.quiet f o);
        maps = λ f o. ⊎_elim
            (λ q. omega (arith, q, more (mapping_at f o), more (unmapping_at f o), it.fills f o))
            (λ q. omega (arith, q, more (mapping_at f o), more (unmapping_at f o), was.due.maps f o))
            (it.quiet f o);
        removals = λ f o b. ⊎_elim
            (λ q. omega (arith, q, more (unpairing f o b), parts f o b, it.row.pairs_off f o b, was.pairs.owners f o b, was.maps.base f o b, it.old_there f o b))
            (λ q. omega (arith, q, more (unpairing f o b), parts f o b, it.row.pairs_off f o b, was.due.removals f o b))
            (it.quiet f o);
        additions = λ f o b. ⊎_elim
            (λ q. omega (arith, q, more (pairing f o b), parts f o b, it.row.pairs_on f o b, was.pairs.owners f o b, it.others f o b))
            (λ q. omega (arith, q, more (pairing f o b), parts f o b, it.row.pairs_on f o b, was.due.additions f o b))
            (it.quiet f o);
        staging_removals = λ b. ⊎_elim
            (λ some. omega (arith, some, it.staged_now b some, more (staging_unpair b), it.row.stagings_off b, was.pairs.staging_pairs b, it.staged b))
            (λ none. omega (arith, none, more (staging_unpair b), it.row.stagings_off b, was.due.staging_removals b))
            (cases_lt 0 (sum_by (unstaging b) new));
        staging_additions = λ b. omega (arith, kept (staging_pair b) (it.row.no_staging_pair b), was.due.staging_additions b);
        stagings = λ b some. was.due.stagings b (omega (arith, some, kept (staging b) (it.row.no_staging b)));
        unstagings = λ b. ⊎_elim
            (λ some. omega (arith, some, it.staged_now b some, more (unstaging b), was.staging.staged b, it.staged b))
            (λ none. omega (arith, none, more (unstaging b), was.due.unstagings b))
            (cases_lt 0 (sum_by (unstaging b) new));
      };
      blocks = record {
        counted_some = was.blocks.counted_some;
        owned_data = λ b some. ⊎_elim
            (λ owned. was.blocks.owned_data b owned)
            (λ none. data_there b was (⊎_elim (λ (q : 0 < one_if (Q b)). omega (arith, q)) (λ z. it.there b (omega (arith, none, z, some, it.counts b, sum-le (raised b) (naming b) new (λ w. omega (arith, names-all b w))))) (cases_lt 0 (one_if (Q b)))))
            (cases_lt 0 (owners M b));
        named_groups = λ b some. ⊎_elim
            (λ fresh. (data_there b was (it.there b fresh)).1)
            (λ none. was.blocks.named_groups b (omega (arith, some, none, more (naming b))))
            (cases_lt 0 (sum_by (naming b) new));
        counted_unstaged = λ b some. ⊎_elim
            (λ fresh. counted_now b fresh)
            (λ none. let old = was.blocks.counted_unstaged b (omega (arith, some, none, more (raised b), more (lowered b))) in
            (old.0, not_true (Q' b) (omega (arith, it.staged b, ap one_if old.1))))
            (cases_lt 0 (sum_by (raised b) new + sum_by (lowered b) new));
        free_unnamed = λ b free. ⊎_elim
            (λ some. let there = it.there b some in absurd (omega (arith, ap one_if (sym free ∙ (owned_there b was there).0))))
            (λ none. omega (arith, none, more (naming b), was.blocks.free_unnamed b free))
            (cases_lt 0 (sum_by (naming b) new));
        free_unshared = was.blocks.free_unshared;
        freed_unshared = λ b some. was.blocks.freed_unshared b (omega (arith, some, kept (freed b) (it.row.no_gift b)));
        freed_once = λ b. omega (arith, kept (freed b) (it.row.no_gift b), was.blocks.freed_once b);
        staged_once = λ b. omega (arith, kept (staging b) (it.row.no_staging b), was.blocks.staged_once b);
        two_owners = λ b. omega (arith, more (raised b), it.two_owners b);
      };
      offsets = record {
        unmaps = λ f o. ⊎_elim
            (λ q. omega (arith, q, more (unmapping_at f o), kept (exchanging_at f o) (it.row.no_exchange f o), it.row.once_off f o))
            (λ q. omega (arith, q, more (unmapping_at f o), kept (exchanging_at f o) (it.row.no_exchange f o), was.offsets.unmaps f o))
            (it.quiet f o);
        maps = λ f o. ⊎_elim
            (λ q. omega (arith, q, more (mapping_at f o), kept (exchanging_at f o) (it.row.no_exchange f o), it.row.once_on f o))
            (λ q. omega (arith, q, more (mapping_at f o), kept (exchanging_at f o) (it.row.no_exchange f o), was.offsets.maps f o))
            (it.quiet f o);
        removals = λ f o. ⊎_elim
            (λ q. omega (arith, q, more (unpairing_at f o), kept (exchanging_at f o) (it.row.no_exchange f o), it.row.once_off f o, it.row.at_off f o))
            (λ q. omega (arith, q, more (unpairing_at f o), kept (exchanging_at f o) (it.row.no_exchange f o), it.row.at_off f o, was.offsets.removals f o))
            (it.quiet f o);
        additions = λ f o. ⊎_elim
            (λ q. omega (arith, q, more (pairing_at f o), kept (exchanging_at f o) (it.row.no_exchange f o), it.row.once_on f o, it.row.at_on f o))
            (λ q. omega (arith, q, more (pairing_at f o), kept (exchanging_at f o) (it.row.no_exchange f o), it.row.at_on f o, was.offsets.additions f o))
            (it.quiet f o);
      };
      valid = valid;
      parted = begins_parted was.parted it.begins it.chain agree;
    }

-- the row agrees with all that is pending
row_agrees : {C : Committed} {P P' : List Debt} {M M' B B' : FileMaps} {Q Q' : ℕ → Bool} {lane : ℕ} {new : List Work}
    → IsSettled C P M Q → BeginsStep C P M B Q lane new P' M' B' Q' → NamesApart P new → NewAgree P lane new
row_agrees {C} {P} {P'} {M} {M'} {B} {B'} {Q} {Q'} {lane} {new} was it apart =
    let part : (f : Work → ℕ) (j : ℕ) (w : Work) → j < length new → f (get_or new j w) ≤ sum_by f new = λ f j w l. get_or-le-sum_by f new j w l in
    record {
      old = λ k d j w kl jl. record {
        file = λ f x y. absurd (omega (arith, x, y, part (naming_file f) j w jl, apart f (omega (arith, y, part (naming_file f) j w jl)), get_or-le-sum_by (λ (e : Debt). naming_file f e.work) P k d kl));
        before = λ b x y. absurd (omega (arith, y, part (freed b) j w jl, it.row.no_gift b));
        after = λ b given. ⊎_elim
            (λ some. let there = it.there b (omega (arith, some, part (naming b) j w jl)) in
            absurd (omega (arith, given, (owned_there b was there).1, get_or-le-sum_by (λ (e : Debt). freed b e.work) P k d kl)))
            (λ none. omega (arith, none))
            (cases_lt 0 (naming b (get_or new j w)));
      };
      among = λ i j d less jl.
          let n = length-map new (in_lane lane) in
          let one = get_or-new lane new i d (omega (arith, less, jl, n)) in
          let two = get_or-new lane new j d (omega (arith, jl, n)) in
          rw (one, two) (record {
            file = λ f x y. refl;
            before = λ b x y. refl;
            after = λ b x. absurd (omega (arith, x, part (freed b) i d.work (omega (arith, less, jl, n)), it.row.no_gift b));
          });
    }

pub first_keeps : StepKeeps
first_keeps C P P' M M' B' Q Q' lane new was it apart valid =
    step_keeps was it (row_agrees was it apart) (all_begin (λ d. IsWork d.work) P new it.begins.after was.valid valid)
