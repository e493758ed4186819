-- What a roll leaves of the balance, for all kinds of work that no exchange is.
use Rattle.std.proofs.Common.{◌≡◌, ℕ, ◌+◌, ◌<◌, List, [], ◌∷◌, arith, refl, ap, sym, ◌∙◌, true, false, Bool, subst}
use Rattle.std.specs.Prelude.{sum_by, IsTrue, ⊤, All}
use Rattle.std.proofs.lemmas.List.Sums.{sum_by-cons}
use Rattle.xr_base.specs.declared.address.Run.{Run}
use Rattle.xr_maps.specs.FileMaps.{FileMaps}
use Rattle.xr_items.specs.declared.work.Work.{Work}
use Rattle.xr_items.specs.declared.work.Work.TheVariants.{Free, Own, Count, Map, Swap}
use Rattle.xr_items.specs.declared.work.CountKind.TheVariants.{Increase, Decrease, AllocCow, FreeCow}
use Rattle.xr_items.specs.Valid.{IsWork}
use Rattle.xr_maps.specs.Holdings.{one_if}
use Rattle.xr_balance.specs.RollGives.{KeepsCommitted, Moves, RollsPlain}
use Rattle.xr_balance.specs.Rolls.{Rolls}
use Rattle.xr_balance.specs.Settled.{BlocksAgree, Committed, CountsSettle, IsPartedByLane, IsSettled, bringing, count_of, taking}
use Rattle.xr_balance.specs.Works.{Debt, exchanging_at, freed, lowered, mapping, mapping_at, naming, pairing, pairing_at, raised, staging, staging_pair, staging_unpair, total, unmapping, unmapping_at, unpairing, unpairing_at, unstaging}
use Rattle.xr_balance.proofs.TotalLemmas.{total-rolls, work-le-total}

-- gifts, raises and lowerings
abbrev pub IsCounting : Work → Type 0
IsCounting (Free run) = ⊤
IsCounting (Count Increase run) = ⊤
IsCounting (Count Decrease run) = ⊤
IsCounting _ = ⊥

abbrev pub AreCounting : List Work → Type 0
AreCounting [] = ⊤
AreCounting (w ∷ works) = IsCounting w × AreCounting works

-- a sum of what such works name none of
pub none_counting : (f : Work → ℕ) → ((r : Run) → f (Free r) ≡ 0) → ((r : Run) → f (Count Increase r) ≡ 0) → ((r : Run) → f (Count Decrease r) ≡ 0)
    → (new : List Work) → AreCounting new → sum_by f new ≡ 0
none_counting f a b c [] are = refl
none_counting f a b c (Free r ∷ new) are = omega (arith, sum_by-cons f (Free r) new, a r, none_counting f a b c new are.1)
none_counting f a b c (Count Increase r ∷ new) are = omega (arith, sum_by-cons f (Count Increase r) new, b r, none_counting f a b c new are.1)
none_counting f a b c (Count Decrease r ∷ new) are = omega (arith, sum_by-cons f (Count Decrease r) new, c r, none_counting f a b c new are.1)
none_counting f a b c (Count AllocCow r ∷ new) are = absurd are.0
none_counting f a b c (Count FreeCow r ∷ new) are = absurd are.0
none_counting f a b c (Own kind owner off r ∷ new) are = absurd are.0
none_counting f a b c (Map kind file off r ∷ new) are = absurd are.0
none_counting f a b c (Swap file off other other_off len ∷ new) are = absurd are.0

-- blocks are told by what is read from them
pub rebuilt : (C C' : Committed) (counts : ℕ → ℕ) (free : ℕ → Bool) → KeepsCommitted C C' → ((b : ℕ) → C'.counted b ≡ counts b) → ((b : ℕ) → C'.is_free b ≡ free b)
    → C' ≡ record C { counted = counts; is_free = free }
rebuilt C C' counts free keeps counted frees = λ i. record {
  groups = keeps.groups i;
  maps = keeps.maps i;
  has_pair = λ f o b. keeps.pairs f o b i;
  has_staging_pair = λ b. keeps.staging_pairs b i;
  counted = λ b. counted b i;
  is_staged = λ b. keeps.staged b i;
  is_free = λ b. frees b i;
}

-- the work is no exchange
pub record IsPlain (w : Work) : Type 0 where
  pub at : (f o : ℕ) → exchanging_at f o w ≡ 0
  pub takes : (B : FileMaps) (f o b : ℕ) → taking B f o b w ≡ 0
  pub brings : (B : FileMaps) (f o b : ℕ) → bringing B f o b w ≡ 0

-- what a roll is given that ends no exchange, and what was shown of the counts after it
pub record Steps (C : Committed) (P : List Debt) (M : FileMaps) (Q : ℕ → Bool) (i lane : ℕ) (w : Work) (new : List Work) (C' : Committed) (P' : List Debt) : Type 0 where
  pub rolls : Rolls P i lane w new P'
  pub counting : AreCounting new
  pub plain : IsPlain w
  pub moves : Moves C w C'
  pub counts : CountsSettle C' P' M Q
  pub stagings : (b : ℕ) → 0 < total (staging b) P' → C'.counted b ≡ 1
  pub blocks : BlocksAgree C' P' M Q
  pub valid : All (λ d. IsWork d.work) P'
  pub parted : IsPartedByLane P'

pub roll_keeps : {C C' : Committed} {P P' : List Debt} {M : FileMaps} {Q : ℕ → Bool} {i lane : ℕ} {w : Work} {new : List Work}
    → IsSettled C P M Q → Steps C P M Q i lane w new C' P' → IsSettled C' P' M Q
roll_keeps {C} {C'} {P} {P'} {M} {Q} {i} {lane} {w} {new} was it =
    let gone : (f : Work → ℕ) → ((r : Run) → f (Free r) ≡ 0) → ((r : Run) → f (Count Increase r) ≡ 0) → ((r : Run) → f (Count Decrease r) ≡ 0) → total f P' + f w ≡ total f P =
    λ f a b c. omega (arith, total-rolls f it.rolls, none_counting f a b c new it.counting) in
    let map_on : (f o b : ℕ) → total (mapping f o b) P' + mapping f o b w ≡ total (mapping f o b) P = λ f o b. gone (mapping f o b) (λ _. refl) (λ _. refl) (λ _. refl) in
    let map_off : (f o b : ℕ) → total (unmapping f o b) P' + unmapping f o b w ≡ total (unmapping f o b) P = λ f o b. gone (unmapping f o b) (λ _. refl) (λ _. refl) (λ _. refl) in
    let at_on : (f o : ℕ) → total (mapping_at f o) P' + mapping_at f o w ≡ total (mapping_at f o) P = λ f o. gone (mapping_at f o) (λ _. refl) (λ _. refl) (λ _. refl) in
    let at_off : (f o : ℕ) → total (unmapping_at f o) P' + unmapping_at f o w ≡ total (unmapping_at f o) P = λ f o. gone (unmapping_at f o) (λ _. refl) (λ _. refl) (λ _. refl) in
    let pair_on : (f o b : ℕ) → total (pairing f o b) P' + pairing f o b w ≡ total (pairing f o b) P = λ f o b. gone (pairing f o b) (λ _. refl) (λ _. refl) (λ _. refl) in
    let pair_off : (f o b : ℕ) → total (unpairing f o b) P' + unpairing f o b w ≡ total (unpairing f o b) P = λ f o b. gone (unpairing f o b) (λ _. refl) (λ _. refl) (λ _. refl) in
    let pair_at_on : (f o : ℕ) → total (pairing_at f o) P' + pairing_at f o w ≡ total (pairing_at f o) P = λ f o. gone (pairing_at f o) (λ _. refl) (λ _. refl) (λ _. refl) in
    let pair_at_off : (f o : ℕ) → total (unpairing_at f o) P' + unpairing_at f o w ≡ total (unpairing_at f o) P = λ f o. gone (unpairing_at f o) (λ _. refl) (λ _. refl) (λ _. refl) in
    let s_pair_on : (b : ℕ) → total (staging_pair b) P' + staging_pair b w ≡ total (staging_pair b) P = λ b. gone (staging_pair b) (λ _. refl) (λ _. refl) (λ _. refl) in
    let s_pair_off : (b : ℕ) → total (staging_unpair b) P' + staging_unpair b w ≡ total (staging_unpair b) P = λ b. gone (staging_unpair b) (λ _. refl) (λ _. refl) (λ _. refl) in
    let stage_on : (b : ℕ) → total (staging b) P' + staging b w ≡ total (staging b) P = λ b. gone (staging b) (λ _. refl) (λ _. refl) (λ _. refl) in
    let stage_off : (b : ℕ) → total (unstaging b) P' + unstaging b w ≡ total (unstaging b) P = λ b. gone (unstaging b) (λ _. refl) (λ _. refl) (λ _. refl) in
    let exchange_at : (f o : ℕ) → total (exchanging_at f o) P' ≡ total (exchanging_at f o) P = λ f o. omega (arith, gone (exchanging_at f o) (λ _. refl) (λ _. refl) (λ _. refl), it.plain.at f o) in
    let B : FileMaps = was.base in
    let takes : (f o b : ℕ) → total (taking B f o b) P' ≡ total (taking B f o b) P = λ f o b. omega (arith, gone (taking B f o b) (λ _. refl) (λ _. refl) (λ _. refl), it.plain.takes B f o b) in
    let brings : (f o b : ℕ) → total (bringing B f o b) P' ≡ total (bringing B f o b) P = λ f o b. omega (arith, gone (bringing B f o b) (λ _. refl) (λ _. refl) (λ _. refl), it.plain.brings B f o b) in
    record {
      base = B;
      good_base = was.good_base;
      good_maps = was.good_maps;
      maps = record {
        base = λ f o b. omega (arith, was.maps.base f o b, it.moves.maps f o b, map_on f o b, map_off f o b);
        exchanged = λ f o b. omega (arith, was.maps.exchanged f o b, takes f o b, brings f o b);
      };
      staging = record {
        staged = λ b. omega (arith, was.staging.staged b, it.moves.staged b, stage_on b, stage_off b);
        data_only = λ b q. let old = was.staging.data_only b q in (old.0, omega (arith, old.1, it.moves.groups));
        unowned = was.staging.unowned;
      };
      pairs = record {
        owners = λ f o b. omega (arith, was.pairs.owners f o b, it.moves.pairs f o b, pair_on f o b, pair_off f o b);
        staging_pairs = λ b. omega (arith, was.pairs.staging_pairs b, it.moves.staging_pairs b, s_pair_on b, s_pair_off b);
      };
      counts = it.counts;
      due = record {
        unmaps = λ f o b. omega (arith, was.due.unmaps f o b, it.moves.maps f o b, map_off f o b);
        maps = λ f o. omega (arith, was.due.maps f o, it.moves.mapped f o, at_on f o, at_off f o);
        removals = λ f o b. omega (arith, was.due.removals f o b, it.moves.pairs f o b, pair_off f o b);
        additions = λ f o b. omega (arith, was.due.additions f o b, it.moves.pairs f o b, pair_on f o b);
        staging_removals = λ b. omega (arith, was.due.staging_removals b, it.moves.staging_pairs b, s_pair_off b);
        staging_additions = λ b. omega (arith, was.due.staging_additions b, it.moves.staging_pairs b, s_pair_on b);
        stagings = it.stagings;
        unstagings = λ b. omega (arith, was.due.unstagings b, it.moves.staged b, stage_off b);
      };
      blocks = it.blocks;
      offsets = record {
        unmaps = λ f o. omega (arith, was.offsets.unmaps f o, at_off f o, exchange_at f o);
        maps = λ f o. omega (arith, was.offsets.maps f o, at_on f o, exchange_at f o);
        removals = λ f o. omega (arith, was.offsets.removals f o, pair_at_off f o, exchange_at f o);
        additions = λ f o. omega (arith, was.offsets.additions f o, pair_at_on f o, exchange_at f o);
      };
      valid = it.valid;
      parted = it.parted;
    }

-- the work neither gives nor raises nor lowers
pub record IsStill (w : Work) : Type 0 where
  pub gives : (b : ℕ) → freed b w ≡ 0
  pub raises : (b : ℕ) → raised b w ≡ 0
  pub lowers : (b : ℕ) → lowered b w ≡ 0

count_same : (C C' : Committed) (P P' : List Debt) (b : ℕ) → C'.counted b ≡ C.counted b → C'.is_free b ≡ C.is_free b → total (freed b) P' ≡ total (freed b) P → count_of C' P' b ≡ count_of C P b
count_same C C' P P' b counted free same = rw (same, counted, free) refl

unstaged_zero : (t : Bool) → one_if t ≡ 0 → t ≡ false
unstaged_zero true h = absurd (omega (arith, h))
unstaged_zero false h = refl

-- a map, an unmap, a pair, a staging pair, a staging or an unstaging is done
pub plain_roll_keeps : {C C' : Committed} {P P' : List Debt} {M : FileMaps} {Q : ℕ → Bool} {i lane : ℕ} {w : Work} {new : List Work}
    → IsSettled C P M Q → Rolls P i lane w new P' → IsPlain w → IsStill w → RollsPlain C w C' new
    → All (λ d. IsWork d.work) P' → IsPartedByLane P' → IsSettled C' P' M Q
plain_roll_keeps {C} {C'} {P} {P'} {M} {Q} {i} {lane} {w} {new} was rolls plain still gives valid parted =
    let gone : (f : Work → ℕ) → total f P' + f w ≡ total f P = λ f. omega (arith, total-rolls f rolls, ap (sum_by f) gives.new_is) in
    let frees : (b : ℕ) → total (freed b) P' ≡ total (freed b) P = λ b. omega (arith, gone (freed b), still.gives b) in
    let raises : (b : ℕ) → total (raised b) P' ≡ total (raised b) P = λ b. omega (arith, gone (raised b), still.raises b) in
    let lowers : (b : ℕ) → total (lowered b) P' ≡ total (lowered b) P = λ b. omega (arith, gone (lowered b), still.lowers b) in
    let counted : (b : ℕ) → C'.counted b ≡ C.counted b = gives.counted in
    let free : (b : ℕ) → C'.is_free b ≡ C.is_free b = gives.free in
    roll_keeps was (record {
      rolls = rolls;
      counting = subst AreCounting (sym gives.new_is) tt;
      plain = plain;
      moves = gives.moves;
      counts = λ b is_data. omega (arith, was.counts b (is_data.0, omega (arith, is_data.1, gives.moves.groups)), count_same C C' P P' b (counted b) (free b) (frees b), raises b, lowers b);
      stagings = λ b more. counted b ∙ was.due.stagings b (omega (arith, more, gone (staging b)));
      blocks = record {
        counted_some = λ b. omega (arith, counted b, was.blocks.counted_some b);
        owned_data = λ b some. let old = was.blocks.owned_data b some in (old.0, omega (arith, old.1, gives.moves.groups));
        named_groups = λ b some. omega (arith, gives.moves.groups, was.blocks.named_groups b (omega (arith, some, gone (naming b))));
        counted_unstaged = λ b more.
            let before = was.blocks.counted_unstaged b (omega (arith, more, raises b, lowers b)) in
            let unstaged : one_if (C.is_staged b) ≡ 0 = rw (before.0) refl in
            let not_in : one_if (Q b) ≡ 0 = rw (before.1) refl in
            (unstaged_zero (C'.is_staged b) (omega (arith, unstaged, not_in, was.staging.staged b, was.due.unstagings b, gives.moves.staged b, work-le-total (staging b) rolls)), before.1);
        free_unnamed = λ b is. omega (arith, was.blocks.free_unnamed b (subst IsTrue (free b) is), gone (naming b));
        free_unshared = λ b is. counted b ∙ was.blocks.free_unshared b (subst IsTrue (free b) is);
        freed_unshared = λ b more. counted b ∙ was.blocks.freed_unshared b (omega (arith, more, frees b));
        freed_once = λ b. omega (arith, frees b, was.blocks.freed_once b);
        staged_once = λ b. omega (arith, was.blocks.staged_once b, gives.moves.staged b, gone (staging b));
        two_owners = λ b. omega (arith, raises b, was.blocks.two_owners b);
      };
      valid = valid;
      parted = parted;
    })
