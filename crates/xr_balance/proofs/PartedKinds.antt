-- The parting into chains after a roll of each kind that no exchange is.
use Rattle.std.proofs.Common.{◌≡◌, ℕ, ◌+◌, ◌<◌, ◌≤◌, zero, suc, List, [], ◌∷◌, ◌++◌, length, get_or, cond, arith, refl, ap, sym, ◌∙◌, map, Bool, ⊎_elim, subst, append-nil}
use Rattle.std.specs.Prelude.{sum_by, remove, AllPairs, ◌≢◌}
use Rattle.std.proofs.lemmas.Bool.{cases_eq, eq-eqb, ne_eqb}
use Rattle.std.proofs.lemmas.List.Sums.{sum_by-cons, sum_by-append, get_or-le-sum_by, sum_by-remove}
use Rattle.xr_base.specs.declared.address.Run.{Run}
use Rattle.xr_maps.specs.FileMaps.{FileMaps}
use Rattle.xr_maps.specs.Steps.{is_within}
use Rattle.xr_items.specs.declared.work.Work.{Work}
use Rattle.xr_items.specs.declared.work.Work.TheVariants.{Free, Count}
use Rattle.xr_items.specs.declared.work.CountKind.{CountKind}
use Rattle.xr_items.specs.declared.work.CountKind.TheVariants.{Increase, Decrease}
use Rattle.xr_maps.specs.Holdings.{in_run, one_if}
use Rattle.xr_balance.specs.Chains.{AreInOrder, GoesBefore, IsChain, recounting, exchanging, giving, lowering, other_than_giving, raising}
use Rattle.xr_balance.specs.RollGives.{works_of_rest}
use Rattle.xr_balance.specs.Rolls.{Rolls, run_back, run_front, in_lane}
use Rattle.xr_balance.specs.Settled.{Agree, Committed, IsDataOf, IsPartedByLane, IsSettled}
use Rattle.xr_balance.specs.Works.{Debt, freed, lowered, naming_file, raised, unmapping_at}
use Rattle.xr_balance.proofs.TotalLemmas.{work-le-total}
use Rattle.xr_balance.proofs.LastLowering.{rest_of_run}
use Rattle.xr_balance.proofs.PartedLemmas.{NewAgree}
use Rattle.xr_balance.proofs.PartedRolls.{parted_counting}
use Rattle.xr_balance.proofs.OrderLemmas.{order-append, order-tail, order-head, order-none, order-cons, chain-tail}
use Rattle.xr_balance.proofs.CountRolls.{zero_or_one, front_in_run, counted_there}
use Rattle.xr_balance.proofs.LastRolls.{LowersLast, last_at}
use Rattle.xr_balance.proofs.AloneKinds.{alone}

none_new : (rest : List Debt) (lane : ℕ) → NewAgree rest lane []
none_new rest lane = record { old = λ k d j w kl jl. absurd (omega (arith, jl)); among = λ i j d less jl. absurd (omega (arith, jl)) }

pub parted_plain : {P P' : List Debt} {i lane : ℕ} {w : Work} → IsPartedByLane P → Rolls P i lane w [] P' → IsPartedByLane P'
parted_plain {P} {P'} {i} {lane} {w} was rolls = parted_counting was rolls (record {
  agree = none_new (remove P i) lane;
  chain = λ works chain. subst IsChain (sym (append-nil works)) (chain-tail w works chain);
})

one_new : (rest : List Debt) (lane : ℕ) (v : Work) → ((k : ℕ) (d : Debt) → k < length rest → Agree (get_or rest k d) (in_lane lane v)) → NewAgree rest lane (v ∷ [])
one_new rest lane v agree = record { old = old_of; among = λ i j d less jl. absurd (omega (arith, less, jl)) }
  where
    old_of : (k : ℕ) (d : Debt) (j : ℕ) (w : Work) → k < length rest → j < length (v ∷ []) → Agree (get_or rest k d) (in_lane lane (get_or (v ∷ []) j w))
    old_of k d zero w kl jl = agree k d kl
    old_of k d (suc j) w kl jl = absurd (omega (arith, jl))

two_new : (rest : List Debt) (lane : ℕ) (u v : Work) → ((k : ℕ) (d : Debt) → k < length rest → Agree (get_or rest k d) (in_lane lane u))
    → ((k : ℕ) (d : Debt) → k < length rest → Agree (get_or rest k d) (in_lane lane v)) → Agree (in_lane lane u) (in_lane lane v) → NewAgree rest lane (u ∷ v ∷ [])
two_new rest lane u v one two both = record { old = old_of; among = among_of }
  where
    old_of : (k : ℕ) (d : Debt) (j : ℕ) (w : Work) → k < length rest → j < length (u ∷ v ∷ []) → Agree (get_or rest k d) (in_lane lane (get_or (u ∷ v ∷ []) j w))
    old_of k d zero w kl jl = one k d kl
    old_of k d (suc zero) w kl jl = two k d kl
    old_of k d (suc (suc j)) w kl jl = absurd (omega (arith, jl))

    among_of : AllPairs Agree (map (in_lane lane) (u ∷ v ∷ []))
    among_of zero zero d less jl = absurd (omega (arith, less))
    among_of zero (suc zero) d less jl = both
    among_of zero (suc (suc j)) d less jl = absurd (omega (arith, jl))
    among_of (suc i) zero d less jl = absurd (omega (arith, less))
    among_of (suc i) (suc zero) d less jl = absurd (omega (arith, less))
    among_of (suc i) (suc (suc j)) d less jl = absurd (omega (arith, jl))

-- what is left of a raise or a lowering goes with all that stays: no block of it is to be given
count_agrees : {C : Committed} {P P' : List Debt} {M : FileMaps} {Q : ℕ → Bool} {i lane : ℕ} {w : Work} {new : List Work} (kind : CountKind) (part : Run)
    → IsSettled C P M Q → Rolls P i lane w new P' → ((b : ℕ) → in_run b part ≡ 1 → (IsDataOf C b) × (0 < raised b w + lowered b w))
    → (k : ℕ) (d : Debt) → k < length (remove P i) → Agree (get_or (remove P i) k d) (in_lane lane (Count kind part))
count_agrees {C} {P} {P'} {M} {Q} {i} {lane} {w} {new} kind part was rolls within k d inside = record {
  file = λ f x y. absurd (omega (arith, y));
  before = λ b x y. absurd (omega (arith, y));
  after = λ b given. ⊎_elim
      (λ z. z)
      (λ it. let e : Debt = in_lane lane w in
      let named = within b it in
      let there = counted_there b was named.0 (omega (arith, named.1, work-le-total (raised b) rolls, work-le-total (lowered b) rolls)) in
      absurd (omega (arith, given, there.1, get_or-le-sum_by (λ (x : Debt). freed b x.work) (remove P i) k d inside, sum_by-remove (λ (x : Debt). freed b x.work) P i e rolls.first.inside)))
      (zero_or_one (is_within part.start.0 part.len b));
}

count_head : (kind : CountKind) (run : Run) → GoesBefore (Count kind run) []
count_head kind run = record {
  unmapped = λ f o it. absurd (omega (arith, it));
  answered = λ b it. absurd (omega (arith, it));
  unstaged = λ b it. absurd (omega (arith, it));
  lowered_last = λ _. refl;
  exchanged_last = λ it. absurd (omega (arith, it));
}

back_in : (b : ℕ) (run : Run) (n : ℕ) → n ≤ run.len → n ≢ run.len → in_run b (run_back run n) ≡ 1 → in_run b run ≡ 1
back_in b run n fits ne it = ⊎_elim
    (λ none. absurd (omega (arith, none, it, rest_of_run b run n fits, ap (λ t. cond t 0 (in_run b (run_back run n))) (ne_eqb n run.len ne))))
    (λ one. one)
    (zero_or_one (is_within run.start.0 run.len b))

-- a raise leaves a raise of the rest
raise_chain : (run part : Run) (works : List Work) → IsChain (Count Increase run ∷ works) → IsChain (works ++ Count Increase part ∷ [])
raise_chain run part works chain =
    let w : Work = Count Increase run in
    let v : Work = Count Increase part in
    let first : (f : Work → ℕ) → sum_by f (w ∷ works) ≡ f w + sum_by f works = λ f. sum_by-cons f w works in
    let more : (f : Work → ℕ) → sum_by f (works ++ v ∷ []) ≡ sum_by f works + sum_by f (v ∷ []) = λ f. sum_by-append f works (v ∷ []) in
    record {
      order = order-append works (v ∷ []) (order-tail w works chain.order) (order-cons v [] (count_head Increase part) order-none) (record {
        unmapped = λ f o it. refl;
        lowered_last = λ it. refl;
        exchanged_last = λ it. absurd (omega (arith, it, first exchanging, first recounting, chain.apart (omega (arith, it, first exchanging))));
      });
      short = omega (arith, chain.short, first other_than_giving, more other_than_giving);
      given_once = omega (arith, chain.given_once, first giving, more giving);
      raised_once = omega (arith, chain.raised_once, first raising, more raising);
      one = chain.one;
      two = chain.two;
      files = λ f it. chain.files f (omega (arith, it, more (naming_file f), first (naming_file f)));
      apart = λ it. absurd (omega (arith, it, more exchanging, first exchanging, first recounting, chain.apart (omega (arith, it, more exchanging, first exchanging))));
    }

pub parted_raise : {C : Committed} {P P' : List Debt} {M : FileMaps} {Q : ℕ → Bool} {i lane n : ℕ} {run : Run}
    → IsSettled C P M Q → Rolls P i lane (Count Increase run) (works_of_rest Increase run n) P' → n ≤ run.len → ((b : ℕ) → in_run b run ≡ 1 → IsDataOf C b) → IsPartedByLane P'
parted_raise {C} {P} {P'} {M} {Q} {i} {lane} {n} {run} was rolls fits blocks = parted_counting was.parted rolls (record {
  agree = ⊎_elim
      (λ e. rw (eq-eqb n run.len e) (none_new (remove P i) lane))
      (λ ne. rw (ne_eqb n run.len ne) (one_new (remove P i) lane (Count Increase (run_back run n)) (count_agrees Increase (run_back run n) was rolls (λ b it.
      (blocks b (back_in b run n fits ne it), omega (arith, back_in b run n fits ne it))))))
      (cases_eq n run.len);
  chain = λ works chain. ⊎_elim
      (λ e. rw (eq-eqb n run.len e) (subst IsChain (sym (append-nil works)) (chain-tail (Count Increase run) works chain)))
      (λ ne. rw (ne_eqb n run.len ne) (raise_chain run (run_back run n) works chain))
      (cases_eq n run.len);
})

-- a lowering leaves one of the rest, after a gift or alone; no other lowering and no gift stands behind it
lower_chain : (run part : Run) (works : List Work) → IsChain (Count Decrease run ∷ works) → IsChain (works ++ Count Decrease part ∷ [])
lower_chain run part works chain =
    let w : Work = Count Decrease run in
    let v : Work = Count Decrease part in
    let goes = order-head w works chain.order in
    let last : sum_by giving works + sum_by lowering works ≡ 0 = goes.lowered_last (omega arith) in
    let first : (f : Work → ℕ) → sum_by f (w ∷ works) ≡ f w + sum_by f works = λ f. sum_by-cons f w works in
    let more : (f : Work → ℕ) → sum_by f (works ++ v ∷ []) ≡ sum_by f works + sum_by f (v ∷ []) = λ f. sum_by-append f works (v ∷ []) in
    record {
      order = order-append works (v ∷ []) (order-tail w works chain.order) (order-cons v [] (count_head Decrease part) order-none) (record {
        unmapped = λ f o it. refl;
        lowered_last = λ it. absurd (omega (arith, it, last));
        exchanged_last = λ it. absurd (omega (arith, it, first exchanging, first recounting, chain.apart (omega (arith, it, first exchanging))));
      });
      short = omega (arith, chain.short, first other_than_giving, more other_than_giving);
      given_once = omega (arith, last, more giving);
      raised_once = omega (arith, chain.raised_once, first raising, more raising);
      one = chain.one;
      two = chain.two;
      files = λ f it. chain.files f (omega (arith, it, more (naming_file f), first (naming_file f)));
      apart = λ it. absurd (omega (arith, it, more exchanging, first exchanging, first recounting, chain.apart (omega (arith, it, more exchanging, first exchanging))));
    }

gift_head : (run : Run) (after : List Work) → GoesBefore (Free run) after
gift_head run after = record {
  unmapped = λ f o it. absurd (omega (arith, it));
  answered = λ b it. absurd (omega (arith, it));
  unstaged = λ b it. absurd (omega (arith, it));
  lowered_last = λ it. absurd (omega (arith, it));
  exchanged_last = λ it. absurd (omega (arith, it));
}

give_chain : (run gift : Run) (works rest : List Work) → AreInOrder rest → sum_by other_than_giving rest ≤ 1 → sum_by giving rest ≡ 0 → sum_by exchanging rest ≡ 0
    → ((f o : ℕ) → sum_by (unmapping_at f o) rest ≡ 0) → sum_by raising rest ≡ 0 → ((f : ℕ) → sum_by (naming_file f) rest ≡ 0)
    → IsChain (Count Decrease run ∷ works) → IsChain (works ++ Free gift ∷ rest)
give_chain run gift works rest order few none plain unmaps raises names chain =
    let w : Work = Count Decrease run in
    let new : List Work = Free gift ∷ rest in
    let goes = order-head w works chain.order in
    let last : sum_by giving works + sum_by lowering works ≡ 0 = goes.lowered_last (omega arith) in
    let first : (f : Work → ℕ) → sum_by f (w ∷ works) ≡ f w + sum_by f works = λ f. sum_by-cons f w works in
    let more : (f : Work → ℕ) → sum_by f (works ++ new) ≡ sum_by f works + (f (Free gift) + sum_by f rest) = λ f. sum_by-append f works new ∙ ap (λ k. sum_by f works + k) (sum_by-cons f (Free gift) rest) in
    record {
      order = order-append works new (order-tail w works chain.order) (order-cons (Free gift) rest (gift_head gift rest) order) (record {
        unmapped = λ f o it. omega (arith, sum_by-cons (unmapping_at f o) (Free gift) rest, unmaps f o);
        lowered_last = λ it. absurd (omega (arith, it, last));
        exchanged_last = λ it. absurd (omega (arith, it, first exchanging, first recounting, chain.apart (omega (arith, it, first exchanging))));
      });
      short = omega (arith, chain.short, first other_than_giving, more other_than_giving, few);
      given_once = omega (arith, last, more giving, none);
      raised_once = omega (arith, chain.raised_once, first raising, more raising, raises);
      one = chain.one;
      two = chain.two;
      files = λ f it. chain.files f (omega (arith, it, more (naming_file f), first (naming_file f), names f));
      apart = λ it. absurd (omega (arith, it, more exchanging, first exchanging, first recounting, plain, chain.apart (omega (arith, it, more exchanging, first exchanging, plain))));
    }

pub parted_lower : {C : Committed} {P P' : List Debt} {M : FileMaps} {Q : ℕ → Bool} {i lane n : ℕ} {run : Run}
    → IsSettled C P M Q → Rolls P i lane (Count Decrease run) (works_of_rest Decrease run n) P' → n ≤ run.len → ((b : ℕ) → in_run b run ≡ 1 → IsDataOf C b) → IsPartedByLane P'
parted_lower {C} {P} {P'} {M} {Q} {i} {lane} {n} {run} was rolls fits blocks = parted_counting was.parted rolls (record {
  agree = ⊎_elim
      (λ e. rw (eq-eqb n run.len e) (none_new (remove P i) lane))
      (λ ne. rw (ne_eqb n run.len ne) (one_new (remove P i) lane (Count Decrease (run_back run n)) (count_agrees Decrease (run_back run n) was rolls (λ b it.
      (blocks b (back_in b run n fits ne it), omega (arith, back_in b run n fits ne it))))))
      (cases_eq n run.len);
  chain = λ works chain. ⊎_elim
      (λ e. rw (eq-eqb n run.len e) (subst IsChain (sym (append-nil works)) (chain-tail (Count Decrease run) works chain)))
      (λ ne. rw (ne_eqb n run.len ne) (lower_chain run (run_back run n) works chain))
      (cases_eq n run.len);
})

gift_agrees : {C : Committed} {P P' : List Debt} {M : FileMaps} {Q : ℕ → Bool} {i lane n : ℕ} {run : Run}
    → IsSettled C P M Q → LowersLast C P i lane run n P'
    → (k : ℕ) (d : Debt) → k < length (remove P i) → Agree (get_or (remove P i) k d) (in_lane lane (Free (run_front run n)))
gift_agrees {C} {P} {P'} {M} {Q} {i} {lane} {n} {run} was lowers k d inside = record {
  file = λ f x y. absurd (omega (arith, y));
  before = λ b named given. ⊎_elim
      (λ z. absurd (omega (arith, z, given)))
      (λ it. alone b k d was lowers.rolls (front_in_run b run n lowers.fits it) (last_at b was lowers it) inside named)
      (zero_or_one (is_within run.start.0 n b));
  after = λ b given. ⊎_elim
      (λ z. z)
      (λ it. let e : Debt = in_lane lane (Count Decrease run) in
      absurd (omega (arith, given, (last_at b was lowers it).not_given, get_or-le-sum_by (λ (x : Debt). freed b x.work) (remove P i) k d inside, sum_by-remove (λ (x : Debt). freed b x.work) P i e lowers.rolls.first.inside)))
      (zero_or_one (is_within run.start.0 n b));
}

parts_apart : (b : ℕ) (run : Run) (n : ℕ) → n ≤ run.len → n ≢ run.len → 0 < in_run b (run_front run n) → in_run b (run_back run n) ≡ 0
parts_apart b run n fits ne some =
    let one : one_if (is_within run.start.0 run.len b) ≤ 1 = Rattle.xr_balance.proofs.SumLemmas.at_most_one _ in
    omega (arith, some, one, rest_of_run b run n fits, ap (λ t. cond t 0 (in_run b (run_back run n))) (ne_eqb n run.len ne))

pub parted_last : {C : Committed} {P P' : List Debt} {M : FileMaps} {Q : ℕ → Bool} {i lane n : ℕ} {run : Run}
    → IsSettled C P M Q → LowersLast C P i lane run n P' → IsPartedByLane P'
parted_last {C} {P} {P'} {M} {Q} {i} {lane} {n} {run} was lowers = parted_counting was.parted lowers.rolls (record {
  agree = ⊎_elim
      (λ e. rw (eq-eqb n run.len e) (one_new (remove P i) lane (Free (run_front run n)) (gift_agrees was lowers)))
      (λ ne. rw (ne_eqb n run.len ne) (two_new (remove P i) lane (Free (run_front run n)) (Count Decrease (run_back run n)) (gift_agrees was lowers)
      (count_agrees Decrease (run_back run n) was lowers.rolls (λ b it. (lowers.blocks b (back_in b run n lowers.fits ne it), omega (arith, back_in b run n lowers.fits ne it))))
      (record { file = λ f x y. absurd (omega (arith, y)); before = λ b x y. absurd (omega (arith, y)); after = λ b x. parts_apart b run n lowers.fits ne x })))
      (cases_eq n run.len);
  chain = λ works chain. ⊎_elim
      (λ e. rw (eq-eqb n run.len e) (give_chain run (run_front run n) works [] order-none (omega arith) refl refl (λ _ _. refl) refl (λ _. refl) chain))
      (λ ne. rw (ne_eqb n run.len ne) (give_chain run (run_front run n) works (Count Decrease (run_back run n) ∷ []) (order-cons _ [] (count_head Decrease (run_back run n)) order-none)
      (omega arith) refl refl (λ _ _. refl) refl (λ _. refl) chain))
      (cases_eq n run.len);
})
