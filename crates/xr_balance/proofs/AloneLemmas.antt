-- Where the last lowering of a block is done, what else takes the block from an owner stands in the same lane.
use Rattle.std.proofs.Common.{◌≡◌, ℕ, ◌+◌, ◌<◌, ◌≤◌, zero, suc, List, [], ◌∷◌, length, get_or, arith, refl, ap, sym, map, ⊎_elim}
use Rattle.std.specs.Prelude.{sum_by, remove}
use Rattle.std.proofs.lemmas.Bool.{cases_eq, eq-eqb, ne_eqb}
use Rattle.std.proofs.lemmas.List.Sums.{sum_by-cons}
use Rattle.xr_items.specs.declared.work.Work.{Work}
use Rattle.xr_balance.specs.Chains.{AreInOrder, answering, disowning, unstaging_pair}
use Rattle.xr_balance.specs.Rolls.{Rolls}
use Rattle.xr_balance.specs.Settled.{IsPartedByLane, chain_of}
use Rattle.xr_balance.specs.Works.{Debt, freed, lowered, total, unstaging}
use Rattle.xr_balance.proofs.ChainLemmas.{chain-other}
use Rattle.std.proofs.lemmas.List.Sums.{sum_by-remove}

abbrev pub works_of : List Debt → List Work
works_of P = map (λ d. d.work) P

pub total-works : (f : Work → ℕ) (P : List Debt) → sum_by f (works_of P) ≡ total f P
total-works f [] = refl
total-works f (d ∷ P) = omega (arith, sum_by-cons f d.work (works_of P), sum_by-cons (λ (e : Debt). f e.work) d P, total-works f P)

pub chain-le : (f : Work → ℕ) (P : List Debt) (l : ℕ) → total f (chain_of P l) ≤ total f P
chain-le f [] l = omega arith
chain-le f (d ∷ P) l =
    let g : Debt → ℕ = λ e. f e.work in
    ⊎_elim
    (λ e. rw (eq-eqb d.lane l e) (omega (arith, sum_by-cons g d (chain_of P l), sum_by-cons g d P, chain-le f P l)))
    (λ ne. rw (ne_eqb d.lane l ne) (omega (arith, sum_by-cons g d P, chain-le f P l)))
    (cases_eq d.lane l)

-- a pending work stands in its lane's chain
pub in_chain : (P : List Debt) (k : ℕ) (d : Debt) (l : ℕ) → k < length P → (get_or P k d).lane ≡ l
    → (j : ℕ) × (j < length (chain_of P l)) × (get_or (chain_of P l) j d ≡ get_or P k d)
in_chain [] k d l inside is = absurd (omega (arith, inside))
in_chain (e ∷ P) zero d l inside is = rw (eq-eqb e.lane l is) (0, omega arith, refl)
in_chain (e ∷ P) (suc k) d l inside is =
    let rest = in_chain P k d l (omega (arith, inside)) is in
    ⊎_elim
    (λ same. rw (eq-eqb e.lane l same) (suc rest.0, omega (arith, rest.1), rest.2))
    (λ ne. rw (ne_eqb e.lane l ne) rest)
    (cases_eq e.lane l)

-- in a chain, a block that loses an owner is answered
answered_in : (b : ℕ) (P : List Debt) (j : ℕ) (d : Debt) → AreInOrder (works_of P) → j < length P → 0 < disowning b (get_or P j d).work → 0 < total (answering b) P
unfolding AreInOrder
answered_in b [] j d order inside it = absurd (omega (arith, inside))
answered_in b (e ∷ P) zero d order inside it =
    let g : Debt → ℕ = λ e. answering b e.work in
    omega (arith, order.0.answered b it, total-works (answering b) P, sum_by-cons g e P)
answered_in b (e ∷ P) (suc j) d order inside it =
    let g : Debt → ℕ = λ e. answering b e.work in
    omega (arith, answered_in b P j d order.1 (omega (arith, inside)) it, sum_by-cons g e P)

-- `gaining` is what gives the block another owner's pair; where none is pending and the one lowering is this roll's, the work stands in this lane
pub disowned_alone : {P P' : List Debt} {i lane : ℕ} {w : Work} {new : List Work} (b : ℕ) (k : ℕ) (d : Debt)
    → IsPartedByLane P → Rolls P i lane w new P' → lowered b w ≡ 1 → total (lowered b) P ≡ 1 → total (answering b) P ≡ total (lowered b) P → answering b w ≡ 1
    → k < length P → 0 < disowning b (get_or P k d).work → (get_or P k d).lane ≡ lane
disowned_alone {P} {P'} {i} {lane} {w} b k d chains rolls low one answers mine inside it = ⊎_elim
    (λ e. e)
    (λ ne. let l : ℕ = (get_or P k d).lane in
    let at = in_chain P k d l inside refl in
    let answered : 0 < total (answering b) (chain_of P l) = answered_in b (chain_of P l) at.0 d (chains.chains l).order at.1 (rw (at.2) it) in
    let g : Debt → ℕ = λ e. answering b e.work in
    let less : total (answering b) (remove P i) + answering b (get_or P i d).work ≡ total (answering b) P = sum_by-remove g P i d rolls.first.inside in
    let is : answering b (get_or P i d).work ≡ answering b w = ap g (rolls.first.is_work d) in
    let other : chain_of (remove P i) l ≡ chain_of P l = chain-other P i lane l w rolls.first.inside rolls.first.is_work (λ e. ne (sym e)) in
    let bound = chain-le (answering b) (remove P i) l in
    absurd (omega (arith, answered, less, is, ap (total (answering b)) other, bound, one, answers, mine)))
    (cases_eq (get_or P k d).lane lane)

-- in a chain, a block that loses its staging pair is still to be unstaged or given
unstaged_in : (b : ℕ) (P : List Debt) (j : ℕ) (d : Debt) → AreInOrder (works_of P) → j < length P → 0 < unstaging_pair b (get_or P j d).work → 0 < total (unstaging b) P + total (freed b) P
unfolding AreInOrder
unstaged_in b [] j d order inside it = absurd (omega (arith, inside))
unstaged_in b (e ∷ P) zero d order inside it =
    let g : Debt → ℕ = λ e. unstaging b e.work in
    let h : Debt → ℕ = λ e. freed b e.work in
    omega (arith, order.0.unstaged b it, total-works (unstaging b) P, total-works (freed b) P, sum_by-cons g e P, sum_by-cons h e P)
unstaged_in b (e ∷ P) (suc j) d order inside it =
    let g : Debt → ℕ = λ e. unstaging b e.work in
    let h : Debt → ℕ = λ e. freed b e.work in
    omega (arith, unstaged_in b P j d order.1 (omega (arith, inside)) it, sum_by-cons g e P, sum_by-cons h e P)

pub still_unstaged : {P : List Debt} (b : ℕ) (k : ℕ) (d : Debt) → IsPartedByLane P → k < length P → 0 < unstaging_pair b (get_or P k d).work → 0 < total (unstaging b) P + total (freed b) P
still_unstaged {P} b k d parted inside it =
    let l : ℕ = (get_or P k d).lane in
    let at = in_chain P k d l inside refl in
    omega (arith, unstaged_in b (chain_of P l) at.0 d (parted.chains l).order at.1 (rw (at.2) it), chain-le (unstaging b) P l, chain-le (freed b) P l)
