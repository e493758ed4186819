-- The parting into chains after a roll.
use Rattle.std.proofs.Common.{◌≡◌, ℕ, ◌+◌, ◌-◌, ◌<◌, List, [], ◌∷◌, ◌++◌, length, get_or, arith, refl, ap, sym, ◌∙◌, map, ⊎_elim, subst, length-append}
use Rattle.std.specs.Prelude.{remove, All}
use Rattle.std.proofs.lemmas.Bool.{cases_eq, cases_lt}
use Rattle.std.proofs.lemmas.List.Edits.{get_or-remove_below, get_or-remove_above, length-remove}
use Rattle.std.proofs.lemmas.List.{get_or_append_left, length-map}
use Rattle.std.proofs.Math.Seq.{get_or-append_right}
use Rattle.xr_items.specs.declared.work.Work.{Work}
use Rattle.xr_balance.specs.Chains.{IsChain}
use Rattle.xr_balance.specs.Rolls.{Rolls, in_lane}
use Rattle.xr_balance.specs.Settled.{IsPartedByLane, chain_of}
use Rattle.xr_balance.specs.Works.{Debt, IsLane}
use Rattle.xr_balance.proofs.ChainLemmas.{chain-rolls, chain-rolls-other}
use Rattle.xr_balance.proofs.PartedLemmas.{NewAgree, roll_parted, get_or-new}

abbrev pub works_of : List Debt → List Work
works_of P = map (λ d. d.work) P

pub works-new : (lane : ℕ) (new : List Work) → works_of (map (in_lane lane) new) ≡ new
works-new lane [] = refl
works-new lane (w ∷ new) = ap (λ l. w ∷ l) (works-new lane new)

pub works-append : (P R : List Debt) → works_of (P ++ R) ≡ works_of P ++ works_of R
works-append [] R = refl
works-append (d ∷ P) R = ap (λ l. d.work ∷ l) (works-append P R)

-- a work that stays was there
pub stayed : (P : List Debt) (i k : ℕ) (d : Debt) → i < length P → k < length (remove P i) → (j : ℕ) × (j < length P) × (get_or (remove P i) k d ≡ get_or P j d)
stayed P i k d inside in_rest =
    let len = length-remove P i inside in
    ⊎_elim
    (λ below. (k, omega (arith, below, inside), get_or-remove_below P i d k below inside))
    (λ above. (k + 1, omega (arith, in_rest, len), get_or-remove_above P i d k above inside))
    (cases_lt k i)

all_remove : (T : Debt → Type 0) (P : List Debt) (i : ℕ) → i < length P → All T P → All T (remove P i)
all_remove T P i inside all k d in_rest =
    let at = stayed P i k d inside in_rest in
    subst T (sym at.2) (all at.0 d at.1)

-- all that stays, and all that is new
pub all_after : (T : Debt → Type 0) {P P' : List Debt} {i lane : ℕ} {w : Work} {new : List Work} → Rolls P i lane w new P' → All T P
    → ((k : ℕ) (d : Work) → k < length new → T (in_lane lane (get_or new k d))) → All T P'
all_after T {P} {P'} {i} {lane} {w} {new} rolls all fresh = subst (All T) (sym rolls.after) (λ k d inside.
    let old : All T (remove P i) = all_remove T P i rolls.first.inside all in
    let n : ℕ = length (remove P i) in
    let long : length (remove P i ++ map (in_lane lane) new) ≡ n + length (map (in_lane lane) new) = length-append (remove P i) (map (in_lane lane) new) in
    let count = length-map new (in_lane lane) in
    ⊎_elim
    (λ left. subst T (sym (get_or_append_left (remove P i) (map (in_lane lane) new) d k left)) (old k d left))
    (λ right. subst T (sym (get_or-append_right (remove P i) (map (in_lane lane) new) k d right ∙ get_or-new lane new (k - n) d (omega (arith, inside, long, count, right))))
    (fresh (k - n) d.work (omega (arith, inside, long, count, right))))
    (cases_lt k n))

-- each lane's chain after a roll: the others stay, and this one loses its first work and gets the new ones
pub chains_after : {P P' : List Debt} {i lane : ℕ} {w : Work} {new : List Work} → IsPartedByLane P → Rolls P i lane w new P'
    → ((works : List Work) → IsChain (w ∷ works) → IsChain (works ++ new)) → (l : ℕ) → IsChain (works_of (chain_of P' l))
chains_after {P} {P'} {i} {lane} {w} {new} parted rolls step l = ⊎_elim
    (λ e. let it = chain-rolls rolls in
    let was : IsChain (w ∷ works_of it.0) = subst (λ c. IsChain (works_of c)) it.1 (parted.chains lane) in
    let is : works_of (chain_of P' l) ≡ works_of it.0 ++ new =
    ap (λ m. works_of (chain_of P' m)) (sym e) ∙ ap works_of it.2 ∙ works-append it.0 (map (in_lane lane) new) ∙ ap (λ m. works_of it.0 ++ m) (works-new lane new) in
    subst IsChain (sym is) (step (works_of it.0) was))
    (λ ne. subst (λ c. IsChain (works_of c)) (sym (chain-rolls-other rolls ne)) (parted.chains l))
    (cases_eq lane l)

-- what a roll is given that keeps the parting
pub record StaysParted (P : List Debt) (i lane : ℕ) (w : Work) (new : List Work) : Type 0 where
  pub agree : NewAgree (remove P i) lane new
  pub chain : (works : List Work) → IsChain (w ∷ works) → IsChain (works ++ new)

pub parted_counting : {P P' : List Debt} {i lane : ℕ} {w : Work} {new : List Work} → IsPartedByLane P → Rolls P i lane w new P' → StaysParted P i lane w new → IsPartedByLane P'
parted_counting {P} {P'} {i} {lane} {w} {new} was rolls stays =
    let here : IsLane lane = subst (λ (d : Debt). IsLane d.lane) (rolls.first.is_work (in_lane lane w)) (was.lanes i (in_lane lane w) rolls.first.inside) in
    roll_parted was rolls stays.agree
    (all_after (λ d. IsLane d.lane) rolls was.lanes (λ k d inside. here))
    (chains_after was rolls stays.chain)
