-- A chain after a roll of its first work, and the others.
use Rattle.std.proofs.Common.{◌≡◌, ℕ, ◌<◌, zero, suc, List, [], ◌∷◌, ◌++◌, length, get_or, cond, eqb, arith, refl, ap, ◌∙◌, map, ⊎_elim, append-nil}
use Rattle.std.specs.Prelude.{remove, ◌≢◌}
use Rattle.std.proofs.lemmas.Bool.{cases_eq, eq-eqb, ne_eqb}
use Rattle.xr_items.specs.declared.work.Work.{Work}
use Rattle.xr_balance.specs.Rolls.{Rolls, in_lane}
use Rattle.xr_balance.specs.Settled.{chain_of}
use Rattle.xr_balance.specs.Stagings.{BeginsChain}
use Rattle.xr_balance.specs.Works.{Debt}

pub chain-append : (P R : List Debt) (l : ℕ) → chain_of (P ++ R) l ≡ chain_of P l ++ chain_of R l
chain-append [] R l = refl
chain-append (d ∷ P) R l = ⊎_elim
    (λ e. rw (eq-eqb d.lane l e, chain-append P R l) refl)
    (λ ne. rw (ne_eqb d.lane l ne, chain-append P R l) refl)
    (cases_eq d.lane l)

pub chain-new : (lane : ℕ) (new : List Work) → chain_of (map (in_lane lane) new) lane ≡ map (in_lane lane) new
chain-new lane [] = refl
chain-new lane (w ∷ new) = rw (eq-eqb lane lane refl, chain-new lane new) refl

pub chain-new-other : (lane l : ℕ) (new : List Work) → lane ≢ l → chain_of (map (in_lane lane) new) l ≡ []
chain-new-other lane l [] ne = refl
chain-new-other lane l (w ∷ new) ne = rw (ne_eqb lane l ne, chain-new-other lane l new ne) refl

-- the lane's first work is the head of its chain
pub chain-first : (P : List Debt) (i lane : ℕ) (w : Work) → i < length P → ((d : Debt) → get_or P i d ≡ in_lane lane w)
    → ((k : ℕ) (d : Debt) → k < i → (get_or P k d).lane ≢ lane) → chain_of P lane ≡ in_lane lane w ∷ chain_of (remove P i) lane
chain-first [] i lane w inside is first = absurd (omega (arith, inside))
chain-first (d ∷ P) zero lane w inside is first =
    rw (is d, eq-eqb lane lane refl) refl
chain-first (d ∷ P) (suc i) lane w inside is first =
    rw (ne_eqb d.lane lane (first 0 d (omega arith))) (chain-first P i lane w (omega (arith, inside)) is (λ k e l. first (suc k) e (omega (arith, l))))

pub chain-other : (P : List Debt) (i lane l : ℕ) (w : Work) → i < length P → ((d : Debt) → get_or P i d ≡ in_lane lane w) → lane ≢ l
    → chain_of (remove P i) l ≡ chain_of P l
chain-other [] i lane l w inside is ne = absurd (omega (arith, inside))
chain-other (d ∷ P) zero lane l w inside is ne = rw (is d, ne_eqb lane l ne) refl
chain-other (d ∷ P) (suc i) lane l w inside is ne = ap (λ c. cond (eqb d.lane l) (d ∷ c) c) (chain-other P i lane l w (omega (arith, inside)) is ne)

-- the chain loses its first work and gets the new ones at its end
pub chain-rolls : {P P' : List Debt} {i lane : ℕ} {w : Work} {new : List Work} → Rolls P i lane w new P'
    → (rest : List Debt) × (chain_of P lane ≡ in_lane lane w ∷ rest) × (chain_of P' lane ≡ rest ++ map (in_lane lane) new)
chain-rolls {P} {P'} {i} {lane} {w} {new} rolls = (
  chain_of (remove P i) lane,
  chain-first P i lane w rolls.first.inside rolls.first.is_work rolls.first.none_before,
  ap (λ R. chain_of R lane) rolls.after ∙ chain-append (remove P i) (map (in_lane lane) new) lane ∙ ap (λ R. chain_of (remove P i) lane ++ R) (chain-new lane new),
)

pub chain-rolls-other : {P P' : List Debt} {i lane l : ℕ} {w : Work} {new : List Work} → Rolls P i lane w new P' → lane ≢ l → chain_of P' l ≡ chain_of P l
chain-rolls-other {P} {P'} {i} {lane} {l} {w} {new} rolls ne =
    ap (λ R. chain_of R l) rolls.after ∙ chain-append (remove P i) (map (in_lane lane) new) l
    ∙ rw (chain-new-other lane l new ne) (append-nil (chain_of (remove P i) l)) ∙ chain-other P i lane l w rolls.first.inside rolls.first.is_work ne

-- the chain that begins, and the others
pub chain-begun : {P P' : List Debt} {lane : ℕ} {new : List Work} → BeginsChain P lane new P' → chain_of P' lane ≡ map (in_lane lane) new
chain-begun {P} {P'} {lane} {new} begins =
    ap (λ R. chain_of R lane) begins.after ∙ chain-append P (map (in_lane lane) new) lane ∙ ap (λ c. c ++ chain_of (map (in_lane lane) new) lane) begins.idle ∙ chain-new lane new

pub chain-begun-other : {P P' : List Debt} {lane : ℕ} {new : List Work} (l : ℕ) → lane ≢ l → BeginsChain P lane new P' → chain_of P' l ≡ chain_of P l
chain-begun-other {P} {P'} {lane} {new} l ne begins =
    ap (λ R. chain_of R l) begins.after ∙ chain-append P (map (in_lane lane) new) l ∙ rw (chain-new-other lane l new ne) (append-nil (chain_of P l))
