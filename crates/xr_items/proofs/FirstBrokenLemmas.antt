-- The first of a list of tests that fails.
use Rattle.std.proofs.Common.{◌≡◌, inl, inr, ℕ, zero, suc, ◌<◌, Bool, true, false, List, [], ◌∷◌, length, get_or, IsTrue, refl, arith}
use Rattle.xr_items.specs.Taking.{AllKept, IsFirstBroken}

pub all_kept : (rows : List (ℕ × Bool)) → ((k : ℕ) (d : ℕ × Bool) → k < length rows → (get_or rows k d).1 ≡ true) → AllKept rows
all_kept [] each = tt
all_kept (row ∷ rows) each = (each 0 (0, false) (omega arith), all_kept rows (λ k d below. each (suc k) d (omega arith)))

pub first_broken_at : (rows : List (ℕ × Bool)) (i : ℕ) (d : ℕ × Bool) → ((k : ℕ) (e : ℕ × Bool) → k < i → (get_or rows k e).1 ≡ true) → i < length rows
    → (IsTrue (get_or rows i d).1 → ⊥) → IsFirstBroken rows (get_or rows i d).0
first_broken_at [] i d kept within not = absurd (omega arith)
first_broken_at (row ∷ rows) zero d kept within not = inl (refl, not)
first_broken_at (row ∷ rows) (suc i) d kept within not =
    inr (kept 0 (0, false) (omega arith), first_broken_at rows i d (λ k e below. kept (suc k) e (omega arith)) (omega arith) not)
