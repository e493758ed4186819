-- How often a number stands in a list, and what a list without doubles is.
use Rattle.std.proofs.Common.{◌≡◌, ◌≢◌, ℕ, zero, suc, ◌+◌, ◌<◌, ◌≤◌, ◌==◌, Bool, if◌then◌else◌, List, [], ◌∷◌, ◌++◌, length, get_or, refl, sym, ap, ◌∙◌, subst, arith, ⊎_elim}
use Rattle.std.proofs.lemmas.Bool.{cases_eq, eq-eqb, eqb-true, ne_eqb}
use Rattle.std.proofs.lemmas.Bool.Decides.{Decides-eqb}
use Rattle.std.proofs.lemmas.List.Kept.{AllPairs-cons}
use Rattle.std.proofs.lemmas.List.Folds.{Any-from_list_any}
use Rattle.std.proofs.lemmas.Map.Made.{IsDistinct-from_AllPairs}
use Rattle.std.proofs.lemmas.Map.Steps.{length-le_from_distinct_below}
use Rattle.std.specs.List.{All, AllPairs, Contains}
use Rattle.xr_block.specs.Times.{times}

pub times_same : (n : ℕ) (xs : List ℕ) → times n (n ∷ xs) ≡ 1 + times n xs
times_same n xs = ap (λ (test : Bool). (if test then 1 else 0) + times n xs) (eq-eqb n n refl)

pub times_other : (n m : ℕ) (xs : List ℕ) → (m ≡ n → ⊥) → times n (m ∷ xs) ≡ times n xs
times_other n m xs other = ap (λ (test : Bool). (if test then 1 else 0) + times n xs) (ne_eqb m n other) ∙ omega arith

pub times_more : (n m : ℕ) (xs : List ℕ) → times n xs ≤ times n (m ∷ xs)
times_more n m xs = omega arith

pub times-append : (n : ℕ) (xs ys : List ℕ) → times n (xs ++ ys) ≡ times n xs + times n ys
times-append n [] ys = omega arith
times-append n (x ∷ xs) ys = omega (arith, times-append n xs ys)

-- what stands there, and what stands nowhere
pub times_at : (xs : List ℕ) (k d : ℕ) → k < length xs → 1 ≤ times (get_or xs k d) xs
times_at [] k d within = absurd (omega (arith, within))
times_at (x ∷ xs) zero d within = omega (arith, times_same x xs)
times_at (x ∷ xs) (suc k) d within = omega (arith, times_at xs k d (omega (arith, within)), times_more (get_or xs k d) x xs)

pub place_among : (xs : List ℕ) (n d : ℕ) → 1 ≤ times n xs → (k : ℕ) × (k < length xs) × (get_or xs k d ≡ n)
place_among [] n d some = absurd (omega (arith, some))
place_among (x ∷ xs) n d some = ⊎_elim
    (λ (same : x ≡ n). (0, omega arith, same))
    (λ (other : x ≡ n → ⊥).
    let found = place_among xs n d (omega (arith, some, times_other n x xs other)) in (suc found.0, omega (arith, found.1), found.2))
    (cases_eq x n)

pub times_of : (xs : List ℕ) (n : ℕ) → Contains xs n → 1 ≤ times n xs
times_of xs n found = subst (λ (m : ℕ). 1 ≤ times m xs) found.2 (times_at xs found.0 n found.1)

pub found_in : (xs : List ℕ) (n : ℕ) → 1 ≤ times n xs → Contains xs n
found_in xs n some = place_among xs n n some

pub all_of : (P : ℕ → Type 0) (xs : List ℕ) → ((n : ℕ) → 1 ≤ times n xs → P n) → All P xs
all_of P xs each k d within = each (get_or xs k d) (times_at xs k d within)

pub each_of : (P : ℕ → Type 0) (xs : List ℕ) → All P xs → (n : ℕ) → 1 ≤ times n xs → P n
each_of P xs all n some = let found = place_among xs n 0 some in subst P found.2 (all found.0 0 found.1)

-- no number stands twice
pub distinct_of : (xs : List ℕ) → ((n : ℕ) → times n xs ≤ 1) → AllPairs (λ (m n : ℕ). m ≢ n) xs
distinct_of [] once = λ i j d before within. absurd (omega (arith, within))
distinct_of (x ∷ xs) once =
    AllPairs-cons (λ (m n : ℕ). m ≢ n) x xs
    (λ k d within same. absurd (let there = times_at xs k d within in
    let two : 1 ≤ times x xs = subst (λ (m : ℕ). 1 ≤ times m xs) (sym same) there in omega (arith, two, once x, times_same x xs)))
    (distinct_of xs (λ n. omega (arith, once n, times_more n x xs)))

pub once_of : (xs : List ℕ) → AllPairs (λ (m n : ℕ). m ≢ n) xs → (n : ℕ) → times n xs ≤ 1
once_of [] pairs n = omega arith
once_of (x ∷ xs) pairs n =
    let rest = once_of xs (λ i j d before within. pairs (suc i) (suc j) d (omega (arith, before)) (omega (arith, within))) n in
    ⊎_elim
    (λ (same : x ≡ n).
    ⊎_elim
    (λ (none : times n xs ≡ 0). omega (arith, none, subst (λ (m : ℕ). times m (x ∷ xs) ≡ 1 + times m xs) same (times_same x xs)))
    (λ (some : times n xs ≡ 0 → ⊥).
    let found = place_among xs n x (omega (arith, some)) in
    absurd (pairs 0 (suc found.0) x (omega arith) (omega (arith, found.1)) (same ∙ sym found.2)))
    (cases_eq (times n xs) 0))
    (λ (other : x ≡ n → ⊥). omega (arith, rest, times_other n x xs other))
    (cases_eq x n)

-- numbers without doubles that are all small are few
pub few_of : (xs : List ℕ) (top : ℕ) → AllPairs (λ (m n : ℕ). m ≢ n) xs → All (λ (n : ℕ). n < top) xs → length xs ≤ top
few_of xs top pairs small =
    length-le_from_distinct_below xs top (IsDistinct-from_AllPairs Decides-eqb xs pairs) (λ q any.
    let found = Any-from_list_any (λ (x : ℕ). q == x) xs any in
    let same : q ≡ found.1 = eqb-true q found.1 found.4 in
    omega (arith, same, found.3, small found.0 found.1 found.2))
