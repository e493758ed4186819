-- A pool whose used blocks are few has many free ones: each that isn't free is one of them.
use Rattle.std.proofs.Common.{◌≡◌, ◌⊎◌, ℕ, zero, suc, ◌+◌, ◌<◌, ◌≤◌, Bool, true, false, if◌then◌else◌, List, [], ◌∷◌, length, nat_lt, nat_eq, refl, inl, inr, ⊎_elim, arith}
use Rattle.std.proofs.lemmas.Bool.{cases_eq, cases_Bool, cases_lt}
use Rattle.std.proofs.lemmas.Bool.Decides.{nat_tests}
use Rattle.std.specs.List.{Contains}
use Rattle.xr_pool.specs.Overlay.{Blocks, free_below, is_free, pool_size}
use Rattle.xr_pool.specs.Room.{LeavesRoom}

in_cases : (x : ℕ) (xs : List ℕ) (y : ℕ) → Contains (x ∷ xs) y → (x ≡ y) ⊎ Contains xs y
in_cases x xs y (zero, within, is) = inl is
in_cases x xs y (suc k, within, is) = inr (k, omega (arith, within), is)

is_among : List ℕ → ℕ → Bool
is_among [] n = false
is_among (x ∷ xs) n = if nat_eq x n then true else is_among xs n

-- how many of the numbers below one are among some
among_below : List ℕ → ℕ → ℕ
among_below xs zero = 0
among_below xs (suc m) = (if is_among xs m then 1 else 0) + among_below xs m

none_among : (m : ℕ) → among_below [] m ≡ 0
unfolding among_below is_among
none_among zero = refl
none_among (suc m) = omega (arith, none_among m)

one_more : (x : ℕ) (xs : List ℕ) (m : ℕ) → among_below (x ∷ xs) m ≤ among_below xs m + (if nat_lt x m then 1 else 0)
unfolding among_below is_among
one_more x xs zero = omega arith
one_more x xs (suc m) = grind (arith, nat_tests, one_more x xs m, cases_eq x m, cases_lt x m, cases_Bool (is_among xs m))

few_among : (xs : List ℕ) (m : ℕ) → among_below xs m ≤ length xs
few_among [] m = omega (arith, none_among m)
few_among (x ∷ xs) m = grind (arith, nat_tests, one_more x xs m, few_among xs m, cases_lt x m)

held_among : (xs : List ℕ) (n : ℕ) → Contains xs n → is_among xs n ≡ true
unfolding is_among
held_among [] n found = absurd (omega (arith, found.1))
held_among (x ∷ xs) n found = ⊎_elim
    (λ (same : x ≡ n). grind (arith, nat_tests))
    (λ (rest : Contains xs n). let more = held_among xs n rest in grind (arith, nat_tests, cases_eq x n, more))
    (in_cases x xs n found)

module _ (b : Blocks) (used : List ℕ) where
  room_below : (m : ℕ) → ((n : ℕ) → 1 ≤ n → n < m → is_free b n ≡ false → Contains used n) → m ≤ free_below b m + among_below used m + 1
  unfolding free_below among_below
  room_below zero all = omega arith
  room_below (suc zero) all = omega arith
  room_below (suc (suc m)) all =
      let rest = room_below (suc m) (λ n from below. all n from (omega (arith, below))) in
      ⊎_elim
      (λ (free : is_free b (suc m) ≡ true). grind (arith, nat_tests, rest, free))
      (λ (taken : is_free b (suc m) ≡ false).
      let held = held_among used (suc m) (all (suc m) (omega arith) (omega arith) taken) in grind (arith, nat_tests, rest, held))
      (cases_Bool (is_free b (suc m)))

pub leaves_room : LeavesRoom
leaves_room b used all = omega (arith, room_below b used (pool_size b) all, few_among used (pool_size b))
