-- The last of some items.
use Rattle.std.proofs.Common.{◌≡◌, ℕ, ◌+◌, Option, Some, None, List, [], ◌∷◌, ◌++◌, length, get_or, refl, sym, ap, ◌∙◌, arith}
use Rattle.std.specs.List.{last_or}

pub last_or-append : {A : Type 0} (o : Option A) (xs ys : List A) → last_or o (xs ++ ys) ≡ last_or (last_or o xs) ys
last_or-append o [] ys = refl
last_or-append o (x ∷ xs) ys = last_or-append (Some x) xs ys

pub last_or-nth : {A : Type 0} (o : Option A) (x : A) (xs : List A) (d : A) → last_or o (x ∷ xs) ≡ Some (get_or (x ∷ xs) (length xs) d)
last_or-nth o x [] d = refl
last_or-nth o x (y ∷ ys) d = last_or-nth (Some x) y ys d

pub none_last : {A : Type 0} (xs : List A) → last_or None xs ≡ None → xs ≡ []
none_last [] is = refl
none_last (x ∷ xs) is = let lie : Some (get_or (x ∷ xs) (length xs) x) ≡ None = sym (last_or-nth None x xs x) ∙ is in absurd cc

pub some_last : {A : Type 0} (xs : List A) (last d : A) → last_or None xs ≡ Some last → (n : ℕ) × (length xs ≡ n + 1) × (get_or xs n d ≡ last)
some_last [] last d is = absurd cc
some_last (x ∷ xs) last d is =
    let both : Some (get_or (x ∷ xs) (length xs) d) ≡ Some last = sym (last_or-nth None x xs d) ∙ is in (length xs, omega arith, cc)

pub no_last : {A : Type 0} (o : Option A) (xs : List A) → length xs ≡ 0 → o ≡ last_or o xs
no_last o [] none = refl
no_last o (x ∷ xs) none = absurd (omega (arith, none))

pub last_is : {A : Type 0} (o : Option A) (xs : List A) (k : ℕ) (x : A) → length xs ≡ k + 1 → ((d : A) → x ≡ get_or xs k d) → Some x ≡ last_or o xs
last_is o [] k x long is = absurd (omega (arith, long))
last_is o (y ∷ ys) k x long is =
    let end : length ys ≡ k = omega (arith, long) in
    ap Some (is y) ∙ ap (λ (i : ℕ). Some (get_or (y ∷ ys) i y)) (sym end) ∙ sym (last_or-nth o y ys y)
