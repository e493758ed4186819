-- Two cuts of one list: they are one, or one of them stands within the front of the other.
use Rattle.std.proofs.Common.{◌≡◌, List, [], ◌∷◌, ◌++◌, All, length, get_or, drop, refl, sym, ap, subst, arith}
use Rattle.std.proofs.Math.Seq.{get_or-append_seam}
use Rattle.std.proofs.lemmas.List.{length-append}

-- the front of one cut has what the other one is made at
pub record IsWithin {A : Type 0} (xs : List A) (x : A) (zs : List A) : Type 0 where
  pub rest : List A
  pub are : zs ≡ xs ++ x ∷ rest

pub data Cuts {A : Type 0} (xs : List A) (x : A) (zs : List A) (z : A) : Type 0 where
  Same : (front : xs ≡ zs) → (at : x ≡ z) → Cuts xs x zs z
  Before : IsWithin xs x zs → Cuts xs x zs z
  After : IsWithin zs z xs → Cuts xs x zs z

first_is : {A : Type 0} (x z : A) (xs zs : List A) → x ∷ xs ≡ z ∷ zs → x ≡ z
first_is x z xs zs e = ap (λ ys. get_or ys 0 x) e

rest_is : {A : Type 0} (x z : A) (xs zs : List A) → x ∷ xs ≡ z ∷ zs → xs ≡ zs
rest_is x z xs zs e = ap (λ ys. drop 1 ys) e

cut_on : {A : Type 0} (a : A) (xs zs : List A) (x z : A) → Cuts xs x zs z → Cuts (a ∷ xs) x (a ∷ zs) z
cut_on a xs zs x z (Same front at) = Same (ap (λ ys. a ∷ ys) front) at
cut_on a xs zs x z (Before w) = Before (record { rest = w.rest; are = ap (λ ys. a ∷ ys) w.are })
cut_on a xs zs x z (After w) = After (record { rest = w.rest; are = ap (λ ys. a ∷ ys) w.are })

pub cuts : {A : Type 0} (xs zs ys ws : List A) (x z : A) → xs ++ x ∷ ys ≡ zs ++ z ∷ ws → Cuts xs x zs z
cuts [] [] ys ws x z e = Same refl (first_is x z ys ws e)
cuts [] (c ∷ zs) ys ws x z e = Before (record { rest = zs; are = ap (λ a. a ∷ zs) (sym (first_is x c ys (zs ++ z ∷ ws) e)) })
cuts (a ∷ xs) [] ys ws x z e = After (record { rest = xs; are = ap (λ c. c ∷ xs) (first_is a z (xs ++ x ∷ ys) ws e) })
cuts (a ∷ xs) (c ∷ zs) ys ws x z e =
    let same : a ≡ c = first_is a c (xs ++ x ∷ ys) (zs ++ z ∷ ws) e in
    subst (λ d. Cuts (a ∷ xs) x (d ∷ zs) z) same (cut_on a xs zs x z (cuts xs zs ys ws x z (rest_is a c (xs ++ x ∷ ys) (zs ++ z ∷ ws) e)))

-- what all elements have, this one has
pub all_at : {A : Type 0} (P : A → Type 0) (xs ys : List A) (x : A) → All P (xs ++ x ∷ ys) → P x
all_at P xs ys x all =
    subst P (get_or-append_seam xs x ys x) (all (length xs) x (let e = length-append xs (x ∷ ys) in omega (arith, e)))
