-- What is in a list of those that pass a test, and pairs of a list that was mapped.
use Rattle.std.proofs.Common.{◌≡◌, zero, suc, ◌<◌, Bool, true, false, List, [], ◌∷◌, length, get_or, map, refl, sym, ap, subst, ◌∙◌, ⊎_elim, arith}
use Rattle.std.proofs.lemmas.Bool.{cases_Bool}
use Rattle.std.proofs.lemmas.List.{get_or-map, get_or_default, length-map}
use Rattle.std.proofs.lemmas.List.Elements.{All-contains, All-filter, Contains-append_right, filter_passes}
use Rattle.std.specs.List.{AllPairs, Contains, filter}

pub from_filter : {X : Type 0} (p : X → Bool) (xs : List X) (x : X) → Contains (filter p xs) x → Contains xs x × (p x ≡ true)
from_filter p xs x held = (
  All-contains (Contains xs) (filter p xs) x (All-filter p (Contains xs) xs (λ k d within. (k, within, get_or_default xs k _ d within))) held,
  All-contains (λ y. p y ≡ true) (filter p xs) x (filter_passes p xs) held,
)

pub in_filter : {X : Type 0} (p : X → Bool) (xs : List X) (x : X) → Contains xs x → p x ≡ true → Contains (filter p xs) x
in_filter p [] x held pass = absurd (omega (arith, held.1))
in_filter p (y ∷ ys) x (zero, within, is) pass = let first : p y ≡ true = ap p is ∙ pass in rw first (0, omega arith, is)
in_filter {X} p (y ∷ ys) x (suc k, within, is) pass =
    let rest = in_filter p ys x (k, omega (arith, within), is) pass in
    ⊎_elim
    (λ (here : p y ≡ true). rw here (Contains-append_right (y ∷ []) (filter p ys) x rest))
    (λ (out : p y ≡ false). rw out rest)
    (cases_Bool (p y))

pub pairs_of_map : {X Y : Type 0} (R : Y → Y → Type 0) (f : X → Y) (xs : List X) (none : X) → AllPairs (λ x y. R (f x) (f y)) xs → AllPairs R (map f xs)
pairs_of_map R f xs none all i j d before within =
    let late : j < length xs = omega (arith, within, length-map xs f) in
    let early : i < length xs = omega (arith, before, late) in
    subst (λ y. R y (get_or (map f xs) j d)) (sym (get_or-map f xs i none d early))
    (subst (λ y. R (f (get_or xs i none)) y) (sym (get_or-map f xs j none d late)) (all i j none before late))

pub all_pass : {X : Type 0} (p : X → Bool) (xs : List X) → ((x : X) → Contains xs x → p x ≡ true) → filter p xs ≡ xs
all_pass p [] each = refl
all_pass {X} p (x ∷ xs) each =
    let first : p x ≡ true = each x (0, omega arith, refl) in
    rw first (ap (λ (ys : List X). x ∷ ys) (all_pass p xs (λ y held. each y (Contains-append_right (x ∷ []) xs y held))))
