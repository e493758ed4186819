-- That a table with fewer works than there are slots has one left.
use Rattle.std.proofs.Common.{◌≡◌, ◌≢◌, ℕ, zero, suc, ◌+◌, ◌<◌, ◌≤◌, ◌==◌, ◌||◌, Bool, true, false, List, [], ◌∷◌, ◌++◌, length, take, set, get_or, refl, sym, ap, subst, ◌∙◌, arith, inl, inr, eq-eqb}
use Rattle.std.specs.List.{All, AllPairs, list_any}
use Rattle.std.specs.Prelude.{if◌then◌else◌}
use Rattle.std.proofs.lemmas.Bool.{eqb-false, eqb-true, false≢true}
use Rattle.std.proofs.lemmas.Bool.Decides.{eqb_tells}
use Rattle.std.proofs.lemmas.List.{append_assoc, length-map, map-append}
use Rattle.std.proofs.lemmas.List.Quantifiers.{all_pairs_push}
use Rattle.xr_items.specs.declared.work.Work.{Work}
use Rattle.xr_log.specs.declared.held.Slotted.{Slotted}
use Rattle.xr_log.specs.PlacedWorks.{entries_of}
use Rattle.xr_log.specs.Slots.{AreApartSlots, slots_in}

abbrev pub is_in : ℕ → List ℕ → Bool
is_in k xs = list_any (λ (x : ℕ). x == k) xs

abbrev kept : Bool → ℕ → List ℕ → List ℕ → List ℕ
kept b x xs rest = if b then xs else (x ∷ rest)

-- without the first that is x
abbrev dropped : ℕ → List ℕ → List ℕ
dropped x [] = []
dropped x (y ∷ ys) = kept (y == x) y ys (dropped x ys)

longer : (b : Bool) (y : ℕ) (ys rest : List ℕ) (in_rest : Bool) → (b || in_rest) ≡ true → (in_rest ≡ true → length ys ≡ suc (length rest)) → suc (length ys) ≡ suc (length (kept b y ys rest))
longer true y ys rest in_rest e long = refl
longer false y ys rest in_rest e long = ap suc (long e)

one_longer : (x : ℕ) (xs : List ℕ) → is_in x xs ≡ true → length xs ≡ suc (length (dropped x xs))
one_longer x [] e = absurd (false≢true e)
one_longer x (y ∷ ys) e = longer (y == x) y ys (dropped x ys) (is_in x ys) e (one_longer x ys)

still_in : (b : Bool) (k y : ℕ) (ys rest : List ℕ) → (b ≡ true → (y == k) ≡ false) → ((y == k) || is_in k ys) ≡ true → (is_in k ys ≡ true → is_in k rest ≡ true) → is_in k (kept b y ys rest) ≡ true
still_in true k y ys rest other e on = (let f = ap (λ (c : Bool). c || is_in k ys) (other refl) in sym f ∙ e)
still_in false k y ys rest other e on = by_first (y == k) e where
  by_first : (c : Bool) → (c || is_in k ys) ≡ true → (c || is_in k rest) ≡ true
  by_first true e = refl
  by_first false e = on e

differs : (k x y : ℕ) → k ≢ x → (y == x) ≡ true → (y == k) ≡ false
differs k x y ne e = elim (eqb_tells y k) [
  | inl (same, is) ↦ absurd (elim (eqb_tells y x) [ inl (s, at) ↦ ne (sym is ∙ at) | inr (s, at) ↦ false≢true (sym s ∙ e) ])
  | inr (other, is) ↦ other
]

others_stay : (k x : ℕ) (xs : List ℕ) → k ≢ x → is_in k xs ≡ true → is_in k (dropped x xs) ≡ true
others_stay k x [] ne e = e
others_stay k x (y ∷ ys) ne e = still_in (y == x) k y ys (dropped x ys) (differs k x y ne) e (others_stay k x ys ne)

-- a list that has all numbers below n has no fewer of them
pub pigeonhole : (n : ℕ) (xs : List ℕ) → ((k : ℕ) → k < n → is_in k xs ≡ true) → n ≤ length xs
pigeonhole zero xs all = omega arith
pigeonhole (suc n) xs all =
    let long = one_longer n xs (all n (omega arith)) in
    let rest = pigeonhole n (dropped n xs) (λ k below. others_stay k n xs (λ same. omega (arith, same, below)) (all k (omega (arith, below)))) in
    omega (arith, long, rest)

later_differ : (x : ℕ) (xs : List ℕ) (k : ℕ) → All (λ (y : ℕ). x ≢ y) xs → is_in k xs ≡ true → x ≢ k
later_differ x [] k apart there = absurd (false≢true there)
later_differ x (y ∷ ys) k apart there = by_test (y == k) refl there (later_differ x ys k (λ i d within. apart (suc i) d (omega (arith, within)))) where
  by_test : (b : Bool) → (y == k) ≡ b → (b || is_in k ys) ≡ true → (is_in k ys ≡ true → x ≢ k) → x ≢ k
  by_test true e held rest = λ same. apart 0 y (omega arith) (same ∙ sym (eqb-true y k e))
  by_test false e held rest = rest held

-- a list that has all of some that differ has no fewer
pub has_no_fewer : (some xs : List ℕ) → AllPairs (λ (one two : ℕ). one ≢ two) some → ((k : ℕ) → is_in k some ≡ true → is_in k xs ≡ true) → length some ≤ length xs
has_no_fewer [] xs differ all = omega arith
has_no_fewer (x ∷ some) xs differ all =
    let long = one_longer x xs (all x (ap (λ (b : Bool). b || is_in x some) (eq-eqb x x refl))) in
    let rest = has_no_fewer some (dropped x xs) (λ i j d before within. differ (suc i) (suc j) d (omega (arith, before)) (omega (arith, within)))
    (λ k there. others_stay k x xs (λ same. apart_from k there same) (all k (ap (λ (b : Bool). (x == k) || b) there ∙ or_true (x == k)))) in
    omega (arith, long, rest)
  where
    or_true : (b : Bool) → (b || true) ≡ true
    or_true true = refl
    or_true false = refl

    apart_from : (k : ℕ) → is_in k some ≡ true → k ≢ x
    apart_from k there same = later_differ x some k (λ i d within. differ 0 (suc i) d (omega arith) (omega (arith, within))) there (sym same)

pub taken_in : (k : ℕ) (table : List Slotted) → list_any (λ (s : Slotted). s.slot == k) table ≡ is_in k (slots_in table)
taken_in k [] = refl
taken_in k (s ∷ table) = ap (λ (b : Bool). (s.slot == k) || b) (taken_in k table)

pub slot_is_left : (table : List Slotted) → length table < 128 → ((k : ℕ) → k < 128 → list_any (λ (s : Slotted). s.slot == k) table ≡ true) → ⊥
slot_is_left table few all =
    let most = pigeonhole 128 (slots_in table) (λ k below. sym (taken_in k table) ∙ all k below) in
    let same = length-map table (λ (s : Slotted). s.slot) in
    absurd (omega (arith, few, most, same))

-- New works, one after another

entries_one_more : (next : ℕ) (slots : List ℕ) (works : List Work) (i s : ℕ) (d : Work) → i < length slots → i < length works
    → entries_of next (take (suc i) (set slots i s)) (take (suc i) works) ≡ entries_of next (take i slots) (take i works) ++ record { id = next + i; slot = s; work = get_or works i d } ∷ []
entries_one_more next [] works i s d a b = absurd (omega (arith, a))
entries_one_more next (x ∷ slots) [] i s d a b = absurd (omega (arith, b))
entries_one_more next (x ∷ slots) (w ∷ works) zero s d a b =
    let e : next ≡ next + zero = omega arith in ap (λ (n : ℕ). (let t : Slotted = record { id = n; slot = s; work = w } in t) ∷ []) e
entries_one_more next (x ∷ slots) (w ∷ works) (suc i) s d a b =
    let e : suc next + i ≡ next + suc i = omega arith in
    ap (λ (ts : List Slotted). record { id = next; slot = x; work = w } ∷ ts)
    (entries_one_more (suc next) slots works i s d (omega (arith, a)) (omega (arith, b))
    ∙ ap (λ (n : ℕ). entries_of (suc next) (take i slots) (take i works) ++ (let t : Slotted = record { id = n; slot = s; work = get_or works i d } in t) ∷ []) e)

pub entries_go_on : (before old new : List Slotted) (next : ℕ) (slots : List ℕ) (works : List Work) (i s : ℕ) (d : Work) → i < length slots → i < length works
    → old ≡ before ++ entries_of next (take i slots) (take i works) → new ≡ old ++ record { id = next + i; slot = s; work = get_or works i d } ∷ []
    → new ≡ before ++ entries_of next (take (i + 1) (set slots i s)) (take (i + 1) works)
entries_go_on before old new next slots works i s d a b so now =
    let e : suc i ≡ i + 1 = omega arith in
    let one : List Slotted = record { id = next + i; slot = s; work = get_or works i d } ∷ [] in
    now ∙ ap (λ (ts : List Slotted). ts ++ one) so ∙ append_assoc before (entries_of next (take i slots) (take i works)) one
    ∙ ap (λ (ts : List Slotted). before ++ ts) (sym (entries_one_more next slots works i s d a b))
    ∙ ap (λ (n : ℕ). before ++ entries_of next (take n (set slots i s)) (take n works)) e

false_parts : (b c : Bool) → (b || c) ≡ false → (b ≡ false) × (c ≡ false)
false_parts true c e = absurd (false≢true (sym e))
false_parts false c e = (refl, e)

not_any : (r : ℕ) (xs : List ℕ) → is_in r xs ≡ false → (k d : ℕ) → k < length xs → get_or xs k d ≢ r
not_any r [] e k d below = absurd (omega (arith, below))
not_any r (x ∷ xs) e zero d below = eqb-false x r (false_parts (x == r) (is_in r xs) e).0
not_any r (x ∷ xs) e (suc k) d below = not_any r xs (false_parts (x == r) (is_in r xs) e).1 k d (omega (arith, below))

pub apart_more : (old new : List Slotted) (id slot : ℕ) (work : Work) → list_any (λ (s : Slotted). s.slot == slot) old ≡ false
    → new ≡ old ++ record { id = id; slot = slot; work = work } ∷ [] → AreApartSlots (slots_in old) → AreApartSlots (slots_in new)
apart_more old new id slot work free is apart =
    subst AreApartSlots (sym (ap slots_in is ∙ map-append (λ (s : Slotted). s.slot) old (record { id = id; slot = slot; work = work } ∷ [])))
    (all_pairs_push (λ (one two : ℕ). one ≢ two) (slots_in old) slot apart (not_any slot (slots_in old) (sym (taken_in slot old) ∙ free)))
