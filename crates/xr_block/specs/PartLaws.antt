-- A list that is made of the parts of some items, in order, and is parted by a test: which items hold the place, and what is
-- found first or last.
use Rattle.std.proofs.Common.{◌≡◌, ℕ, zero, suc, ◌+◌, ◌<◌, ◌≤◌, Bool, true, false, Option, Some, None, List, [], ◌∷◌, ◌++◌, reverse, length, take, drop, get_or, refl, sym, ap, ◌∙◌, subst, arith}
use Rattle.std.proofs.lemmas.Bool.{false_from_ne_true}
use Rattle.std.proofs.lemmas.List.{append_assoc, get_or-append-add, get_or-drop, get_or-take, length-drop, length-take, get_or_append_left, length-append, reverse-append}
use Rattle.std.proofs.lemmas.List.Concat.{flat_map-append}
use Rattle.std.proofs.lemmas.List.Elements.{All-drop}
use Rattle.std.proofs.lemmas.List.Folds.{find-append}
use Rattle.std.proofs.lemmas.List.Kept.{AllPairs-cons}
use Rattle.std.proofs.lemmas.Option.{slice_get-get_or}
use Rattle.std.proofs.Math.Seq.{split_at}
use Rattle.std.specs.List.{All, AllPairs, find, flat_map, slice_get}
use Rattle.std.specs.Option.{is_some, option_or}
use Rattle.xr_block.specs.Bounds.{IsParted, IsPlaceOf}

pub some_element : {X : Type 0} (xs : List X) → 1 ≤ length xs → X
some_element [] some = absurd (omega arith)
some_element (x ∷ xs) some = x

pub pairs_left : {X : Type 0} (R : X → X → Type 0) (xs ys : List X) → AllPairs R (xs ++ ys) → AllPairs R xs
pairs_left R xs ys all i j d before within =
    let both = all i j d before (omega (arith, length-append xs ys)) in
    rw (get_or_append_left xs ys d i (omega arith), get_or_append_left xs ys d j within) at both

pub pairs_right : {X : Type 0} (R : X → X → Type 0) (xs ys : List X) → AllPairs R (xs ++ ys) → AllPairs R ys
pairs_right R xs ys all i j d before within =
    let both = all (length xs + i) (length xs + j) d (omega arith) (omega (arith, length-append xs ys)) in
    rw (get_or-append-add xs ys i d, get_or-append-add xs ys j d) at both

-- the first of a list stands in front of the others
pub pairs_first : {X : Type 0} (R : X → X → Type 0) (x : X) (xs : List X) → AllPairs R (x ∷ xs) → All (R x) xs
pairs_first R x xs all k d within = all 0 (suc k) d (omega arith) (omega arith)

-- all in front of an element
pub pairs_before : {X : Type 0} (R : X → X → Type 0) (xs : List X) (y : X) (ys : List X) → AllPairs R (xs ++ y ∷ ys) → All (λ (x : X). R x y) xs
pairs_before R xs y ys all k d within =
    let both = all k (length xs + 0) d (omega arith) (omega (arith, length-append xs (y ∷ ys))) in
    rw (get_or_append_left xs (y ∷ ys) d k within, get_or-append-add xs (y ∷ ys) 0 d) at both

pub all_left : {X : Type 0} (P : X → Type 0) (xs ys : List X) → All P (xs ++ ys) → All P xs
all_left P xs ys all k d within =
    let one = all k d (omega (arith, length-append xs ys)) in rw (get_or_append_left xs ys d k within) at one

pub all_right : {X : Type 0} (P : X → Type 0) (xs ys : List X) → All P (xs ++ ys) → All P ys
all_right P xs ys all k d within =
    let one = all (length xs + k) d (omega (arith, length-append xs ys)) in rw (get_or-append-add xs ys k d) at one

-- what holds of all parts holds of one
pub all_of_part : {E X : Type 0} (P : X → Type 0) (g : E → List X) (es : List E) (k : ℕ) (d : E) → All P (flat_map g es) → k < length es → All P (g (get_or es k d))
all_of_part P g [] k d all within = absurd (omega arith)
all_of_part P g (e ∷ es) zero d all within = all_left P (g e) (flat_map g es) all
all_of_part P g (e ∷ es) (suc k) d all within = all_of_part P g es k d (all_right P (g e) (flat_map g es) all) (omega arith)

pub pairs_of_part : {E X : Type 0} (R : X → X → Type 0) (g : E → List X) (es : List E) (k : ℕ) (d : E) → AllPairs R (flat_map g es) → k < length es
    → AllPairs R (g (get_or es k d))
pairs_of_part R g [] k d pairs within = absurd (omega arith)
pairs_of_part R g (e ∷ es) zero d pairs within = pairs_left R (g e) (flat_map g es) pairs
pairs_of_part R g (e ∷ es) (suc k) d pairs within = pairs_of_part R g es k d (pairs_right R (g e) (flat_map g es) pairs) (omega arith)

-- each element of a part stands in front of the first of the next part
pub pairs_next : {E X : Type 0} (R : X → X → Type 0) (g : E → List X) (es : List E) (k : ℕ) (d : E) (y : X) (ys : List X) → AllPairs R (flat_map g es)
    → suc k < length es → g (get_or es (suc k) d) ≡ y ∷ ys → All (λ (x : X). R x y) (g (get_or es k d))
pairs_next R g [] k d y ys pairs within is = absurd (omega arith)
pairs_next R g (e ∷ []) zero d y ys pairs within is = absurd (omega arith)
pairs_next {X = X} R g (e ∷ f ∷ es) zero d y ys pairs within is =
    pairs_before R (g e) y (ys ++ flat_map g es) (subst (λ (xs : List X). AllPairs R (g e ++ (xs ++ flat_map g es))) is pairs)
pairs_next R g (e ∷ es) (suc k) d y ys pairs within is = pairs_next R g es k d y ys (pairs_right R (g e) (flat_map g es) pairs) (omega arith) is

pub find_none : {X : Type 0} (test : X → Bool) (xs : List X) → All (λ (x : X). test x ≡ false) xs → find test xs ≡ None
find_none test [] all = refl
find_none test (x ∷ xs) all =
    let first : test x ≡ false = all 0 x (omega arith) in rw first (find_none test xs (λ k d within. all (suc k) d (omega arith)))

-- what was found first is the answer, or else what comes after
pub some_found : {X : Type 0} (o rest : Option X) → is_some o ≡ true → o ≡ option_or o rest
some_found None rest some = cc
some_found (Some x) rest some = refl

pub none_found : {X : Type 0} (o rest : Option X) → is_some o ≡ false → rest ≡ option_or o rest
none_found None rest none = refl
none_found (Some x) rest none = cc

-- nothing in front of a place passes
pub find_after : {X : Type 0} (test : X → Bool) (xs ys : List X) → All (λ (x : X). test x ≡ false) xs → find test ys ≡ find test (xs ++ ys)
find_after test xs ys fail = sym (find-append test xs ys ∙ rw (find_none test xs fail) refl)

pub present : {X : Type 0} (xs : List X) (k : ℕ) → k < length xs → slice_get xs k ≡ None → ⊥
present xs k within missing = let d = some_element xs (omega (arith, within)) in cc (slice_get-get_or xs k d within, missing)

-- the element at a place passes, or it doesn't
pub found_here : {X : Type 0} (test : X → Bool) (xs : List X) (k : ℕ) (x : X) → slice_get xs k ≡ Some x → test x ≡ true → Some x ≡ find test (drop k xs)
found_here test [] k x is passes = cc is
found_here test (y ∷ ys) zero x is passes = let same : y ≡ x = cc is in rw (same, passes) refl
found_here test (y ∷ ys) (suc k) x is passes = found_here test ys k x is passes

pub passed_here : {X : Type 0} (test : X → Bool) (xs : List X) (k : ℕ) (x : X) → slice_get xs k ≡ Some x → test x ≡ false
    → find test (drop (suc k) xs) ≡ find test (drop k xs)
passed_here test [] k x is fails = cc is
passed_here test (y ∷ ys) zero x is fails = let same : y ≡ x = cc is in rw (same, fails) refl
passed_here test (y ∷ ys) (suc k) x is fails = passed_here test ys k x is fails

pub last_append : {X : Type 0} (test : X → Bool) (xs ys : List X)
    → find test (reverse (xs ++ ys)) ≡ option_or (find test (reverse ys)) (find test (reverse xs))
last_append test xs ys = ap (find test) (reverse-append xs ys) ∙ find-append test (reverse ys) (reverse xs)

pub last_none : {X : Type 0} (test : X → Bool) (xs : List X) → All (λ (x : X). test x ≡ false) xs → find test (reverse xs) ≡ None
last_none test [] all = refl
last_none test (x ∷ xs) all =
    let first : test x ≡ false = all 0 x (omega arith) in
    last_append test (x ∷ []) xs ∙ rw (last_none test xs (λ k d within. all (suc k) d (omega arith)), first) refl

last_some : {X : Type 0} (test : X → Bool) (y : X) (ys : List X) (o : Option X) → find test (reverse ys) ≡ o → test y ≡ true
    → (z : X) × (find test (reverse (y ∷ ys)) ≡ Some z)
last_some test y ys None found passes = (y, last_append test (y ∷ []) ys ∙ rw (found, passes) refl)
last_some test y ys (Some z) found passes = (z, last_append test (y ∷ []) ys ∙ rw found refl)

-- the first of some elements passes, and nothing after them does
last_within : {X : Type 0} (test : X → Bool) (xs : List X) (y : X) (ys zs : List X) → test y ≡ true → All (λ (z : X). test z ≡ false) zs
    → find test (reverse (xs ++ (y ∷ ys) ++ zs)) ≡ find test (reverse (y ∷ ys))
last_within test xs y ys zs passes fail =
    let found = last_some test y ys (find test (reverse ys)) refl passes in
    last_append test (xs ++ (y ∷ ys)) zs ∙ rw (last_none test zs fail, last_append test xs (y ∷ ys), found.1) refl

-- the last that passes in a list that a place parts: the item in front of it
pub last_at : {X : Type 0} (test : X → Bool) (xs : List X) (k : ℕ) → IsPlaceOf test xs (suc k) → find test (reverse xs) ≡ slice_get xs k
last_at {X = X} test xs k place =
    let within : k < length xs = omega (arith, place.within) in
    let d = some_element xs (omega (arith, within)) in
    let x = get_or xs k d in
    let passes : test x ≡ true = place.below k d (omega arith) (omega arith) in
    let fail = last_none test (drop (suc k) xs)
    (λ m e inside. rw (get_or-drop (suc k) xs m e) (place.from (suc k + m) e (omega arith) (omega (arith, length-drop (suc k) xs)))) in
    let found : find test (reverse (x ∷ drop (suc k) xs)) ≡ Some x = last_append test (x ∷ []) (drop (suc k) xs) ∙ rw (fail, passes) refl in
    ap (λ (ys : List X). find test (reverse ys)) (split_at xs k d within)
    ∙ last_append test (take k xs) (x ∷ drop (suc k) xs) ∙ rw (found, slice_get-get_or xs k d within) refl

pub last_of_parted : {X : Type 0} (test : X → Bool) (xs : List X) → IsPlaceOf test xs 0 → find test (reverse xs) ≡ None
last_of_parted test xs place = last_none test xs (λ k d within. place.from k d (omega arith) within)

-- the elements in front of a place pass
pub front_of_place : {X : Type 0} (test : X → Bool) (xs : List X) (place : ℕ) → IsPlaceOf test xs place → All (λ (x : X). test x ≡ true) (take place xs)
front_of_place test xs place parts k d within =
    let few : k < place = omega (arith, length-take place xs) in
    rw (get_or-take place xs k d few) (parts.below k d (omega arith) few)

-- an item passes its test exactly where the first element of its part does
pub record Begins {E X : Type 0} (g : E → List X) (before : E → Bool) (test : X → Bool) (e : E) : Type 0 where
  pub first : X
  pub others : List X
  pub part : g e ≡ first ∷ others
  pub same : before e ≡ test first

module _ {E X : Type 0} (R : X → X → Type 0) (g : E → List X) (before : E → Bool) (test : X → Bool) (falls : (x y : X) → R x y → test y ≡ true → test x ≡ true) where
  pub parted : (es : List E) → All (Begins g before test) es → AllPairs R (flat_map g es) → IsParted before es
  parted [] begin pairs = λ i j d under within. absurd (omega arith)
  parted (e ∷ es) begin pairs =
      let own = begin 0 e (omega arith) in
      let after : All (R own.first) (own.others ++ flat_map g es) =
      pairs_first R own.first (own.others ++ flat_map g es) (subst (λ (xs : List X). AllPairs R (xs ++ flat_map g es)) own.part pairs) in
      AllPairs-cons (λ (a b : E). before b ≡ true → before a ≡ true) e es
      (λ k d within passes.
      let other = begin (suc k) d (omega arith) in
      let all = all_of_part (R own.first) g es k d (all_right (R own.first) own.others (flat_map g es) after) within in
      let follows : R own.first other.first = (subst (All (R own.first)) other.part all) 0 other.first (omega arith) in
      own.same ∙ falls own.first other.first follows (sym other.same ∙ passes))
      (parted es (λ k d within. begin (suc k) d (omega arith)) (pairs_right R (g e) (flat_map g es) pairs))

  pub after_fails : (y : X) (ys : List X) → AllPairs R (y ∷ ys) → test y ≡ false → All (λ (z : X). test z ≡ false) (y ∷ ys)
  after_fails y ys pairs fails zero d within = fails
  after_fails y ys pairs fails (suc k) d within =
      false_from_ne_true (test (get_or ys k d)) (λ is. cc (fails, falls y (get_or ys k d) (pairs_first R y ys pairs k d (omega arith)) is))

  pub all_fail : (es : List E) → All (Begins g before test) es → AllPairs R (flat_map g es) → All (λ (e : E). before e ≡ false) es
      → All (λ (x : X). test x ≡ false) (flat_map g es)
  all_fail [] begin pairs fail = λ k d within. absurd (omega arith)
  all_fail (e ∷ es) begin pairs fail =
      let own = begin 0 e (omega arith) in
      subst (λ (xs : List X). All (λ (x : X). test x ≡ false) (xs ++ flat_map g es)) (sym own.part)
      (after_fails own.first (own.others ++ flat_map g es) (subst (λ (xs : List X). AllPairs R (xs ++ flat_map g es)) own.part pairs)
      (sym own.same ∙ fail 0 e (omega arith)))

  -- no item passes
  pub last_of_none : (es : List E) → All (Begins g before test) es → AllPairs R (flat_map g es) → IsPlaceOf before es 0
      → find test (reverse (flat_map g es)) ≡ None
  last_of_none es begin pairs place = last_none test (flat_map g es) (all_fail es begin pairs (λ k d within. place.from k d (omega arith) within))

  -- the parts in front of an item, its own, and those after it
  pub split_rows_at : (es : List E) (k : ℕ) (d : E) → k < length es
      → flat_map g es ≡ flat_map g (take k es) ++ (g (get_or es k d) ++ flat_map g (drop (suc k) es))
  split_rows_at es k d within = ap (flat_map g) (split_at es k d within) ∙ flat_map-append g (take k es) (get_or es k d ∷ drop (suc k) es)

  -- the last element that passes is in the last part whose item does
  pub last_of_part : (es : List E) (k : ℕ) (d : E) → All (Begins g before test) es → AllPairs R (flat_map g es) → IsPlaceOf before es (suc k)
      → find test (reverse (flat_map g es)) ≡ find test (reverse (g (get_or es k d)))
  last_of_part es k d begin pairs place =
      let within : k < length es = omega (arith, place.within) in
      let own = begin k d within in
      let bound = split_rows_at es k d within in
      let rest : List X = flat_map g (drop (suc k) es) in
      let all : AllPairs R rest = pairs_right R (g (get_or es k d)) rest (pairs_right R (flat_map g (take k es)) _ (subst (AllPairs R) bound pairs)) in
      let fail = all_fail (drop (suc k) es) (All-drop (Begins g before test) (suc k) es begin) all
      (λ m e inside. rw (get_or-drop (suc k) es m e) (place.from (suc k + m) e (omega arith) (omega (arith, length-drop (suc k) es)))) in
      ap (λ (xs : List X). find test (reverse xs)) bound
      ∙ rw (own.part, ← append_assoc (flat_map g (take k es)) (own.first ∷ own.others) rest) (last_within test (flat_map g (take k es)) own.first own.others rest
      (sym own.same ∙ place.below k d (omega arith) (omega arith)) fail)

  -- all elements in front of an item that passes do
  pub front_passes : (es : List E) (k : ℕ) (d : E) → k < length es → All (Begins g before test) es → AllPairs R (flat_map g es)
      → before (get_or es k d) ≡ true → All (λ (x : X). test x ≡ true) (flat_map g (take k es))
  front_passes es k d within begin pairs passes m e inside =
      let own = begin k d within in
      let all = pairs_before R (flat_map g (take k es)) own.first (own.others ++ flat_map g (drop (suc k) es))
      (subst (λ (xs : List X). AllPairs R (flat_map g (take k es) ++ (xs ++ flat_map g (drop (suc k) es)))) own.part
      (subst (AllPairs R) (split_rows_at es k d within) pairs)) in
      falls (get_or (flat_map g (take k es)) m e) own.first (all m e inside) (sym own.same ∙ passes)
