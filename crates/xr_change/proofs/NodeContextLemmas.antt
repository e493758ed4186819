-- Rows that are linked, split in two and joined, and some blocks of a row with what stands beside them there.
use Rattle.std.proofs.Common.{◌≡◌, ℕ, ◌+◌, ◌≤◌, Option, Some, None, List, [], ◌∷◌, ◌++◌, refl, sym, ap, subst, arith, inl, inr, ◌⊎◌, suc, ◌∙◌, append_assoc}
use Rattle.std.proofs.lemmas.List.Concat.{flat_map-append}
use Rattle.std.specs.List.{last_or}
use Rattle.xr_block.specs.TimesLaws.{times_more, times_same, times-append}
use Rattle.xr_kinds.specs.Form.{Form, IsForm}
use Rattle.xr_pool.specs.Overlay.{Blocks, block_at, AreKnown}
use Rattle.xr_block.specs.Rows.{AreLinked, first_of, min_records, named_below}
use Rattle.xr_block.specs.Times.{times}
use Rattle.xr_block.specs.Tree.{blocks_of, site_of, tree_held}
use Rattle.xr_block.specs.TreeBlock.{Place}
use Rattle.xr_change.proofs.SameItemLemmas.{row_linked, times_rows}
use Rattle.xr_change.proofs.SiblingLemmas.{right_read}
use Rattle.xr_change.proofs.RowBlockLemmas.{below, children, same_or_other}
use Rattle.xr_change.proofs.WriteLemmas.{times_is}
use Rattle.xr_change.specs.Alters.{AreRowsIn, IsWholeAt}
use Rattle.xr_change.specs.Regroups.{rows_below}
use Rattle.xr_block.specs.Checks.{right_in}

pub is_some_of : (o : Option ℕ) (m : ℕ) → (o ≡ Some m) ⊎ (o ≡ Some m → ⊥)
is_some_of None m = inr (λ is. absurd cc)
is_some_of (Some k) m = same_or_other k m (λ same. inl (ap Some same)) (λ other. inr (λ is. other cc))

pub first_of-append : (xs ys : List ℕ) (right : Option ℕ) → first_of (xs ++ ys) right ≡ first_of xs (first_of ys right)
first_of-append [] ys right = refl
first_of-append (x ∷ xs) ys right = refl

pub row_has : (m n : ℕ) (pre post : List ℕ) → m ≡ n → 1 ≤ times m (pre ++ n ∷ post)
row_has m n pre post same = rw same (omega (arith, times-append n pre (n ∷ post), times_same n post))

pub last_within : (x : ℕ) (xs : List ℕ) (last : ℕ) → last_or (Some x) xs ≡ Some last → 1 ≤ times last (x ∷ xs)
last_within x [] last is =
    let same : x ≡ last = cc in subst (λ (m : ℕ). 1 ≤ times m (x ∷ [])) same (omega (arith, times_same x []))
last_within x (y ∷ ys) last is = omega (arith, last_within y ys last is, times_more last x (y ∷ ys))

module _ (P : Place → List ℕ → Type 0) (at : ℕ → List ℕ) (level : ℕ) where
  pub linked_apart : (left : Option ℕ) (xs ys : List ℕ) (right : Option ℕ) → AreLinked P at level left (xs ++ ys) right
      → AreLinked P at level left xs (first_of ys right) × AreLinked P at level (last_or left xs) ys right
  unfolding AreLinked
  linked_apart left [] ys right linked = (tt, linked)
  linked_apart left (x ∷ xs) ys right linked =
      let rest = linked_apart (Some x) xs ys right linked.1 in
      ((subst (λ (o : Option ℕ). P (record { number = x; level = level; left = left; right = o }) (at x)) (first_of-append xs ys right) linked.0, rest.0), rest.1)

  pub linked_joined : (left : Option ℕ) (xs ys : List ℕ) (right : Option ℕ) → AreLinked P at level left xs (first_of ys right)
      → AreLinked P at level (last_or left xs) ys right → AreLinked P at level left (xs ++ ys) right
  unfolding AreLinked
  linked_joined left [] ys right front rest = rest
  linked_joined left (x ∷ xs) ys right front rest = (rw (first_of-append xs ys right) front.0, linked_joined (Some x) xs ys right front.1 rest)

  -- the last block stands in the row, and its right sibling after it
  pub linked_last : (left : Option ℕ) (x : ℕ) (xs : List ℕ) (right : Option ℕ) (last : ℕ) → last_or (Some x) xs ≡ Some last → AreLinked P at level left (x ∷ xs) right
      → (l : Option ℕ) × P (record { number = last; level = level; left = l; right = right }) (at last)
  unfolding AreLinked
  linked_last left x [] right last is linked = let same : x ≡ last = cc in (left, rw (← same) linked.0)
  linked_last left x (y ∷ ys) right last is linked = linked_last (Some x) y ys right last is linked.1

  pub linked_first : (left : Option ℕ) (row : List ℕ) (right : Option ℕ) (q : ℕ) → first_of row None ≡ Some q → AreLinked P at level left row right
      → (r : Option ℕ) × P (record { number = q; level = level; left = left; right = r }) (at q)
  unfolding AreLinked
  linked_first left [] right q is linked = absurd cc
  linked_first left (n ∷ ns) right q is linked = let same : n ≡ q = cc in (first_of ns right, rw (← same) linked.0)

module _ (P Q : Place → List ℕ → Type 0) (at now : ℕ → List ℕ) (level : ℕ) where
  -- each block is as good at its place as it was
  pub linked_stays : (left : Option ℕ) (row : List ℕ) (right : Option ℕ)
      → ((place : Place) → place.level ≡ level → 1 ≤ times place.number row → P place (at place.number) → Q place (now place.number))
      → AreLinked P at level left row right → AreLinked Q now level left row right
  unfolding AreLinked
  linked_stays left [] right each linked = tt
  linked_stays left (n ∷ ns) right each linked = (
    each (record { number = n; level = level; left = left; right = first_of ns right }) refl (omega (arith, times_same n ns)) linked.0,
    linked_stays (Some n) ns right (λ place low some. each place low (omega (arith, some, times_more place.number n ns))) linked.1,
  )

  -- the first has another left sibling
  pub linked_after : (left left' : Option ℕ) (row : List ℕ) (right : Option ℕ) → ((m : ℕ) → times m row ≤ 1)
      → ((q : ℕ) → first_of row None ≡ Some q → (place : Place) → place.number ≡ q → place.level ≡ level → place.left ≡ left
      → P place (at q) → Q (record place { left = left' }) (now q))
      → ((place : Place) → place.level ≡ level → 1 ≤ times place.number row → (first_of row None ≡ Some place.number → ⊥)
      → P place (at place.number) → Q place (now place.number))
      → AreLinked P at level left row right → AreLinked Q now level left' row right
  unfolding AreLinked
  linked_after left left' [] right once first each linked = tt
  linked_after left left' (n ∷ ns) right once first each linked = (
    first n refl (record { number = n; level = level; left = left; right = first_of ns right }) refl refl refl linked.0,
    linked_stays (Some n) ns right
        (λ place low some.
        each place low (omega (arith, some, times_more place.number n ns))
        (λ is. let same : n ≡ place.number = cc in absurd (omega (arith, times_is place.number n ns same, some, once place.number))))
        linked.1,
  )

pub row_joined : (a f o b z : List ℕ) → a ++ ((f ++ (o ++ b)) ++ z) ≡ (a ++ f) ++ (o ++ (b ++ z))
row_joined a f o b z = rw (append_assoc f (o ++ b) z, append_assoc o b z) (sym (append_assoc a f (o ++ (b ++ z))))

pub first_within : (xs : List ℕ) (q : ℕ) → first_of xs None ≡ Some q → 1 ≤ times q xs
first_within [] q is = absurd cc
first_within (x ∷ xs) q is = let same : x ≡ q = cc in rw (← same) (omega (arith, times_same x xs))

-- the row of the children of a row of nodes, by some children of one
module _ {X : Type 0} (form : Form X) (b : Blocks) (n : ℕ) (front old after : List ℕ) (named : named_below (tree_held form b) n ≡ front ++ (old ++ after)) (pre post : List ℕ) where
  pub children_around : children form b (pre ++ n ∷ post) ≡ (children form b pre ++ front) ++ (old ++ (after ++ children form b post))
  children_around =
      flat_map-append (named_below (tree_held form b)) pre (n ∷ post) ∙ rw named (row_joined (children form b pre) front old after (children form b post))

  pub rows_among : (least level : ℕ) → AreRowsIn form b least (suc level) (pre ++ n ∷ post)
      → AreRowsIn form b (min_records form level) level ((children form b pre ++ front) ++ (old ++ (after ++ children form b post)))
  rows_among least level rows = subst (AreRowsIn form b (min_records form level) level) children_around (below form b least level (pre ++ n ∷ post) rows)

-- some blocks of a row, and what stands beside them there
module _ {X : Type 0} (form : Form X) (b : Blocks) (level : ℕ) (pre old post : List ℕ) (rows : AreRowsIn form b (min_records form level) level (pre ++ (old ++ post))) where
  abbrev P : Place → List ℕ → Type 0
  P = IsWholeAt form (site_of b) (tree_held form b) level (min_records form level)

  pub counted : (m : ℕ) → times m (blocks_of form b level (pre ++ (old ++ post)))
      ≡ (times m pre + (times m old + times m post)) + times m (rows_below form b level (pre ++ (old ++ post)))
  counted m = omega (arith, times_rows form b m level (pre ++ (old ++ post)), times-append m pre (old ++ post), times-append m old post)

  pub row_parts : AreLinked P (block_at b) level None pre (first_of (old ++ post) None)
      × AreLinked P (block_at b) level (last_or None pre) old (first_of post None) × AreLinked P (block_at b) level (last_or (last_or None pre) old) post None
  row_parts =
      let parts = linked_apart P (block_at b) level None pre (old ++ post) None
      (row_linked form (site_of b) (block_at b) (tree_held form b) (min_records form level) level (pre ++ (old ++ post)) rows.rows) in
      let rest = linked_apart P (block_at b) level (last_or None pre) old post None parts.1 in (parts.0, rest.0, rest.1)

  module _ (c : ℕ) (olds : List ℕ) (is : old ≡ c ∷ olds) (last : ℕ) (found : last_or (Some c) olds ≡ Some last) where
    -- the first after them is whole at a place right of the last
    pub first_after : (q : ℕ) → first_of post None ≡ Some q → (right : Option ℕ) × P (record { number = q; level = level; left = Some last; right = right }) (block_at b q)
    first_after q next = linked_first P (block_at b) level (Some last) post None q next (rw (is, found) at row_parts.2)

    -- and the last of them names it
    pub last_names : (laws : IsForm form) (known : AreKnown b) → right_in form (block_at b last) ≡ first_of post None
    last_names laws known =
        let o : Option ℕ = last_or None pre in
        let whole = linked_last P (block_at b) level o c olds (first_of post None) last found (rw is at row_parts.1) in
        right_read form laws b known (min_records form level) level (record { number = last; level = level; left = whole.0; right = first_of post None })
        (rows.owned last (omega (arith, last_within c olds last found, ap (times last) is, counted last))).below
        (λ q next. (rows.owned q (omega (arith, first_within post q next, counted q))).below) whole.1

    pub next_within : (laws : IsForm form) (known : AreKnown b) (q : ℕ) → right_in form (block_at b last) ≡ Some q → 1 ≤ times q post
    next_within laws known q right = first_within post q (sym (last_names laws known) ∙ right)
