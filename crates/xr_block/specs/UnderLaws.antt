-- What stands under the blocks of a row: their records one block after the other, each block with the key of its first record.
use Rattle.std.proofs.Common.{◌≡◌, ℕ, zero, suc, ◌<◌, ◌≤◌, Option, Some, None, List, [], ◌∷◌, ◌++◌, length, take, drop, map, get_or, refl, sym, ap, ◌∙◌, subst, arith}
use Rattle.std.proofs.lemmas.List.{append-nil, get_or-map, length-map, take_at}
use Rattle.std.proofs.lemmas.List.Concat.{flat_map-append}
use Rattle.std.proofs.lemmas.List.Elements.{Contains-append_left, Contains-append_right}
use Rattle.std.proofs.lemmas.List.Folds.{flat_map-map}
use Rattle.std.specs.List.{All, Contains, flat_map}
use Rattle.xr_kinds.specs.Form.{Form, IsForm}
use Rattle.xr_block.specs.Rows.{AreLinked, AreNamed, AreRowsOf, Held, IsWholeLeaf, IsWholeNode, first_of, greatest_key, min_records, key_held, key_of_entries, key_of_records, leaves_from, named_below}
use Rattle.xr_block.specs.Tree.{records_under}
use Rattle.xr_block.specs.TreeBlock.{Entry, Place, Site}

module _ {X : Type 0} (held : Held X) where
  leaves_append : (level : ℕ) (xs ys : List ℕ) → leaves_from held level (xs ++ ys) ≡ leaves_from held level xs ++ leaves_from held level ys
  unfolding leaves_from
  leaves_append zero xs ys = refl
  leaves_append (suc level) xs ys =
      ap (leaves_from held level) (flat_map-append (named_below held) xs ys)
      ∙ leaves_append level (flat_map (named_below held) xs) (flat_map (named_below held) ys)

  leaves_none : (level : ℕ) → leaves_from held level [] ≡ []
  unfolding leaves_from
  leaves_none zero = refl
  leaves_none (suc level) = leaves_none level

  -- the records of a row are those under its blocks, one after the other
  pub row_records : (level : ℕ) (row : List ℕ) → flat_map held.records (leaves_from held level row) ≡ flat_map (λ (n : ℕ). records_under held n level) row
  row_records level [] = ap (flat_map held.records) (leaves_none level)
  row_records level (n ∷ ns) =
      ap (flat_map held.records) (leaves_append level (n ∷ []) ns)
      ∙ flat_map-append held.records (leaves_from held level (n ∷ [])) (leaves_from held level ns)
      ∙ ap (λ (rest : List X). records_under held n level ++ rest) (row_records level ns)

  -- those of a node are those under its children
  pub node_records : (level n : ℕ) → records_under held n (suc level) ≡ flat_map (λ (e : Entry). records_under held e.child level) (held.entries n)
  unfolding leaves_from
  node_records level n =
      ap (λ (row : List ℕ). flat_map held.records (leaves_from held level row)) (append-nil (named_below held n))
      ∙ row_records level (named_below held n)
      ∙ flat_map-map (λ (m : ℕ). records_under held m level) (λ (e : Entry). e.child) (held.entries n)

  pub leaf_records : (n : ℕ) → records_under held n 0 ≡ held.records n
  unfolding leaves_from
  leaf_records n = append-nil (held.records n)

-- what a row says of each of its blocks
pub linked_at : (P : Place → List ℕ → Type 0) (at : ℕ → List ℕ) (level : ℕ) (left : Option ℕ) (row : List ℕ) (right : Option ℕ) (n : ℕ)
    → AreLinked P at level left row right → Contains row n → (place : Place) × (place.number ≡ n) × P place (at place.number)
unfolding AreLinked
linked_at P at level left [] right n linked within = absurd (omega (arith, within.1))
linked_at P at level left (m ∷ ms) right n linked (zero, inside, is) =
    (record { number = m; level = level; left = left; right = first_of ms right }, is, linked.0)
linked_at P at level left (m ∷ ms) right n linked (suc k, inside, is) = linked_at P at level (Some m) ms right n linked.1 (k, omega (arith, inside), is)

pub same_each : {A B C : Type 0} (f : A → C) (h : A → B) (g : B → C) (xs : List A) → map f xs ≡ map g (map h xs) → All (λ (x : A). f x ≡ g (h x)) xs
same_each f h g [] same k d within = absurd (omega arith)
same_each {C = C} f h g (x ∷ xs) same zero d within = ap (λ (ys : List C). get_or ys 0 (f x)) same
same_each {C = C} f h g (x ∷ xs) same (suc k) d within = same_each f h g xs (ap (λ (ys : List C). drop 1 ys) same) k d (omega arith)

-- each entry has the key of its block
pub named_at : {X : Type 0} (form : Form X) (held : Held X) (level : ℕ) (row : List ℕ) (n : ℕ) → AreNamed form held level row → Contains row n
    → All (λ (e : Entry). e.key ≡ key_held form held level e.child) (held.entries n)
unfolding AreNamed
named_at form held level [] n named within = absurd (omega (arith, within.1))
named_at form held level (m ∷ ms) n named (zero, inside, is) =
    subst (λ (k : ℕ). All (λ (e : Entry). e.key ≡ key_held form held level e.child) (held.entries k)) is
    (same_each (λ (e : Entry). e.key) (λ (e : Entry). e.child) (key_held form held level) (held.entries m) named.0)
named_at form held level (m ∷ ms) n named (suc k, inside, is) = named_at form held level ms n named.1 (k, omega (arith, inside), is)

-- what a block of a row names is in the row below
pub below_row : (f : ℕ → List ℕ) (row : List ℕ) (n m : ℕ) → Contains row n → Contains (f n) m → Contains (flat_map f row) m
below_row f [] n m within named = absurd (omega (arith, within.1))
below_row f (k ∷ ks) n m (zero, inside, is) named = Contains-append_left (f k) (flat_map f ks) m (subst (λ (i : ℕ). Contains (f i) m) (sym is) named)
below_row f (k ∷ ks) n m (suc i, inside, is) named = Contains-append_right (f k) (flat_map f ks) m (below_row f ks n m (i, omega (arith, inside), is) named)

pub min_records_some : {X : Type 0} (form : Form X) (laws : IsForm form) (level : ℕ) → 1 ≤ min_records form level
unfolding min_records
min_records_some form laws zero = omega (arith, laws.leaf_some)
min_records_some form laws (suc level) = omega (arith, laws.node_some)

-- a block has records under it, and its low key is that of the first
pub record HasFirst {X : Type 0} (form : Form X) (held : Held X) (level n : ℕ) : Type 0 where
  pub first : X
  pub others : List X
  pub records : records_under held n level ≡ first ∷ others
  pub key : take form.low (key_held form held level n) ≡ form.low_of first

module _ {X : Type 0} (form : Form X) (laws : IsForm form) (site : Site) (at : ℕ → List ℕ) (held : Held X) where
  first_of_leaf : (n : ℕ) (records : List X) → held.records n ≡ records → 1 ≤ length records → HasFirst form held 0 n
  unfolding key_held key_of_records
  first_of_leaf n [] are some = absurd (omega arith)
  first_of_leaf n (r ∷ rs) are some = record {
    first = r;
    others = rs;
    records = leaf_records held n ∙ are;
    key = ap (λ (records : List X). take form.low (key_of_records form records)) are
        ∙ take_at (form.low_of r) (greatest_key (map form.high_of (r ∷ rs))) form.low (laws.low_sized r);
  }

  first_of_node : (level n : ℕ) (entries : List Entry) → held.entries n ≡ entries → 1 ≤ length entries
      → All (λ (e : Entry). e.key ≡ key_held form held level e.child) entries → All (λ (e : Entry). HasFirst form held level e.child) entries
      → HasFirst form held (suc level) n
  unfolding key_held key_of_entries
  first_of_node level n [] are some named below = absurd (omega arith)
  first_of_node level n (e ∷ es) are some named below =
      let child = below 0 e (omega arith) in
      let under : Entry → List X = λ entry. records_under held entry.child level in
      let low : take form.low e.key ≡ form.low_of child.first = ap (take form.low) (named 0 e (omega arith)) ∙ child.key in
      let high : List ℕ = greatest_key (map (λ (entry : Entry). drop form.low entry.key) (e ∷ es)) in
      record {
        first = child.first;
        others = child.others ++ flat_map under es;
        records = node_records held level n ∙ ap (flat_map under) are ∙ ap (λ (xs : List X). xs ++ flat_map under es) child.records;
        key = ap (λ (entries : List Entry). take form.low (key_of_entries form entries)) are
            ∙ ap (λ (xs : List ℕ). take form.low (xs ++ high)) low ∙ take_at (form.low_of child.first) high form.low (laws.low_sized child.first);
      }

  -- the children of a block are in the row below
  pub child_in_row : (row : List ℕ) (n k : ℕ) (d : Entry) → Contains row n → k < length (held.entries n)
      → Contains (flat_map (named_below held) row) (let e = get_or (held.entries n) k d in e.child)
  child_in_row row n k d within inside =
      let e = get_or (held.entries n) k d in
      below_row (named_below held) row n e.child within
      (k, omega (arith, length-map (held.entries n) (λ (entry : Entry). entry.child)), get_or-map (λ (entry : Entry). entry.child) (held.entries n) k d e.child inside)

  pub has_first : (least level : ℕ) (row : List ℕ) (n : ℕ) → 1 ≤ least → AreRowsOf form site at held least level row → Contains row n
      → HasFirst form held level n
  unfolding AreRowsOf
  has_first least zero row n some rows within =
      let here = linked_at (IsWholeLeaf form site held least) at 0 None row None n rows within in
      let whole = here.2 in
      first_of_leaf n (held.records n) refl (subst (λ (m : ℕ). 1 ≤ length (held.records m)) here.1 (omega (arith, whole.least_items)))
  has_first least (suc level) row n some rows within =
      let here = linked_at (IsWholeNode form site held least) at (suc level) None row None n rows.0 within in
      let whole = here.2 in
      first_of_node level n (held.entries n) refl (subst (λ (m : ℕ). 1 ≤ length (held.entries m)) here.1 (omega (arith, whole.least_items)))
      (named_at form held level row n rows.1 within)
      (λ k d inside.
      has_first (min_records form level) level (flat_map (named_below held) row) _ (min_records_some form laws level) rows.2 (child_in_row row n k d within inside))
