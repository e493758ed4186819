-- The high key of a block is not below that of any record under it.
use Rattle.std.proofs.Common.{◌≡◌, ℕ, zero, suc, ◌<◌, Bool, true, false, if◌then◌else◌, List, [], ◌∷◌, length, take, drop, map, get_or, refl, sym, ap, ◌∙◌, subst, arith}
use Rattle.std.proofs.lemmas.Cmp.{nat_list_cmp_total, tied_itself, upto}
use Rattle.std.proofs.lemmas.List.{drop_at, get_or-map, length-map}
use Rattle.std.proofs.lemmas.List.Elements.{All-append, All-cons}
use Rattle.std.specs.Cmp.Lexicographic.{slice_cmp}
use Rattle.std.specs.List.{All, Contains, flat_map}
use Rattle.std.specs.Ordering.{is_gt, is_lt, nat_cmp, ordering_reverse}
use Rattle.std.specs.declared.cmp.Ordering.{Ordering}
use Rattle.std.specs.declared.cmp.Ordering.TheVariants.{Less, Equal, Greater}
use Rattle.xr_kinds.specs.Form.{Form, IsForm}
use Rattle.xr_block.specs.Rows.{AreRowsOf, Held, greater_key, greatest_key, min_records, key_held, key_of_entries, key_of_records, named_below}
use Rattle.xr_block.specs.Tree.{records_under}
use Rattle.xr_block.specs.TreeBlock.{Entry, Site}
use Rattle.xr_block.specs.UnderLaws.{child_in_row, min_records_some, has_first, leaf_records, named_at, node_records}

-- a key isn't above another
abbrev pub IsUpTo : List ℕ → List ℕ → Type 0
IsUpTo key high = is_gt (slice_cmp nat_cmp key high) ≡ false

lower_first : (o : Ordering) → is_lt o ≡ true → is_gt o ≡ false
lower_first Less is = refl
lower_first Equal is = cc
lower_first Greater is = cc

not_lower : (o : Ordering) → is_lt o ≡ false → is_gt (ordering_reverse o) ≡ false
not_lower Less is = cc
not_lower Equal is = refl
not_lower Greater is = refl

greater_by : (a b : List ℕ) (less : Bool) → is_lt (slice_cmp nat_cmp a b) ≡ less → (let g = if less then b else a in IsUpTo a g × IsUpTo b g)
greater_by a b true is = (lower_first (slice_cmp nat_cmp a b) is, ap is_gt (tied_itself nat_list_cmp_total b))
greater_by a b false is =
    (ap is_gt (tied_itself nat_list_cmp_total a), ap is_gt (nat_list_cmp_total.antisymm b a) ∙ not_lower (slice_cmp nat_cmp a b) is)

greatest_all : (keys : List (List ℕ)) → All (λ (key : List ℕ). IsUpTo key (greatest_key keys)) keys
unfolding greatest_key
greatest_all [] = λ k d within. absurd (omega arith)
greatest_all (key ∷ keys) =
    let both = greater_by key (greatest_key keys) (is_lt (slice_cmp nat_cmp key (greatest_key keys))) refl in
    All-cons (λ (other : List ℕ). IsUpTo other (greater_key key (greatest_key keys))) key keys both.0
    (λ k d within. upto nat_list_cmp_total (get_or keys k d) (greatest_key keys) (greater_key key (greatest_key keys)) (greatest_all keys k d within) both.1)

-- the same of the keys of some items
greatest_of : {I : Type 0} (key : I → List ℕ) (items : List I) → All (λ (i : I). IsUpTo (key i) (greatest_key (map key items))) items
greatest_of key items k d within =
    rw (sym (get_or-map key items k d (key d) within))
    (greatest_all (map key items) k (key d) (omega (arith, length-map items key)))

-- what holds of all parts holds of the whole
all_parts : {E X : Type 0} (P : X → Type 0) (g : E → List X) (es : List E) → All (λ (e : E). All P (g e)) es → All P (flat_map g es)
all_parts P g [] each = λ k d within. absurd (omega arith)
all_parts P g (e ∷ es) each =
    All-append P (g e) (flat_map g es) (each 0 e (omega arith)) (all_parts P g es (λ k d within. each (suc k) d (omega arith)))

module _ {X : Type 0} (form : Form X) (laws : IsForm form) (site : Site) (at : ℕ → List ℕ) (held : Held X) where
  high_of_leaf : (n : ℕ) (records : List X) → held.records n ≡ records
      → All (λ (x : X). IsUpTo (form.high_of x) (drop form.low (key_of_records form records))) records
  unfolding key_of_records
  high_of_leaf n [] are = λ k d within. absurd (omega arith)
  high_of_leaf n (r ∷ rs) are =
      let high : List ℕ = greatest_key (map form.high_of (r ∷ rs)) in
      subst (λ (key : List ℕ). All (λ (x : X). IsUpTo (form.high_of x) key) (r ∷ rs)) (sym (drop_at (form.low_of r) high form.low (laws.low_sized r)))
      (greatest_of form.high_of (r ∷ rs))

  high_of_node : (entries : List Entry) → ((k : ℕ) (d : Entry) → k < length entries → (let e = get_or entries k d in length (take form.low e.key) ≡ form.low))
      → All (λ (e : Entry). IsUpTo (drop form.low e.key) (drop form.low (key_of_entries form entries))) entries
  unfolding key_of_entries
  high_of_node [] long = λ k d within. absurd (omega arith)
  high_of_node (e ∷ es) long =
      let high : List ℕ = greatest_key (map (λ (entry : Entry). drop form.low entry.key) (e ∷ es)) in
      subst (λ (key : List ℕ). All (λ (entry : Entry). IsUpTo (drop form.low entry.key) key) (e ∷ es))
      (sym (drop_at (take form.low e.key) high form.low (long 0 e (omega arith))))
      (greatest_of (λ (entry : Entry). drop form.low entry.key) (e ∷ es))

  pub high_all : (least level : ℕ) (row : List ℕ) (n : ℕ) → AreRowsOf form site at held least level row → Contains row n
      → All (λ (x : X). IsUpTo (form.high_of x) (drop form.low (key_held form held level n))) (records_under held n level)
  unfolding AreRowsOf key_held
  high_all least zero row n rows within =
      subst (All (λ (x : X). IsUpTo (form.high_of x) (drop form.low (key_of_records form (held.records n))))) (sym (leaf_records held n))
      (high_of_leaf n (held.records n) refl)
  high_all least (suc level) row n rows within =
      let below : List ℕ = flat_map (named_below held) row in
      let child = child_in_row form laws site at held row n in
      let high = high_of_node (held.entries n)
      (λ k d inside.
      let e = get_or (held.entries n) k d in
      let first = has_first form laws site at held (min_records form level) level below e.child (min_records_some form laws level) rows.2 (child k d within inside) in
      ap (λ (key : List ℕ). length (take form.low key)) (named_at form held level row n rows.1 within k d inside) ∙ ap length first.key ∙ laws.low_sized first.first) in
      let P : X → Type 0 = λ x. IsUpTo (form.high_of x) (drop form.low (key_of_entries form (held.entries n))) in
      subst (All P) (sym (node_records held level n))
      (all_parts P (λ (e : Entry). records_under held e.child level) (held.entries n)
      (λ k d inside m x under.
      let e = get_or (held.entries n) k d in
      let own = high_all (min_records form level) level below e.child rows.2 (child k d within inside) m x under in
      upto nat_list_cmp_total (form.high_of (get_or (records_under held e.child level) m x)) (drop form.low e.key) (drop form.low (key_of_entries form (held.entries n)))
      (subst (λ (key : List ℕ). IsUpTo (form.high_of (get_or (records_under held e.child level) m x)) (drop form.low key))
      (sym (named_at form held level row n rows.1 within k d inside)) own)
      (high k d inside)))
