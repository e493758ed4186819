-- What a lookup finds at a block that it comes to.
use Rattle.std.proofs.Common.{◌≡◌, ℕ, zero, suc, ◌+◌, ◌-◌, ◌<◌, ◌&&◌, Bool, true, false, nat_lt, if◌then◌else◌, Option, Some, None, IfSome, List, [], reverse, length, take, drop, get_or, refl, sym, ap, ◌∙◌, subst, arith}
use Rattle.std.proofs.lemmas.Bool.Decides.{nat_tests}
use Rattle.std.proofs.lemmas.List.{drop_more, get_or_default, take-append-drop}
use Rattle.std.proofs.lemmas.List.Concat.{flat_map-append}
use Rattle.std.proofs.lemmas.List.Folds.{find-append}
use Rattle.std.specs.Option.{is_some, option_or}
use Rattle.std.specs.List.{All, AllPairs, find, flat_map, slice_get}
use Rattle.std.specs.Ordering.{is_lt}
use Rattle.std.specs.declared.cmp.Ordering.TheVariants.{Less}
use Rattle.xr_block.specs.declared.bound.Bound.{Bound}
use Rattle.xr_lookup.specs.declared.lookup.Wanted.{Wanted}
use Rattle.xr_block.specs.Bounds.{IsPlaceOf, entry_is_before, is_before}
use Rattle.xr_kinds.specs.Form.{Form, IsForm}
use Rattle.xr_lookup.specs.Lookup.{is_wanted, meets_given}
use Rattle.xr_block.specs.NodeEntries.{high_key_in, key_in, low_key_from, low_key_in}
use Rattle.xr_block.specs.NodeEntryLaws.{entry_read, length-entries}
use Rattle.xr_pool.specs.Overlay.{Blocks, block_at}
use Rattle.xr_lookup.specs.Reach.{IsBeforeKey, IsUnderKeys}
use Rattle.xr_block.specs.Rows.{key_held, AreRowsOf, min_records, named_below}
use Rattle.xr_block.specs.Tree.{site_of, tree_held, tree_records}
use Rattle.xr_block.specs.TreeBlock.{Entry, count_in, entries_in, records_in}
use Rattle.xr_block.specs.Under.{IsUnder}
use Rattle.xr_block.specs.UnderLaws.{HasFirst, child_in_row, leaf_records}
use Rattle.xr_lookup.proofs.FoundLemmas.{first_least}
use Rattle.xr_lookup.proofs.HighLemmas.{IsUpTo, high_all}
use Rattle.xr_block.specs.PartLaws.{Begins, find_after, front_of_place, front_passes, last_at, last_of_none, last_of_part, last_of_parted, none_found, pairs_next, some_found}
use Rattle.xr_block.specs.DescentLaws.{falls}
use Rattle.xr_block.specs.DescentLaws as descent

below_if : (a c : ℕ) → nat_lt a c ≡ true → a < c
below_if a c is = grind (arith, nat_tests)

no_more : (b : Bool) → b && false ≡ false
no_more true = refl
no_more false = refl

-- no record before the place is wanted
pub none_before : {X : Type 0} (form : Form X) (wanted : Wanted X) (x : X) → is_before form wanted.from x ≡ true → is_wanted form wanted x ≡ false
none_before form wanted x before = rw before (no_more (meets_given form wanted.meeting x))

-- the records of a leaf from a place on are all that may be wanted
pub after_in_leaf : {X : Type 0} (form : Form X) (b : Blocks) (n : ℕ) (wanted : Wanted X) (place : ℕ)
    → IsPlaceOf (is_before form wanted.from) (records_in form (block_at b n)) place
    → find (is_wanted form wanted) (drop place (records_in form (block_at b n))) ≡ find (is_wanted form wanted) (tree_records form b n 0)
after_in_leaf {X} form b n wanted place parts =
    let records : List X = records_in form (block_at b n) in
    find_after (is_wanted form wanted) (take place records) (drop place records)
    (λ k d within. none_before form wanted (get_or (take place records) k d) (front_of_place (is_before form wanted.from) records place parts k d within))
    ∙ ap (find (is_wanted form wanted)) (take-append-drop place records ∙ sym (leaf_records (tree_held form b) n))

module _ {X : Type 0} (form : Form X) (b : Blocks) (n : ℕ) (bound : Bound X) where
  -- the last record of a leaf before a place
  pub last_in_leaf : (place k : ℕ) → IsPlaceOf (is_before form bound) (records_in form (block_at b n)) place → place ≡ suc k
      → slice_get (records_in form (block_at b n)) k ≡ find (is_before form bound) (reverse (tree_records form b n 0))
  last_in_leaf place k parts is =
      sym (ap (λ (xs : List X). find (is_before form bound) (reverse xs)) (leaf_records (tree_held form b) n)
      ∙ last_at (is_before form bound) (records_in form (block_at b n)) k (subst (IsPlaceOf (is_before form bound) (records_in form (block_at b n))) is parts))

  pub none_in_leaf : (place : ℕ) → IsPlaceOf (is_before form bound) (records_in form (block_at b n)) place → place ≡ 0
      → None ≡ find (is_before form bound) (reverse (tree_records form b n 0))
  none_in_leaf place parts is =
      sym (ap (λ (xs : List X). find (is_before form bound) (reverse xs)) (leaf_records (tree_held form b) n)
      ∙ last_of_parted (is_before form bound) (records_in form (block_at b n)) (subst (IsPlaceOf (is_before form bound) (records_in form (block_at b n))) is parts))

module _ {X : Type 0} (form : Form X) (laws : IsForm form) (b : Blocks) (top level n : ℕ) (above : top ≡ suc level) (of_top : IsUnder form b top n) where
  node : IsUnder form b (suc level) n
  node = descent.node form laws b top level n above of_top

  abbrev entries : List Entry
  entries = entries_in form (block_at b n)

  abbrev under : Entry → List X
  under e = tree_records form b e.child level

  node_holds : tree_records form b n top ≡ flat_map under entries
  node_holds = descent.node_holds form laws b top level n above of_top

  all_ascend : AllPairs (λ (x y : X). form.order x y ≡ Less) (flat_map under entries)
  all_ascend = descent.all_ascend form laws b top level n above of_top

  all_agree : AllPairs (λ (x y : X). form.agree x y ≡ true) (flat_map under entries)
  all_agree = descent.all_agree form laws b top level n above of_top

  child_under : (k : ℕ) (d : Entry) → k < length entries → (let e = get_or entries k d in IsUnder form b level e.child)
  child_under = descent.child_under form laws b top level n above of_top

  first_under : (k : ℕ) (d : Entry) → k < length entries → (let e = get_or entries k d in HasFirst form (tree_held form b) level e.child)
  first_under = descent.first_under form laws b top level n above of_top

  first_good : (k : ℕ) (d : Entry) (within : k < length entries) → (let first = first_under k d within in form.is_valid first.first ≡ true)
  unfolding first_under
  first_good = descent.first_good form laws b top level n above of_top

  named : (k : ℕ) (d : Entry) → k < length entries → (let e = get_or entries k d in e.key ≡ key_held form (tree_held form b) level e.child)
  named = descent.named form laws b top level n above of_top

  begin : (bound : Bound X) → All (Begins under (entry_is_before form bound) (is_before form bound)) entries
  begin = descent.begin form laws b top level n above of_top

  -- the last record before a place is under the last child that begins before it
  pub last_in_child : (bound : Bound X) (place k c : ℕ) → IsPlaceOf (entry_is_before form bound) entries place → place ≡ suc k
      → ((d : Entry) → (let e = get_or entries k d in c ≡ e.child))
      → find (is_before form bound) (reverse (tree_records form b c level)) ≡ find (is_before form bound) (reverse (tree_records form b n top))
  last_in_child bound place k c parts is child =
      let d : Entry = record { key = []; child = 0 } in
      ap (λ (m : ℕ). find (is_before form bound) (reverse (tree_records form b m level))) (child d)
      ∙ sym (last_of_part (λ (x y : X). form.order x y ≡ Less) under (entry_is_before form bound) (is_before form bound) (falls form laws bound) entries k d (begin bound)
      all_ascend (subst (IsPlaceOf (entry_is_before form bound) entries) is parts))
      ∙ sym (ap (λ (xs : List X). find (is_before form bound) (reverse xs)) node_holds)

  pub none_in_node : (bound : Bound X) (place : ℕ) → IsPlaceOf (entry_is_before form bound) entries place → place ≡ 0
      → None ≡ find (is_before form bound) (reverse (tree_records form b n top))
  none_in_node bound place parts is =
      sym (ap (λ (xs : List X). find (is_before form bound) (reverse xs)) node_holds
      ∙ last_of_none (λ (x y : X). form.order x y ≡ Less) under (entry_is_before form bound) (is_before form bound) (falls form laws bound) entries (begin bound) all_ascend
      (subst (IsPlaceOf (entry_is_before form bound) entries) is parts))

  front_unwanted : (wanted : Wanted X) (place : ℕ) → IsPlaceOf (entry_is_before form wanted.from) entries place
      → All (λ (x : X). is_wanted form wanted x ≡ false) (flat_map under (take (place - 1) entries))
  front_unwanted wanted zero parts = λ k d within. absurd (omega arith)
  front_unwanted wanted (suc m) parts =
      let less : m ≡ suc m - 1 = omega arith in
      let e : Entry = record { key = []; child = 0 } in
      subst (λ (j : ℕ). All (λ (x : X). is_wanted form wanted x ≡ false) (flat_map under (take j entries))) less
      (λ k d within. none_before form wanted (get_or (flat_map under (take m entries)) k d)
      (front_passes (λ (x y : X). form.order x y ≡ Less) under (entry_is_before form wanted.from) (is_before form wanted.from) (falls form laws wanted.from) entries m e
      (omega (arith, parts.within)) (begin wanted.from) all_ascend (parts.below m e (omega arith) (omega arith)) k d within))

  -- the children from the last on that begins before the place have all that may be wanted
  pub after_in_node : (wanted : Wanted X) (place : ℕ) → IsPlaceOf (entry_is_before form wanted.from) entries place
      → find (is_wanted form wanted) (flat_map under (drop (place - 1) entries)) ≡ find (is_wanted form wanted) (tree_records form b n top)
  after_in_node wanted place parts =
      let k : ℕ = place - 1 in
      find_after (is_wanted form wanted) (flat_map under (take k entries)) (flat_map under (drop k entries)) (front_unwanted wanted place parts)
      ∙ ap (find (is_wanted form wanted)) (sym (flat_map-append under (take k entries) (drop k entries)) ∙ ap (flat_map under) (take-append-drop k entries) ∙ sym node_holds)

  -- what is found from a child on: what is found under it, or else after it
  next_child : (wanted : Wanted X) (k c : ℕ) (o : Option X) → k < length entries → ((d : Entry) → (let e = get_or entries k d in c ≡ e.child))
      → o ≡ find (is_wanted form wanted) (tree_records form b c level)
      → option_or o (find (is_wanted form wanted) (flat_map under (drop (k + 1) entries))) ≡ find (is_wanted form wanted) (flat_map under (drop k entries))
  next_child wanted k c o within child is =
      let d : Entry = record { key = []; child = 0 } in
      let rest : Option X = find (is_wanted form wanted) (flat_map under (drop (k + 1) entries)) in
      ap (λ (p : Option X). option_or p rest) (is ∙ ap (λ (m : ℕ). find (is_wanted form wanted) (tree_records form b m level)) (child d))
      ∙ sym (find-append (is_wanted form wanted) (under (get_or entries k d)) (flat_map under (drop (k + 1) entries)))
      ∙ ap (λ (es : List Entry). find (is_wanted form wanted) (flat_map under es)) (sym (drop_more entries k d within))

  pub found_under : (wanted : Wanted X) (k c : ℕ) (o : Option X) → k < length entries → ((d : Entry) → (let e = get_or entries k d in c ≡ e.child))
      → o ≡ find (is_wanted form wanted) (tree_records form b c level) → is_some o ≡ true
      → o ≡ find (is_wanted form wanted) (flat_map under (drop k entries))
  found_under wanted k c o within child is some = some_found o _ some ∙ next_child wanted k c o within child is

  pub found_after : (wanted : Wanted X) (k c : ℕ) (o : Option X) → k < length entries → ((d : Entry) → (let e = get_or entries k d in c ≡ e.child))
      → o ≡ find (is_wanted form wanted) (tree_records form b c level) → is_some o ≡ false
      → find (is_wanted form wanted) (flat_map under (drop (k + 1) entries)) ≡ find (is_wanted form wanted) (flat_map under (drop k entries))
  found_after wanted k c o within child is none = none_found o _ none ∙ next_child wanted k c o within child is

  -- nothing that is wanted is under a child
  pub nothing_under : (wanted : Wanted X) (k : ℕ) → k < length entries
      → ((d : Entry) → (let e = get_or entries k d in None ≡ find (is_wanted form wanted) (tree_records form b e.child level)))
      → find (is_wanted form wanted) (flat_map under (drop (k + 1) entries)) ≡ find (is_wanted form wanted) (flat_map under (drop k entries))
  nothing_under wanted k within none =
      let d : Entry = record { key = []; child = 0 } in
      next_child wanted k _ None within (λ e. ap (λ (entry : Entry). entry.child) (get_or_default entries k d e within)) (none d)

  high_under : (k : ℕ) (d : Entry) → k < length entries
      → (let e = get_or entries k d in All (λ (x : X). IsUpTo (form.high_of x) (drop form.low (key_held form (tree_held form b) level e.child))) (under e))
  unfolding AreRowsOf
  high_under k d within =
      high_all form laws (site_of b) (block_at b) (tree_held form b) (min_records form level) level (flat_map (named_below (tree_held form b)) node.row) _ node.rows.2
      (child_in_row form laws (site_of b) (block_at b) (tree_held form b) node.row n k d node.within within)

  key_read : (k : ℕ) (d : Entry) → k < length entries → (let e = get_or entries k d in e.key ≡ key_in form k (block_at b n))
  key_read k d within = ap (λ (e : Entry). e.key) (entry_read form (block_at b n) k d (omega (arith, length-entries form (block_at b n))))

  held_key : (k : ℕ) (d : Entry) → k < length entries
      → (let e = get_or entries k d in key_held form (tree_held form b) level e.child ≡ key_in form k (block_at b n))
  held_key k d within = sym (named k d within) ∙ key_read k d within

  low_is : (k : ℕ) (d : Entry) (within : k < length entries)
      → (let child = first_under k d within in form.low_of child.first ≡ low_key_in form k (block_at b n))
  low_is k d within = let child = first_under k d within in sym child.key ∙ ap (take form.low) (held_key k d within)

  before_next : (k : ℕ) (d : Entry) (more : Bool) → k < length entries → nat_lt (k + 1) (count_in (block_at b n)) ≡ more
      → (let e = get_or entries k d in All (λ (x : X). IfSome (if more then Some (low_key_in form (k + 1) (block_at b n)) else None) (λ key. IsBeforeKey form x key)) (under e))
  before_next k d false within is m x inside = tt
  before_next k d true within is m x inside =
      let next : suc k < length entries = omega (arith, below_if (k + 1) (count_in (block_at b n)) is, length-entries form (block_at b n)) in
      let one : suc k ≡ k + 1 = omega arith in
      let child = first_under (suc k) d next in
      record {
        next = child.first;
        valid = first_good (suc k) d next;
        low = low_is (suc k) d next ∙ ap (λ (i : ℕ). low_key_in form i (block_at b n)) one;
        less = pairs_next (λ (a c : X). form.order a c ≡ Less) under entries k d child.first child.others all_ascend next child.records m x inside;
        agrees = pairs_next (λ (a c : X). form.agree a c ≡ true) under entries k d child.first child.others all_agree next child.records m x inside;
      }

  -- what the keys of the node say of the records under a child
  pub keys_tell : (k : ℕ) (d : Entry) → k < length entries
      → (let e = get_or entries k d in let bytes = block_at b n in All (IsUnderKeys form (low_key_in form k bytes) (high_key_in form k bytes) (low_key_from form (k + 1) bytes)) (under e))
  keys_tell k d within m x inside =
      let own = child_under k d within in
      let child = first_under k d within in
      record {
        valid = own.valid m x inside;
        from = ap is_lt (ap (form.key_order (get_or (under (get_or entries k d)) m x)) (sym (low_is k d within)) ∙ laws.keys_follow _ child.first (first_good k d within))
            ∙ (subst (All (λ (y : X). is_lt (form.order y child.first) ≡ false)) (sym child.records)
            (first_least form laws child.first child.others (subst (AllPairs (λ (a c : X). form.order a c ≡ Less)) child.records own.ascend))) m x inside;
        up_to = subst (λ (key : List ℕ). IsUpTo (form.high_of (get_or (under (get_or entries k d)) m x)) (drop form.low key)) (held_key k d within)
            (high_under k d within m x inside);
        before = before_next k d (nat_lt (k + 1) (count_in (block_at b n))) within refl m x inside;
      }
