-- What is known of a block of a tree that a search comes to: a leaf or a node whose items a bound parts, and children to
-- which the same applies.
use Rattle.std.proofs.Common.{◌≡◌, ℕ, zero, suc, ◌+◌, ◌<◌, ◌≤◌, true, None, List, [], length, take, get_or, refl, sym, ap, ◌∙◌, subst, arith}
use Rattle.std.proofs.lemmas.List.Elements.{All-contains}
use Rattle.std.specs.Cmp.{IsTotalOrder, alike_right}
use Rattle.std.specs.List.{All, AllPairs, concat, flat_map}
use Rattle.std.specs.Ordering.{is_ge, is_gt, is_le, is_lt, ordering_reverse}
use Rattle.std.specs.declared.cmp.Ordering.{Ordering}
use Rattle.std.specs.declared.cmp.Ordering.TheVariants.{Less, Equal, Greater}
use Rattle.xr_block.specs.declared.bound.Bound.{Bound}
use Rattle.xr_block.specs.declared.bound.Bound.TheVariants.{Start, Before, After}
use Rattle.xr_block.specs.Bounds.{IsParted, entry_is_before, is_before, key_is_before}
use Rattle.xr_kinds.specs.Form.{Form, IsForm}
use Rattle.xr_block.specs.Leaf.{IsLeaf}
use Rattle.xr_block.specs.NodeEntries.{child_in}
use Rattle.xr_block.specs.NodeEntryLaws.{count_of_block, entry_read, length-entries}
use Rattle.xr_pool.specs.Overlay.{Blocks, block_at, pool_size}
use Rattle.xr_block.specs.Rows.{key_held, AreRowsOf, IsWholeLeaf, IsWholeNode, min_records, named_below, rows_from}
use Rattle.xr_block.specs.Tree.{site_of, tree_held, tree_records}
use Rattle.xr_block.specs.TreeBlock.{Entry, count_in, entries_in, records_in}
use Rattle.xr_block.specs.Under.{IsUnder}
use Rattle.xr_block.specs.UnderLaws.{HasFirst, child_in_row, min_records_some, has_first, leaf_records, linked_at, named_at, node_records}
use Rattle.xr_block.specs.PartLaws.{Begins, all_of_part, all_left, all_right, pairs_of_part, parted}

pub less_if : (o : Ordering) → is_lt o ≡ true → o ≡ Less
less_if Less is = refl
less_if Equal is = cc
less_if Greater is = cc

pub lower_too : {X : Type 0} (order : X → X → Ordering) (total : IsTotalOrder order) (x y r : X) (o : Ordering) → order y r ≡ o → is_le o ≡ true
    → order x y ≡ Less → order x r ≡ Less
lower_too order total x y r Less at is less = total.trans x y r less at
lower_too order total x y r Equal at is less = sym (alike_right total y r x at) ∙ less
lower_too order total x y r Greater at is less = cc

turned : (o : Ordering) → (is_gt (ordering_reverse o) ≡ is_lt o) × (is_ge (ordering_reverse o) ≡ is_le o)
turned Less = (refl, refl)
turned Equal = (refl, refl)
turned Greater = (refl, refl)

module _ {X : Type 0} (form : Form X) (laws : IsForm form) where
  -- what is less than a record before a place stands before it too
  pub falls : (bound : Bound X) (x y : X) → form.order x y ≡ Less → is_before form bound y ≡ true → is_before form bound x ≡ true
  falls Start x y less is = is
  falls (Before r) x y less is = ap is_lt (laws.total.trans x y r less (less_if (form.order y r) is))
  falls (After r) x y less is = ap is_le (lower_too form.order laws.total x y r (form.order y r) refl is less)

  -- a key tells of the record that it is from
  key_tells : (bound : Bound X) (f : X) → form.is_valid f ≡ true → key_is_before form bound (form.low_of f) ≡ is_before form bound f
  key_tells Start f good = refl
  key_tells (Before r) f good =
      let both = turned (form.order f r) in ap is_gt (laws.keys_follow r f good ∙ laws.total.antisymm r f) ∙ both.0
  key_tells (After r) f good =
      let both = turned (form.order f r) in ap is_ge (laws.keys_follow r f good ∙ laws.total.antisymm r f) ∙ both.1

-- the block is one of the pool
pub in_pool : {X : Type 0} (form : Form X) (b : Blocks) (level n : ℕ) → IsUnder form b level n → n < pool_size b
unfolding rows_from
in_pool form b zero n under =
    All-contains (λ (m : ℕ). m < pool_size b) under.row n (all_left (λ (m : ℕ). m < pool_size b) under.row [] under.own) under.within
in_pool form b (suc level) n under =
    All-contains (λ (m : ℕ). m < pool_size b) under.row n (all_left (λ (m : ℕ). m < pool_size b) under.row _ under.own) under.within

module _ {X : Type 0} (form : Form X) (laws : IsForm form) (b : Blocks) (n : ℕ) (here : IsUnder form b 0 n) where
  pub leaf_is : IsLeaf form (block_at b n)
  unfolding AreRowsOf
  leaf_is =
      let linked = linked_at (IsWholeLeaf form (site_of b) (tree_held form b) here.least) (block_at b) 0 None here.row None n here.rows here.within in
      let m : ℕ = linked.0.number in
      let whole = linked.2 in
      let records : List X = records_in form (block_at b m) in
      let count : count_in (block_at b m) ≡ length records =
      ap count_in whole.whole ∙ count_of_block form (site_of b) linked.0 (length records) (flat_map form.bytes_of records)
      (omega (arith, whole.most_items, laws.leaf_few)) in
      subst (λ (k : ℕ). IsLeaf form (block_at b k)) linked.1 (record { counted = sym count; few = omega (arith, count, whole.most_items) })

  pub leaf_parted : (bound : Bound X) → IsParted (is_before form bound) (records_in form (block_at b n))
  leaf_parted bound i j d before within =
      falls form laws bound _ _ ((subst (AllPairs (λ (x y : X). form.order x y ≡ Less)) (leaf_records (tree_held form b) n) here.ascend) i j d before within)

module _ {X : Type 0} (form : Form X) (laws : IsForm form) (b : Blocks) (top level n : ℕ) (above : top ≡ suc level) (of_top : IsUnder form b top n) where
  pub node : IsUnder form b (suc level) n
  node = subst (λ (l : ℕ). IsUnder form b l n) above of_top

  abbrev entries : List Entry
  entries = entries_in form (block_at b n)

  abbrev under : Entry → List X
  under e = tree_records form b e.child level

  pub node_few : count_in (block_at b n) ≤ form.node_max
  unfolding AreRowsOf
  node_few =
      let linked = linked_at (IsWholeNode form (site_of b) (tree_held form b) node.least) (block_at b) (suc level) None node.row None n node.rows.0 node.within in
      let whole = linked.2 in
      subst (λ (m : ℕ). count_in (block_at b m) ≤ form.node_max) linked.1
      (omega (arith, whole.most_items, length-entries form (block_at b linked.0.number)))

  pub node_holds : tree_records form b n top ≡ flat_map under entries
  node_holds = ap (tree_records form b n) above ∙ node_records (tree_held form b) level n

  pub all_ascend : AllPairs (λ (x y : X). form.order x y ≡ Less) (flat_map under entries)
  all_ascend = subst (AllPairs (λ (x y : X). form.order x y ≡ Less)) node_holds of_top.ascend

  -- a child of the node
  pub all_agree : AllPairs (λ (x y : X). form.agree x y ≡ true) (flat_map under entries)
  all_agree = subst (AllPairs (λ (x y : X). form.agree x y ≡ true)) node_holds of_top.agree

  pub child_under : (k : ℕ) (d : Entry) → k < length entries → (let e = get_or entries k d in IsUnder form b level e.child)
  unfolding AreRowsOf rows_from
  child_under k d within =
      let below : List ℕ = flat_map (named_below (tree_held form b)) node.row in
      record {
        least = min_records form level;
        row = below;
        within = child_in_row form laws (site_of b) (block_at b) (tree_held form b) node.row n k d node.within within;
        rows = node.rows.2;
        own = all_right (λ (m : ℕ). m < pool_size b) node.row (concat (rows_from (tree_held form b) level below)) node.own;
        valid = all_of_part (λ (r : X). form.is_valid r ≡ true) under entries k d
            (subst (All (λ (r : X). form.is_valid r ≡ true)) node_holds of_top.valid) within;
        ascend = pairs_of_part (λ (x y : X). form.order x y ≡ Less) under entries k d all_ascend within;
        agree = pairs_of_part (λ (x y : X). form.agree x y ≡ true) under entries k d all_agree within;
      }

  pub first_under : (k : ℕ) (d : Entry) → k < length entries → (let e = get_or entries k d in HasFirst form (tree_held form b) level e.child)
  unfolding AreRowsOf
  first_under k d within =
      has_first form laws (site_of b) (block_at b) (tree_held form b) (min_records form level) level (flat_map (named_below (tree_held form b)) node.row) _
      (min_records_some form laws level) node.rows.2 (child_in_row form laws (site_of b) (block_at b) (tree_held form b) node.row n k d node.within within)

  pub named : (k : ℕ) (d : Entry) → k < length entries → (let e = get_or entries k d in e.key ≡ key_held form (tree_held form b) level e.child)
  unfolding AreRowsOf
  named k d within = named_at form (tree_held form b) level node.row n node.rows.1 node.within k d within

  pub first_good : (k : ℕ) (d : Entry) (within : k < length entries) → (let first = first_under k d within in form.is_valid first.first ≡ true)
  first_good k d within =
      let child = first_under k d within in
      let own = child_under k d within in
      (subst (All (λ (r : X). form.is_valid r ≡ true)) child.records own.valid) 0 child.first (omega arith)

  pub begin : (bound : Bound X) → All (Begins under (entry_is_before form bound) (is_before form bound)) entries
  begin bound k d within =
      let child = first_under k d within in
      record {
        first = child.first;
        others = child.others;
        part = child.records;
        same = ap (λ (key : List ℕ). key_is_before form bound (take form.low key)) (named k d within)
            ∙ ap (key_is_before form bound) child.key ∙ key_tells form laws bound child.first (first_good k d within);
      }

  pub node_parted : (bound : Bound X) → IsParted (entry_is_before form bound) entries
  node_parted bound = parted (λ (x y : X). form.order x y ≡ Less) under (entry_is_before form bound) (is_before form bound) (falls form laws bound) entries (begin bound)
      all_ascend

-- the child that is read at a place of a node
pub child_is : {X : Type 0} (form : Form X) (laws : IsForm form) (b : Blocks) (level n k c : ℕ) (bytes : List ℕ) → IsUnder form b (level + 1) n
    → k < length (entries_in form (block_at b n)) → bytes ≡ block_at b n → c ≡ child_in form k bytes
    → ((d : Entry) → (let e = get_or (entries_in form (block_at b n)) k d in c ≡ e.child)) × IsUnder form b level c
child_is form laws b level n k c bytes node within same is =
    let child : (d : Entry) → (let e = get_or (entries_in form (block_at b n)) k d in c ≡ e.child) =
    λ d. is ∙ ap (child_in form k) same
    ∙ sym (ap (λ (e : Entry). e.child) (entry_read form (block_at b n) k d (omega (arith, length-entries form (block_at b n))))) in
    let none : Entry = record { key = []; child = 0 } in (
      child,
      subst (IsUnder form b level) (sym (child none)) (child_under form laws b (level + 1) level n (omega arith) node k none within),
    )
