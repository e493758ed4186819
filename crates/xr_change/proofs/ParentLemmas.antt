-- What is known of a node of a tree and of its children before they are changed, and that few levels stand below it.
use Rattle.std.proofs.Common.{◌≡◌, ℕ, zero, suc, ◌+◌, ◌^◌, ◌<◌, ◌≤◌, Some, None, List, [], ◌∷◌, ◌++◌, length, take, drop, refl, sym, ap, ◌∙◌, subst, arith}
use Rattle.std.proofs.lemmas.Bool.Decides.{nat_tests}
use Rattle.std.proofs.lemmas.List.{length-append, length-map}
use Rattle.std.specs.List.{last_or}
use Rattle.xr_block.specs.TimesLaws.{all_of, distinct_of, few_of, times_same}
use Rattle.xr_kinds.specs.Form.{Form, IsForm}
use Rattle.xr_pool.specs.Overlay.{Blocks, block_at, is_free, pool_size, AreKnown}
use Rattle.xr_block.specs.Rows.{AreLinked, first_of, min_records, named_below, rows_from}
use Rattle.xr_block.specs.Times.{times}
use Rattle.xr_block.specs.Tree.{IsUsed, blocks_of, site_of, tree_held}
use Rattle.xr_block.specs.TreeBlock.{Entry, Place, entries_in}
use Rattle.xr_change.proofs.RowItemLemmas.{block_whole, row_whole}
use Rattle.xr_change.proofs.BlockInTreeLemmas.{is_under}
use Rattle.xr_change.proofs.SiblingLemmas.{block_of, names_small, read_of}
use Rattle.xr_change.proofs.NodeContextLemmas.{counted, last_within, next_within, row_has, row_parts, rows_among}
use Rattle.xr_change.proofs.DescentLemmas.{child_in_rows, row_around}
use Rattle.xr_change.proofs.RowBlockLemmas.{below, children, times_below, times_row}
use Rattle.xr_change.proofs.WriteLemmas.{two_around}
use Rattle.xr_change.specs.Alters.{AreRowsIn, IsWholeAt}
use Rattle.xr_change.specs.Regroups.{IsBlockOf, IsBetweenSiblings, rows_below, items_held, place_named}
use Rattle.xr_change.specs.Paths.{IsInTree, IsChildAt, child_of}
use Rattle.xr_block.specs.Edits.{IsNodeOf}
use Rattle.xr_block.specs.DescentLaws.{node_few}
use Rattle.xr_block.specs.UnderLaws.{min_records_some}
use Rattle.xr_block.specs.Checks.{left_in, right_in}
use Rattle.xr_block.specs.NodeEntryLaws.{length-entries}

last_of : (row : List ℕ) (q : ℕ) → last_or None row ≡ Some q → 1 ≤ times q row
last_of [] q is = absurd cc
last_of (x ∷ xs) q is = last_within x xs q is

module _ {X : Type 0} (form : Form X) (laws : IsForm form) (b : Blocks) (known : AreKnown b) where
  -- each level from a row on down has a block
  deep : (least level : ℕ) (row : List ℕ) → 1 ≤ least → AreRowsIn form b least level row → 1 ≤ length row → suc level ≤ length (blocks_of form b level row)
  unfolding rows_from IsWholeAt
  deep least zero row some rows long = omega (arith, long, length-append row [])
  deep least (suc level) [] some rows long = absurd (omega (arith, long))
  deep least (suc level) (x ∷ xs) some rows long =
      let row : List ℕ = x ∷ xs in
      let whole = row_whole form laws b known least (suc level) row rows x (omega (arith, times_same x xs)) in
      let first : length (named_below (tree_held form b) x) ≡ length (entries_in form (block_at b x)) =
      length-map (entries_in form (block_at b x)) (λ (e : Entry). e.child) in
      let next = deep (min_records form level) level (children form b row) (omega (arith, min_records_some form laws level)) (below form b least level row rows)
      (omega (arith, some, whole.least_items, first, length-append (named_below (tree_held form b) x) (children form b xs))) in
      omega (arith, next, length-append row (blocks_of form b level (children form b row)))

  pub level_small : (least level : ℕ) (row : List ℕ) → 1 ≤ least → AreRowsIn form b least level row → 1 ≤ length row → level + 1 < 2 ^ 16
  level_small least level row some rows long =
      let blocks : List ℕ = blocks_of form b level row in
      let few = few_of blocks (pool_size b) (distinct_of blocks rows.once) (all_of (λ (m : ℕ). m < pool_size b) blocks (λ m there. (rows.owned m there).below)) in
      omega (arith, few, known.small, deep least level row some rows long)

-- a child of a node
pub record IsChild {X : Type 0} (form : Form X) (b : Blocks) (level n c : ℕ) : Type 0 where
  pub used : IsUsed (is_free b) (pool_size b) c
  pub apart : c ≡ n → ⊥
  pub placed : IsBetweenSiblings form b level c
  -- and the block after it in its level
  pub next_used : (q : ℕ) → right_in form (block_at b c) ≡ Some q → IsUsed (is_free b) (pool_size b) q
  pub next_apart : (q : ℕ) → right_in form (block_at b c) ≡ Some q → q ≡ n → ⊥

-- two children, one after the other
pub record ArePair {X : Type 0} (form : Form X) (b : Blocks) (level n c d : ℕ) : Type 0 where
  pub first : IsChild form b level n c
  pub second : IsChild form b level n d
  pub apart : c ≡ d → ⊥
  pub next_apart : (q : ℕ) → right_in form (block_at b d) ≡ Some q → q ≡ c → ⊥

module _ {X : Type 0} (form : Form X) (laws : IsForm form) (a : Blocks) (level n k c : ℕ) where
  pub kth_of : AreKnown a → IsInTree form a (suc level) n → k < length (entries_in form (block_at a n)) → c ≡ child_of form a n k → IsChildAt form a level n k c
  kth_of known here within is =
      let few = node_few form laws a (suc level) level n refl (is_under form a (suc level) n here) in
      let counted = length-entries form (block_at a n) in
      record { known = known; here = here; within = within; few = omega (arith, few, counted); small = omega (arith, few, counted, laws.node_few); is = is }

  module _ (kth : IsChildAt form a level n k c) where
    abbrev at : IsInTree form a (suc level) n
    at = kth.here

    abbrev left : List ℕ
    left = children form a at.pre ++ take k (named_below (tree_held form a) n)

    abbrev right : List ℕ
    right = drop (suc k) (named_below (tree_held form a) n) ++ children form a at.post

    rows_here : AreRowsIn form a (min_records form level) level (left ++ ((c ∷ []) ++ right))
    rows_here =
        subst (λ (m : ℕ). AreRowsIn form a (min_records form level) level (left ++ (m ∷ right))) (sym kth.is) (child_in_rows form a level n k at kth.within)

    row_is : children form a (at.pre ++ n ∷ at.post) ≡ left ++ ((c ∷ []) ++ right)
    row_is = subst (λ (m : ℕ). children form a (at.pre ++ n ∷ at.post) ≡ left ++ (m ∷ right)) (sym kth.is) (row_around form a level n k at kth.within)

    pub kth_used : IsUsed (is_free a) (pool_size a) n
    kth_used = at.rows.owned n (omega (arith, row_has n n at.pre at.post refl, times_row form a n (suc level) (at.pre ++ n ∷ at.post)))

    pub kth_node : IsNodeOf form (site_of a) (place_named form a (suc level) n) (entries_in form (block_at a n)) (block_at a n)
    unfolding IsBlockOf items_held
    kth_node =
        block_whole form laws a (suc level) at.least (place_named form a (suc level) n) kth.known.identified (kth.known.whole n kth_used.below)
        (row_whole form laws a kth.known at.least (suc level) (at.pre ++ n ∷ at.post) at.rows n (row_has n n at.pre at.post refl))

    here : (m : ℕ) → times m (blocks_of form a level (left ++ ((c ∷ []) ++ right))) ≡ (times m left + (times m (c ∷ []) + times m right)) + times m
        (rows_below form a level (left ++ ((c ∷ []) ++ right)))
    here = counted form a level left (c ∷ []) right rows_here

    -- the node stands in no row of its children's
    pub apart_from : (m : ℕ) → 1 ≤ times m (blocks_of form a level (children form a (at.pre ++ n ∷ at.post))) → m ≡ n → ⊥
    apart_from m some same = absurd (omega (arith, some, row_has m n at.pre at.post same, times_below form a m level (at.pre ++ n ∷ at.post), at.rows.once m))

    apart_here : (m : ℕ) → 1 ≤ times m (blocks_of form a level (left ++ ((c ∷ []) ++ right))) → m ≡ n → ⊥
    apart_here m some = apart_from m (omega (arith, some, ap (λ (ms : List ℕ). times m (blocks_of form a level ms)) row_is))

    child_used : IsUsed (is_free a) (pool_size a) c
    child_used = rows_here.owned c (omega (arith, times_same c [], here c))

    -- the left sibling that it names
    left_below : (q : ℕ) → left_in form (block_at a c) ≡ Some q → q < pool_size a
    unfolding AreLinked
    left_below q is =
        let place : Place = record { number = c; level = level; left = last_or None left; right = first_of right None } in
        let near = λ (m : ℕ) (last : last_or None left ≡ Some m). (rows_here.owned m (omega (arith, last_of left m last, here m))).below in
        let whole = (row_parts form a level left (c ∷ []) right rows_here).1.0 in
        let read = read_of form laws a kth.known place (block_of form laws a kth.known (min_records form level) level place child_used.below whole) in
        near q (sym (read.same_left (names_small form.long place.left (λ m last. omega (arith, near m last, kth.known.small)))) ∙ is)

    pub kth_child : IsChild form a level n c
    kth_child =
        let next = next_within form a level left (c ∷ []) right rows_here c [] refl c refl laws kth.known in
        record {
          used = child_used;
          apart = apart_here c (omega (arith, times_same c [], here c));
          placed = record {
            below = child_used.below;
            whole = row_whole form laws a kth.known (min_records form level) level (left ++ ((c ∷ []) ++ right)) rows_here c (row_has c c left right refl);
            left_below = left_below;
            right_below = λ q is. (rows_here.owned q (omega (arith, next q is, here q))).below;
            right_apart = λ q is same. grind (arith, nat_tests, same, next q is, here q, rows_here.once q);
          };
          next_used = λ q is. rows_here.owned q (omega (arith, next q is, here q));
          next_apart = λ q is. apart_here q (omega (arith, next q is, here q));
        }

    pub kth_level : level < 2 ^ 16
    kth_level =
        let long : 1 ≤ length (left ++ c ∷ right) = omega (arith, length-append left (c ∷ right)) in
        let small = level_small form laws a kth.known (min_records form level) level (left ++ c ∷ right) (min_records_some form laws level) rows_here long in
        omega (arith, small)

module _ {X : Type 0} (form : Form X) (laws : IsForm form) (a : Blocks) (level n k c d : ℕ) (kth : IsChildAt form a level n k c) (next : IsChildAt form a level n (k + 1) d) where
  abbrev cs : List ℕ
  cs = named_below (tree_held form a) n

  pub pair_around : cs ≡ take k cs ++ ((c ∷ d ∷ []) ++ drop (k + 2) cs)
  pair_around = two_around cs k c d (omega (arith, next.within, length-map (entries_in form (block_at a n)) (λ (e : Entry). e.child))) (sym kth.is) (sym next.is)

  pair_rows : AreRowsIn form a (min_records form level) level ((children form a kth.here.pre ++ take k cs) ++ ((c ∷ d ∷ []) ++ (drop (k + 2) cs ++ children form a kth.here.post)))
  pair_rows = rows_among form a n (take k cs) (c ∷ d ∷ []) (drop (k + 2) cs) pair_around kth.here.pre kth.here.post kth.here.least level kth.here.rows

  pub kth_pair : ArePair form a level n c d
  kth_pair =
      let left : List ℕ = children form a kth.here.pre ++ take k cs in
      let right : List ℕ = drop (k + 2) cs ++ children form a kth.here.post in
      let here = counted form a level left (c ∷ d ∷ []) right pair_rows in
      record {
        first = kth_child form laws a level n k c kth;
        second = kth_child form laws a level n (k + 1) d next;
        apart = λ same. grind (arith, nat_tests, same, here d, pair_rows.once d);
        next_apart = λ q is same.
            let there = next_within form a level left (c ∷ d ∷ []) right pair_rows c (d ∷ []) refl d refl laws kth.known q is in
            grind (arith, nat_tests, same, there, here q, pair_rows.once q);
      }
