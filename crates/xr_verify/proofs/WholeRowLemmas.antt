-- Trees that are visited are those of their rows, and the other way round.
use Rattle.std.proofs.Common.{◌≡◌, ℕ, zero, suc, ◌+◌, ◌^◌, ◌<◌, ◌≤◌, ◌&&◌, Bool, true, false, if◌then◌else◌, IfSome, Option, Some, None, List, [], ◌∷◌, ◌++◌, length, refl, subst, arith, ⊎_elim}
use Rattle.std.specs.Bool.{⊤}
use Rattle.std.proofs.lemmas.Bool.{cases_eq}
use Rattle.std.proofs.lemmas.List.{length-append, length-map}
use Rattle.std.specs.List.{flat_map}
use Rattle.xr_block.specs.Checks.{IsCheckedNode, left_in, place_in, right_in}
use Rattle.xr_kinds.specs.Form.{Form, IsForm, pointer_size}
use Rattle.xr_pool.specs.Overlay.{AreKnown, Blocks, block_at, is_free, pool_size}
use Rattle.xr_block.specs.Rows.{AreLinked, AreNamed, AreRowsOf, IsWholeLeaf, IsWholeNode, first_of, min_records, rows_from}
use Rattle.xr_block.specs.Tree.{IsUsed, blocks_of, site_of, tree_held}
use Rattle.xr_block.specs.TreeBlock.{Entry, Place, entries_in}
use Rattle.xr_verify.specs.Visits.{AreTrees, AreVisited, children, is_end, HasChildren, HasOwnKeys, IsChecked}
use Rattle.xr_block.specs.CheckLaws.{Names}
use Rattle.xr_block.specs.ItemCheckLaws.{leaf_read, leaf_checked, leaf_whole, node_read, node_checked, node_whole}
use Rattle.xr_block.specs.TimesLaws.{times_more, times_other, times_same, times-append}
use Rattle.xr_verify.proofs.VisitLemmas.{min_records_fit}
use Rattle.xr_block.specs.Times.{times}

-- all of some blocks are used
abbrev pub AreUsed : Blocks → List ℕ → Type 0
AreUsed b blocks = (n : ℕ) → 1 ≤ times n blocks → IsUsed (is_free b) (pool_size b) n

ended_if : (ns : List ℕ) (right : Option ℕ) → right ≡ first_of ns None → (is_end ns && true) ≡ true → right ≡ None
ended_if [] right is end = is
ended_if (n ∷ ns) right is end = let lie : false ≡ true = end in absurd cc

named_small : (long : Bool) (n : ℕ) → n < 2 ^ 31 → Names (if long then 8 else 4) (Some n)
named_small true n small = omega arith
named_small false n small = omega arith

module _ {X : Type 0} (form : Form X) (laws : IsForm form) (b : Blocks) (known : AreKnown b) where
  -- a block is whole at a place of a level
  abbrev pub IsWholeAt : ℕ → ℕ → Place → List ℕ → Type 0
  IsWholeAt least zero = IsWholeLeaf form (site_of b) (tree_held form b) least
  IsWholeAt least (suc level) = IsWholeNode form (site_of b) (tree_held form b) least

  whole_at : (least level n : ℕ) → n < pool_size b → IsChecked form b least level n
      → IsWholeAt least level (place_in form n level (block_at b n)) (block_at b n)
  whole_at least zero n within tested =
      let block = known.whole n within in leaf_whole form laws (site_of b) least n (block_at b n) known.identified block.long block.are_bytes tested
  whole_at least (suc level) n within tested =
      let block = known.whole n within in
      node_whole form laws (site_of b) least n (suc level) (block_at b n) known.identified block.long block.are_bytes tested

  abbrev pub IsReadAt : ℕ → ℕ → Place → Type 0
  IsReadAt least level place =
      IsChecked form b least level place.number × (left_in form (block_at b place.number) ≡ place.left) × (right_in form (block_at b place.number) ≡ place.right)

  read_at : (least level : ℕ) (place : Place) → place.number < pool_size b → place.level ≡ level → level < 2 ^ 16
      → Names (pointer_size form) place.left → Names (pointer_size form) place.right → IsWholeAt least level place (block_at b place.number)
      → IsReadAt least level place
  read_at least zero place within low few left right whole =
      let read = leaf_read form laws (site_of b) least place (block_at b place.number) known.identified whole in
      (leaf_checked form laws (site_of b) least place (block_at b place.number) known.identified low whole, read.same_left left, read.same_right right)
  read_at least (suc level) place within same few left right whole =
      let block = known.whole place.number within in
      let node = node_read form laws (site_of b) least place (block_at b place.number) known.identified block.long whole in
      let tested = node_checked form laws (site_of b) least place (block_at b place.number) known.identified block.long (omega (arith, same, few)) whole in (
        subst (λ (l : ℕ). IsCheckedNode form (site_of b) least place.number l (block_at b place.number)) same tested,
        node.read.same_left left,
        node.read.same_right right,
      )

  -- a row that is visited
  right_of_row : (least level : ℕ) (left : Option ℕ) (n : ℕ) (ns : List ℕ) → AreVisited form b least level left true (n ∷ ns)
      → right_in form (block_at b n) ≡ first_of ns None
  unfolding AreVisited
  right_of_row least level left n [] visited = visited.0.linked.ended refl
  right_of_row least level left n (m ∷ ms) visited = visited.1.0.linked.back.1

  linked_from : (least level : ℕ) (left : Option ℕ) (row : List ℕ) → AreVisited form b least level left true row
      → AreLinked (IsWholeAt least level) (block_at b) level left row None
  unfolding AreVisited AreLinked
  linked_from least level left [] visited = tt
  linked_from least level left (n ∷ ns) visited =
      let whole = whole_at least level n visited.0.used.below visited.0.tested in (
        subst (λ (right : Option ℕ). IsWholeAt least level (record { number = n; level = level; left = left; right = right }) (block_at b n))
            (right_of_row least level left n ns visited)
            (subst (λ (l : Option ℕ). IsWholeAt least level (record { number = n; level = level; left = l; right = right_in form (block_at b n) }) (block_at b n))
            visited.0.linked.left_is whole),
        linked_from least level (Some n) ns visited.1,
      )

  used_from : (least level : ℕ) (left : Option ℕ) (last : Bool) (row : List ℕ) → AreVisited form b least level left last row → AreUsed b row
  unfolding AreVisited
  used_from least level left last [] visited n some = absurd (omega (arith, some))
  used_from least level left last (m ∷ ms) visited n some = ⊎_elim
      (λ (same : m ≡ n). subst (IsUsed (is_free b) (pool_size b)) same visited.0.used)
      (λ (other : m ≡ n → ⊥). used_from least level (Some m) last ms visited.1 n (omega (arith, some, times_other n m ms other)))
      (cases_eq m n)

  named_from : (least level : ℕ) (left : Option ℕ) (last : Bool) (row : List ℕ) → AreVisited form b least (suc level) left last row
      → AreNamed form (tree_held form b) level row
  unfolding AreVisited AreNamed
  named_from least level left last [] visited = tt
  named_from least level left last (n ∷ ns) visited = (visited.0.named, named_from least level (Some n) last ns visited.1)

  -- each block of a row is named by level
  abbrev pub AreNamedAt : ℕ → List ℕ → Type 0
  AreNamedAt level [] = ⊤
  AreNamedAt level (n ∷ ns) = HasOwnKeys form b level n × AreNamedAt level ns

  none_named : (row : List ℕ) → AreNamedAt zero row
  none_named [] = tt
  none_named (n ∷ ns) = (tt, none_named ns)

  named_at : (level : ℕ) (row : List ℕ) → AreNamed form (tree_held form b) level row → AreNamedAt (suc level) row
  unfolding AreNamed
  named_at level [] named = tt
  named_at level (n ∷ ns) named = (named.0, named_at level ns named.1)

  pointer_named : (n : ℕ) → n < pool_size b → Names (pointer_size form) (Some n)
  pointer_named n within = named_small form.long n (omega (arith, within, known.small))

  first_named : (ns : List ℕ) → AreUsed b ns → Names (pointer_size form) (first_of ns None)
  first_named [] used = tt
  first_named (n ∷ ns) used = pointer_named n (used n (omega (arith, times_same n ns))).below

  visited_from : (least level : ℕ) (left : Option ℕ) (row : List ℕ) → level < 2 ^ 16 → AreUsed b row → AreNamedAt level row
      → Names (pointer_size form) left → IfSome left (λ m. (m < pool_size b) × (right_in form (block_at b m) ≡ first_of row None))
      → AreLinked (IsWholeAt least level) (block_at b) level left row None → AreVisited form b least level left true row
  unfolding AreVisited AreLinked
  visited_from least level left [] few used named small back linked = tt
  visited_from least level left (n ∷ ns) few used named small back linked =
      let own = used n (omega (arith, times_same n ns)) in
      let rest : AreUsed b ns = λ k some. used k (omega (arith, some, times_more k n ns)) in
      let read = read_at least level (record { number = n; level = level; left = left; right = first_of ns None }) own.below refl few small (first_named ns rest) linked.0 in (
        record {
          used = own;
          tested = read.0;
          linked = record { left_is = read.1; back = back; ended = ended_if ns (right_in form (block_at b n)) read.2 };
          named = named.0;
        },
        visited_from least level (Some n) ns few rest named.1 (pointer_named n own.below) (own.below, read.2) linked.1,
      )

  split_used : (xs ys : List ℕ) → AreUsed b (xs ++ ys) → AreUsed b xs × AreUsed b ys
  split_used xs ys used = (
    λ n some. used n (omega (arith, some, times-append n xs ys)),
    λ n some. used n (omega (arith, some, times-append n xs ys)),
  )

  both_used : (xs ys : List ℕ) → AreUsed b xs → AreUsed b ys → AreUsed b (xs ++ ys)
  both_used xs ys first second n some = ⊎_elim
      (λ (none : times n xs ≡ 0). second n (omega (arith, some, none, times-append n xs ys)))
      (λ (found : times n xs ≡ 0 → ⊥). first n (omega (arith, found)))
      (cases_eq (times n xs) 0)

  -- trees and their rows
  pub trees_whole : (least level : ℕ) (row : List ℕ) → AreTrees form b least level None true row
      → AreRowsOf form (site_of b) (block_at b) (tree_held form b) least level row × AreUsed b (blocks_of form b level row)
  unfolding AreTrees AreRowsOf rows_from
  trees_whole least zero row trees =
      (linked_from least zero None row trees, both_used row [] (used_from least zero None true row trees) (λ n some. absurd (omega (arith, some))))
  trees_whole least (suc level) row trees =
      let rest = trees_whole (min_records form level) level (flat_map (children form b) row) trees.1 in (
        (linked_from least (suc level) None row trees.0, named_from least level None true row trees.0, rest.0),
        both_used row (blocks_of form b level (flat_map (children form b) row)) (used_from least (suc level) None true row trees.0) rest.1,
      )

  pub rows_whole : (least level : ℕ) (row : List ℕ) → level < 2 ^ 16 → AreUsed b (blocks_of form b level row)
      → AreRowsOf form (site_of b) (block_at b) (tree_held form b) least level row → AreTrees form b least level None true row
  unfolding AreTrees AreRowsOf rows_from
  rows_whole least zero row few used rows = visited_from least zero None row few (split_used row [] used).0 (none_named row) tt tt rows
  rows_whole least (suc level) row few used rows =
      let parts = split_used row (blocks_of form b level (flat_map (children form b) row)) used in (
        visited_from least (suc level) None row few parts.0 (named_at level row rows.1) tt tt rows.0,
        rows_whole (min_records form level) level (flat_map (children form b) row) (omega (arith, few)) parts.1 rows.2,
      )

  -- each level has a block
  first_children : (least level : ℕ) (row : List ℕ) → 1 ≤ least → 1 ≤ length row
      → AreLinked (IsWholeAt least (suc level)) (block_at b) (suc level) None row None → 1 ≤ length (flat_map (children form b) row)
  unfolding AreLinked
  first_children least level [] some long linked = absurd (omega (arith, long))
  first_children least level (n ∷ ns) some long linked =
      omega (
        arith,
        some,
        linked.0.least_items,
        length-map (entries_in form (block_at b n)) (λ (e : Entry). e.child),
        length-append (children form b n) (flat_map (children form b) ns),
      )

  pub rows_many : (least level : ℕ) (row : List ℕ) → HasChildren least level → 1 ≤ length row
      → AreRowsOf form (site_of b) (block_at b) (tree_held form b) least level row → level + 1 ≤ length (blocks_of form b level row)
  unfolding AreRowsOf rows_from
  rows_many least zero row fits long rows = omega (arith, long, length-append row [])
  rows_many least (suc level) row fits long rows =
      let below : List ℕ = flat_map (children form b) row in
      omega (
        arith,
        long,
        length-append row (blocks_of form b level below),
        rows_many (min_records form level) level below (min_records_fit form laws level) (first_children least level row fits long rows.0) rows.2,
      )
