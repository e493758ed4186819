-- Trees below some blocks of a level, one after the other: they are visited as one row where each is visited after the one
-- before it.
use Rattle.std.proofs.Common.{◌≡◌, ℕ, zero, suc, ◌+◌, ◌-◌, ◌<◌, ◌≤◌, ◌&&◌, Bool, true, false, nat_le, nat_lt, if◌then◌else◌, Option, Some, None, List, [], ◌∷◌, ◌++◌, length, get_or, refl, sym, ap, ◌∙◌, subst, arith}
use Rattle.std.proofs.lemmas.Grind.{flat_map-append}
use Rattle.std.proofs.lemmas.Bool.{le-leb, lt-ltb}
use Rattle.std.proofs.lemmas.List.{append-nil, append_assoc, get_or-map, length-map}
use Rattle.std.specs.List.{flat_map, last_or}
use Rattle.xr_block.specs.Checks.{IsCheckedNode}
use Rattle.xr_kinds.specs.Form.{Form, IsForm}
use Rattle.xr_block.specs.NodeEntries.{child_in}
use Rattle.xr_block.specs.NodeEntryLaws.{entry_read, length-entries}
use Rattle.xr_pool.specs.Overlay.{Blocks, block_at, pool_size}
use Rattle.xr_block.specs.Rows.{min_records, leaves_from, rows_from}
use Rattle.xr_block.specs.Tree.{blocks_of, records_of, site_of, tree_held}
use Rattle.xr_block.specs.TreeBlock.{Entry, count_in, entries_in}
use Rattle.xr_verify.specs.Visits.{AreTrees, AreVisited, IsVisited, children, is_end, last_below, HasChildren}
use Rattle.xr_verify.proofs.LastLemmas.{last_or-append, last_or-nth}
use Rattle.xr_block.specs.Times.{times}
use Rattle.xr_block.specs.TimesLaws.{times-append}

is_end-long : (xs ys : List ℕ) → 1 ≤ length xs → is_end (xs ++ ys) ≡ false
is_end-long [] ys some = absurd (omega arith)
is_end-long (x ∷ xs) ys some = refl

not_end : (xs ys : List ℕ) (last : Bool) → is_end ys ≡ false → (is_end (xs ++ ys) && last) ≡ (is_end xs && false)
not_end [] ys last more = rw more refl
not_end (x ∷ xs) ys last more = refl

last_or-long : (o : Option ℕ) (xs : List ℕ) (d : ℕ) → 1 ≤ length xs → last_or o xs ≡ Some (get_or xs (length xs - 1) d)
last_or-long o [] d some = absurd (omega arith)
last_or-long o (x ∷ xs) d some =
    last_or-nth o x xs d ∙ ap (λ (k : ℕ). Some (get_or (x ∷ xs) k d)) (let e : length xs ≡ length (x ∷ xs) - 1 = omega arith in e)

all_three : (one two three : Bool) (o : Option ℕ) → one ≡ true → two ≡ true → three ≡ true → (if one && two && three then o else None) ≡ o
all_three one two three o first second third = rw (first, second, third) refl

is_end-append : (xs ys : List ℕ) → is_end ys ≡ false → is_end (xs ++ ys) ≡ false
is_end-append [] ys more = more
is_end-append (x ∷ xs) ys more = refl

pub min_records_fit : {X : Type 0} (form : Form X) → IsForm form → (level : ℕ) → HasChildren (min_records form level) level
unfolding min_records
min_records_fit form laws zero = tt
min_records_fit form laws (suc level) = omega (arith, laws.node_some)

module _ {X : Type 0} (form : Form X) (b : Blocks) where
  -- the blocks and the records of trees that stand side by side
  pub times_blocks : (n level : ℕ) (xs ys : List ℕ) → times n (blocks_of form b level (xs ++ ys)) ≡ times n (blocks_of form b level xs) + times n (blocks_of form b level ys)
  unfolding rows_from
  times_blocks n zero xs ys =
      let joined : xs ++ ys ++ [] ≡ xs ++ [] ++ (ys ++ []) = append_assoc xs ys [] ∙ ap (λ (zs : List ℕ). zs ++ (ys ++ [])) (sym (append-nil xs)) in
      ap (times n) joined ∙ times-append n (xs ++ []) (ys ++ [])
  times_blocks n (suc level) xs ys =
      let all : List ℕ = blocks_of form b level (flat_map (children form b) (xs ++ ys)) in
      let split : times n all ≡ times n (blocks_of form b level (flat_map (children form b) xs)) + times n (blocks_of form b level (flat_map (children form b) ys)) =
      ap (λ (row : List ℕ). times n (blocks_of form b level row)) (flat_map-append (children form b) xs ys)
      ∙ times_blocks n level (flat_map (children form b) xs) (flat_map (children form b) ys) in
      times-append n (xs ++ ys) all
      ∙ omega (arith, split, times-append n xs ys, times-append n xs (blocks_of form b level (flat_map (children form b) xs)), times-append n ys (blocks_of form b level (flat_map (children form b) ys)))

  leaves_append : (level : ℕ) (xs ys : List ℕ)
      → leaves_from (tree_held form b) level (xs ++ ys) ≡ leaves_from (tree_held form b) level xs ++ leaves_from (tree_held form b) level ys
  unfolding leaves_from
  leaves_append zero xs ys = refl
  leaves_append (suc level) xs ys =
      ap (leaves_from (tree_held form b) level) (flat_map-append (children form b) xs ys) ∙ leaves_append level (flat_map (children form b) xs) (flat_map (children form b) ys)

  pub records_append : (level : ℕ) (xs ys : List ℕ) → records_of form b level (xs ++ ys) ≡ records_of form b level xs ++ records_of form b level ys
  records_append level xs ys =
      ap (flat_map (tree_held form b).records) (leaves_append level xs ys)
      ∙ flat_map-append (tree_held form b).records (leaves_from (tree_held form b) level xs) (leaves_from (tree_held form b) level ys)

  -- a whole node has a last child, and it is read
  pub node_children : (least level n : ℕ) → 1 ≤ least → IsCheckedNode form (site_of b) least n level (block_at b n)
      → (length (children form b n) ≡ count_in (block_at b n)) × (1 ≤ count_in (block_at b n)) × (count_in (block_at b n) ≤ form.node_max)
  node_children least level n some tested = (
    length-map (entries_in form (block_at b n)) (λ (e : Entry). e.child) ∙ length-entries form (block_at b n),
    omega (arith, some, tested.least_items),
    tested.most_items,
  )

  pub child_is : (n k d : ℕ) → k < count_in (block_at b n) → get_or (children form b n) k d ≡ child_in form k (block_at b n)
  child_is n k d within =
      let entry : Entry = record { key = []; child = d } in
      get_or-map (λ (e : Entry). e.child) (entries_in form (block_at b n)) k entry d (omega (arith, within, length-entries form (block_at b n)))
      ∙ ap (λ (e : Entry). e.child) (entry_read form (block_at b n) k entry within)

  last_of_node : (least level n : ℕ) (o : Option ℕ) → 1 ≤ least → n < pool_size b → IsCheckedNode form (site_of b) least n level (block_at b n)
      → last_or o (children form b n) ≡ last_below form b (Some n)
  last_of_node least level n o some within tested =
      let known = node_children least level n some tested in
      let count : ℕ = count_in (block_at b n) in
      last_or-long o (children form b n) 0 (omega (arith, known.0, known.1))
      ∙ ap (λ (k : ℕ). Some (get_or (children form b n) (k - 1) 0)) known.0
      ∙ ap Some (child_is n (count - 1) 0 (omega (arith, known.1)))
      ∙ sym (all_three (nat_lt n (pool_size b)) (nat_lt 0 count) (nat_le count form.node_max) (Some (child_in form (count - 1) (block_at b n)))
      (lt-ltb n (pool_size b) within) (lt-ltb 0 count (omega (arith, known.1))) (le-leb count form.node_max known.2))

  last_of_row : (least level : ℕ) (left : Option ℕ) (last : Bool) (xs : List ℕ) → 1 ≤ least → AreVisited form b least (suc level) left last xs
      → last_or (last_below form b left) (flat_map (children form b) xs) ≡ last_below form b (last_or left xs)
  unfolding AreVisited
  last_of_row least level left last [] some visited = refl
  last_of_row least level left last (x ∷ xs) some visited =
      last_or-append (last_below form b left) (children form b x) (flat_map (children form b) xs)
      ∙ ap (λ (o : Option ℕ). last_or o (flat_map (children form b) xs))
      (last_of_node least (suc level) x (last_below form b left) some visited.0.used.below visited.0.tested)
      ∙ last_of_row least level (Some x) last xs some visited.1

  is_end-below : (least level : ℕ) (left : Option ℕ) (last : Bool) (xs : List ℕ) → 1 ≤ least → is_end xs ≡ false
      → AreVisited form b least (suc level) left last xs → is_end (flat_map (children form b) xs) ≡ false
  unfolding AreVisited
  is_end-below least level left last [] some more visited = absurd cc
  is_end-below least level left last (x ∷ xs) some more visited =
      let known = node_children least (suc level) x some visited.0.tested in
      is_end-long (children form b x) (flat_map (children form b) xs) (omega (arith, known.0, known.1))

  -- some blocks of a level after others
  pub visited_apart : (least level : ℕ) (left : Option ℕ) (last : Bool) (xs ys : List ℕ) → is_end ys ≡ false
      → AreVisited form b least level left last (xs ++ ys) → AreVisited form b least level left false xs × AreVisited form b least level (last_or left xs) last ys
  unfolding AreVisited
  visited_apart least level left last [] ys more visited = (tt, visited)
  visited_apart least level left last (x ∷ xs) ys more visited =
      let rest = visited_apart least level (Some x) last xs ys more visited.1 in
      let same : (is_end (xs ++ ys) && last) ≡ (is_end xs && false) = not_end xs ys last more in
      ((subst (λ (end : Bool). IsVisited form b least level left end x) same visited.0, rest.0), rest.1)

  pub visited_joined : (least level : ℕ) (left : Option ℕ) (last : Bool) (xs ys : List ℕ) → is_end ys ≡ false
      → AreVisited form b least level left false xs → AreVisited form b least level (last_or left xs) last ys → AreVisited form b least level left last (xs ++ ys)
  unfolding AreVisited
  visited_joined least level left last [] ys more front rest = rest
  visited_joined least level left last (x ∷ xs) ys more front rest =
      let same : (is_end xs && false) ≡ (is_end (xs ++ ys) && last) = sym (not_end xs ys last more) in
      (subst (λ (end : Bool). IsVisited form b least level left end x) same front.0, visited_joined least level (Some x) last xs ys more front.1 rest)

  -- and with all that is below them
  pub trees_apart : (least level : ℕ) (left : Option ℕ) (last : Bool) (xs ys : List ℕ) → IsForm form → HasChildren least level → is_end ys ≡ false
      → AreTrees form b least level left last (xs ++ ys) → AreTrees form b least level left false xs × AreTrees form b least level (last_or left xs) last ys
  unfolding AreTrees
  trees_apart least zero left last xs ys laws fits more trees = visited_apart least zero left last xs ys more trees
  trees_apart least (suc level) left last xs ys laws fits more trees =
      let rows = visited_apart least (suc level) left last xs ys more trees.0 in
      let next = subst (λ (row : List ℕ). AreTrees form b (min_records form level) level (last_below form b left) last row) (flat_map-append (children form b) xs ys) trees.1 in
      let rest = trees_apart (min_records form level) level (last_below form b left) last (flat_map (children form b) xs) (flat_map (children form b) ys) laws (min_records_fit form laws level)
      (is_end-below least level (last_or left xs) last ys fits more rows.1) next in
      ((rows.0, rest.0), (rows.1, subst (λ (o : Option ℕ). AreTrees form b (min_records form level) level o last (flat_map (children form b) ys)) (last_of_row least level left false xs fits rows.0) rest.1))

  pub trees_joined : (least level : ℕ) (left : Option ℕ) (last : Bool) (xs ys : List ℕ) → IsForm form → HasChildren least level → is_end ys ≡ false
      → AreTrees form b least level left false xs → AreTrees form b least level (last_or left xs) last ys → AreTrees form b least level left last (xs ++ ys)
  unfolding AreTrees
  trees_joined least zero left last xs ys laws fits more front rest = visited_joined least zero left last xs ys more front rest
  trees_joined least (suc level) left last xs ys laws fits more front rest =
      let after = subst (λ (o : Option ℕ). AreTrees form b (min_records form level) level o last (flat_map (children form b) ys)) (sym (last_of_row least level left false xs fits front.0)) rest.1 in
      let next = trees_joined (min_records form level) level (last_below form b left) last (flat_map (children form b) xs) (flat_map (children form b) ys) laws (min_records_fit form laws level)
      (is_end-below least level (last_or left xs) last ys fits more rest.0) front.1 after in (
        visited_joined least (suc level) left last xs ys more front.0 rest.0,
        subst (λ (row : List ℕ). AreTrees form b (min_records form level) level (last_below form b left) last row) (sym (flat_map-append (children form b) xs ys)) next,
      )
