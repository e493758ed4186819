-- The trees of each kind are small, since their rules let them have few records.
use Rattle.std.proofs.Common.{◌≡◌, ◌≢◌, ℕ, zero, suc, ◌+◌, ◌-◌, ◌*◌, ◌/◌, ◌<◌, ◌≤◌, Bool, true, false, if◌then◌else◌, List, [], ◌∷◌, length, map, get_or, refl, sym, ◌∙◌, arith}
use Rattle.std.proofs.Math.Nat.{le_trans}
use Rattle.std.proofs.lemmas.Bool.{ne_eqb}
use Rattle.std.proofs.lemmas.Bool.Decides.{nat_tests}
use Rattle.std.proofs.lemmas.List.{get_or-map, length-map}
use Rattle.std.specs.List.{All, AllPairs}
use Rattle.std.specs.declared.cmp.Ordering.TheVariants.{Less}
use Rattle.xr_block.specs.Tree.{IsTreeIn, tree_records}
use Rattle.xr_block.specs.TreeBlock.{entries_in}
use Rattle.xr_block.specs.TimesLaws.{few_of}
use Rattle.xr_change.specs.Paths.{blocks_wanted, child_of, full_on_path, is_full, path_index}
use Rattle.xr_kinds.specs.Form.{Form, IsForm}
use Rattle.xr_kinds.specs.FreeRunLaws.{is_block_form, is_size_form}
use Rattle.xr_kinds.specs.FreeRuns.{block_form, block_span, size_form, size_span}
use Rattle.xr_kinds.specs.Mapping.{is_mapping, mapping_form}
use Rattle.xr_kinds.specs.MappingLaws.{is_mapping_form}
use Rattle.xr_kinds.specs.Reference.{is_reference, reference_form}
use Rattle.xr_kinds.specs.ReferenceLaws.{is_reference_form}
use Rattle.xr_kinds.specs.Reverse.{reverse_form}
use Rattle.xr_kinds.specs.ReverseLaws.{is_reverse_form}
use Rattle.xr_kinds.specs.Spans.{apart, is_group_run}
use Rattle.xr_kinds.specs.declared.mapping.Mapping.{Mapping}
use Rattle.xr_kinds.specs.declared.reference.Reference.{Reference}
use Rattle.xr_kinds.specs.declared.reverse.Reverse.{Reverse}
use Rattle.xr_kinds.specs.declared.span.Span.{Span}
use Rattle.xr_pool.specs.Overlay.{Blocks, block_at}
use Rattle.xr_tree.specs.BoundLaws.{has_few, is_tall, root_few}
use Rattle.xr_tree.specs.Bounds.{AreSmallTrees, IsSmallTree}

one_at_most : (t : Bool) → (if t then 1 else 0) ≤ 1
one_at_most true = omega arith
one_at_most false = omega arith

module _ {X : Type 0} (form : Form X) (b : Blocks) (r : X) where
  full_few : (level n : ℕ) → full_on_path form b level n r ≤ level + 1
  unfolding full_on_path
  full_few zero n = omega (arith, one_at_most (is_full form b 0 n))
  full_few (suc level) n =
      let child : ℕ = child_of form b n (path_index form r (entries_in form (block_at b n))) in
      omega (arith, one_at_most (is_full form b (suc level) n), full_few level child)

  -- an insertion takes at most a block for each level, and one more where the root is full
  pub taken_few : (level root : ℕ) → blocks_wanted form b level root r ≤ level + 2
  taken_few level root = omega (arith, one_at_most (is_full form b level root), full_few level root)

  pub taken_below : (level root : ℕ) → length (entries_in form (block_at b root)) < form.node_max → blocks_wanted form b (suc level) root r ≤ suc level
  unfolding full_on_path
  taken_below level root room =
      let child : ℕ = child_of form b root (path_index form r (entries_in form (block_at b root))) in
      let not_full : is_full form b (suc level) root ≡ false =
      ne_eqb (length (entries_in form (block_at b root))) form.node_max (λ same. absurd (omega (arith, room, same))) in
      rw not_full (omega (arith, full_few level child))

-- records of which each has a small number of its own are few
few_numbers : {X : Type 0} (number : X → ℕ) (top : ℕ) (xs : List X) → All (λ (x : X). number x < top) xs
    → AllPairs (λ (x y : X). number x ≢ number y) xs → length xs ≤ top
few_numbers number top [] small differ = omega arith
few_numbers {X} number top (x ∷ xs) small differ =
    let all : List X = x ∷ xs in
    let numbers : List ℕ = map number all in
    let long : length numbers ≡ length all = length-map all number in
    let few = few_of numbers top
    (λ i j d before within same.
    let late : j < length all = omega (arith, within, long) in
    let early : i < length all = omega (arith, before, late) in
    differ i j x before late (sym (get_or-map number all i x d early) ∙ same ∙ get_or-map number all j x d late))
    (λ i d within.
    let inside : i < length all = omega (arith, within, long) in
    omega (arith, small i x inside, get_or-map number all i x d inside)) in
    omega (arith, few, long)

few_records : {X : Type 0} (form : Form X) (number : X → ℕ) (top : ℕ) → ((x : X) → form.is_valid x ≡ true → number x < top)
    → ((x y : X) → form.is_valid x ≡ true → form.is_valid y ≡ true → form.order x y ≡ Less → form.agree x y ≡ true → number x ≢ number y)
    → (b : Blocks) (root level : ℕ) → IsTreeIn form b root level → length (tree_records form b root level) ≤ top
few_records {X} form number top small differ b root level tree =
    let records : List X = tree_records form b root level in
    let rules = tree.records in
    few_numbers number top records (λ k d within. small (get_or records k d) (rules.valid k d within))
    (λ i j d before within.
    differ (get_or records i d) (get_or records j d) (rules.valid i d (omega (arith, before, within))) (rules.valid j d within) (rules.ascend i j d before within)
    (rules.agree i j d before within))

-- free runs of a group have a block between them
run_number : Span → ℕ
run_number s = (s.start - 512) / 2

run_low : (s : Span) → is_group_run s ≡ true → run_number s < 768
unfolding run_number
run_low s good = grind (arith, nat_tests)

runs_differ : (a b : Span) → is_group_run a ≡ true → is_group_run b ≡ true → apart a b ≡ true → run_number a ≢ run_number b
unfolding run_number
runs_differ a b one other away same = grind (arith, nat_tests)

count_low : (x : Reference) → is_reference x ≡ true → x.start - 512 < 1536
count_low x good = grind (arith, nat_tests)

counts_differ : (x y : Reference) → is_reference x ≡ true → is_reference y ≡ true → reference_form.agree x y ≡ true → x.start - 512 ≢ y.start - 512
counts_differ x y one other agree same = grind (arith, nat_tests)

offset_low : (x : Mapping) → is_mapping x ≡ true → x.off < 512
offset_low x good = grind (arith, nat_tests)

offsets_differ : (x y : Mapping) → mapping_form.order x y ≡ Less → x.off ≢ y.off
offsets_differ x y less same = grind (arith, nat_tests)

-- the numbers that leave a tree of few records at most one level of nodes, and room in its root
record AreTwoLevels {X : Type 0} (form : Form X) (most blocks : ℕ) : Type 0 where
  laws : IsForm form
  few : (b : Blocks) (root level : ℕ) → IsTreeIn form b root level → length (tree_records form b root level) ≤ most
  low : (first second leaves : ℕ) → 2 ≤ first → first * (form.node_max / 2) ≤ second → second ≤ leaves → leaves * (form.leaf_max / 2) ≤ most → ⊥
  room : (n : ℕ) → n * (form.leaf_max / 2) ≤ most → n < form.node_max
  fits : (leaves below : ℕ) → leaves * (form.leaf_max / 2) ≤ most → below * (form.node_max / 2 - 1) ≤ leaves * (form.node_max / 2) → below + 1 ≤ blocks

module _ {X : Type 0} (form : Form X) (most blocks : ℕ) (known : AreTwoLevels form most blocks) (b : Blocks) (root : ℕ) where
  low_tree : (level : ℕ) → IsTreeIn form b root level → (level ≤ 1) × ((r : X) → blocks_wanted form b level root r ≤ 2)
  low_tree zero tree = (omega arith, λ r. taken_few form b r 0 root)
  low_tree (suc zero) tree =
      let few = known.few b root 1 tree in
      let room = known.room (length (entries_in form (block_at b root))) (le_trans (root_few form known.laws b root tree) few) in
      (omega arith, λ r. omega (arith, taken_below form b r 0 root room))
  low_tree (suc (suc level)) tree =
      let tall = is_tall form known.laws b root level tree in
      absurd (known.low (length (entries_in form (block_at b root))) tall.second tall.leaves tall.two tall.wide tall.more
      (le_trans tall.full (known.few b root (suc (suc level)) tree)))

  small_tree : (level : ℕ) → IsTreeIn form b root level → IsSmallTree form blocks 1 2 b (record { block = root; level = level })
  small_tree level tree =
      let few = has_few form known.laws b root level tree in
      let low = low_tree level tree in
      record {
        few_blocks = omega (arith, few.all, known.fits few.leaves few.below (le_trans few.full (known.few b root level tree)) few.few);
        few_levels = low.0;
        few_taken = low.1;
      }

two_levels : {X : Type 0} (form : Form X) (most blocks : ℕ) → AreTwoLevels form most blocks → AreSmallTrees form blocks 1 2
two_levels form most blocks known b t tree = small_tree form most blocks known b t.block t.level tree

pub by_block_trees : AreSmallTrees block_form 4 1 2
by_block_trees = two_levels block_form 768 4 (record {
  laws = is_block_form;
  few = few_records block_form (λ r. run_number (block_span r)) 768 (λ x good. run_low (block_span x) good) (λ x y one other less agree. runs_differ (block_span x) (block_span y) one other agree);
  low = λ first second leaves two wide more full. omega arith;
  room = λ n full. omega arith;
  fits = λ leaves below full few. omega arith;
})

pub by_size_trees : AreSmallTrees size_form 4 1 2
by_size_trees = two_levels size_form 768 4 (record {
  laws = is_size_form;
  few = few_records size_form (λ r. run_number (size_span r)) 768 (λ x good. run_low (size_span x) good) (λ x y one other less agree. runs_differ (size_span x) (size_span y) one other agree);
  low = λ first second leaves two wide more full. omega arith;
  room = λ n full. omega arith;
  fits = λ leaves below full few. omega arith;
})

pub reference_trees : AreSmallTrees reference_form 10 1 2
reference_trees = two_levels reference_form 1536 10 (record {
  laws = is_reference_form;
  few = few_records reference_form (λ r. r.start - 512) 1536 (λ x good. count_low x good) (λ x y one other less agree. counts_differ x y one other agree);
  low = λ first second leaves two wide more full. omega arith;
  room = λ n full. omega arith;
  fits = λ leaves below full few. omega arith;
})

pub mapping_trees : AreSmallTrees mapping_form 5 1 2
mapping_trees = two_levels mapping_form 512 5 (record {
  laws = is_mapping_form;
  few = few_records mapping_form (λ r. r.off) 512 (λ x good. offset_low x good) (λ x y one other less agree. offsets_differ x y less);
  low = λ first second leaves two wide more full. omega arith;
  room = λ n full. omega arith;
  fits = λ leaves below full few. omega arith;
})

-- a tree of owners may have two levels of nodes
module _ (b : Blocks) (root : ℕ) where
  low_owners : (level : ℕ) → IsTreeIn reverse_form b root level → (level ≤ 2) × ((r : Reverse) → blocks_wanted reverse_form b level root r ≤ 3)
  low_owners zero tree = (omega arith, λ r. omega (arith, taken_few reverse_form b r 0 root))
  low_owners (suc zero) tree = (omega arith, λ r. taken_few reverse_form b r 1 root)
  low_owners (suc (suc zero)) tree =
      let tall = is_tall reverse_form is_reverse_form b root 0 tree in
      let room : length (entries_in reverse_form (block_at b root)) < 91 = omega (arith, tall.wide, tall.more, tall.full, tree.records.few) in
      (omega arith, λ r. omega (arith, taken_below reverse_form b r 1 root room))
  low_owners (suc (suc (suc level))) tree =
      let tall = is_tall reverse_form is_reverse_form b root (suc level) tree in
      absurd (omega (arith, tall.two, tall.wide, tall.wider level refl, tall.full, tree.records.few))

  small_owners : (level : ℕ) → IsTreeIn reverse_form b root level → IsSmallTree reverse_form 420 2 3 b (record { block = root; level = level })
  small_owners level tree =
      let few = has_few reverse_form is_reverse_form b root level tree in
      let low = low_owners level tree in
      record {
        few_blocks = omega (arith, few.all, few.full, few.few, tree.records.few);
        few_levels = low.0;
        few_taken = low.1;
      }

pub reverse_trees : AreSmallTrees reverse_form 420 2 3
reverse_trees b t tree = small_owners b t.block t.level tree
