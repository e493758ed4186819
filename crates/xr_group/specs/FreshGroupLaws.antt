-- A fresh group has a header, four trees of one leaf each, and free blocks.
use Rattle.std.proofs.Common.{◌≡◌, ℕ, zero, suc, ◌+◌, ◌-◌, ◌*◌, ◌/◌, ◌%◌, ◌<◌, ◌≤◌, ◌==◌, ◌&&◌, true, false, true≢false, List, [], ◌∷◌, ◌++◌, length, replicate, get_or, refl, sym, ap, subst, ◌∙◌, ⊎_elim, arith}
use Rattle.std.proofs.lemmas.Bool.{cases_lt}
use Rattle.std.proofs.lemmas.Bool.Decides.{nat_tests}
use Rattle.std.proofs.lemmas.List.Elements.{All-cons, All-nil}
use Rattle.std.specs.Int.{bit_at}
use Rattle.std.specs.List.{Contains}
use Rattle.std.specs.Prelude.{nat_le, nat_lt, slice_index}
use Rattle.xr_base.specs.declared.geometry.TheConstants.{FIRST_DATA_BLOCK, FIRST_FILE_BLOCK, FIRST_GROUP_BLOCK, GROUPS, GROUP_BLOCKS, UUID_BYTES}
use Rattle.xr_block.specs.Tree.{AreRecords, IsUsed, site_of}
use Rattle.xr_block.specs.Trees.{blocks_of_tree, records_of_tree}
use Rattle.xr_group.specs.FreshGroup.{AreFreshGroupBlocks, FreshGroupsAreFree, HasAllFree, group_at_rest}
use Rattle.xr_group.specs.FreshLeafLaws.{block_leaf, reference_leaf, reverse_leaf, size_leaf, whole_run}
use Rattle.xr_group.specs.Group.{GroupState, IsGroup, first_of_group, group_no, group_pool, head_of_blocks, records_now, trees_of_blocks, trees_of_head}
use Rattle.xr_group.specs.Sets.{has_free, has_pair, has_staged, is_in_group, owner_count_in}
use Rattle.xr_group.specs.Trees.{HasGroupTrees, parts_of}
use Rattle.xr_group.specs.declared.trees.Trees.{Trees}
use Rattle.xr_headers.specs.FreshImage.{fresh_block_of, fresh_group_block, fresh_head, fresh_map, short_leaf, whole_data}
use Rattle.xr_headers.specs.HeaderValueLaws.{group_in-group_block}
use Rattle.xr_headers.specs.Headers.{AreWords, IsGroupHead, IsPoolRoot, group_block, group_in}
use Rattle.xr_headers.specs.declared.group_head.GroupHead.{GroupHead}
use Rattle.xr_base.specs.declared.layout.TheConstants.{BY_BLOCK_MAGIC, BY_SIZE_MAGIC, REFERENCE_MAGIC, REVERSE_MAGIC}
use Rattle.xr_kinds.specs.Form.{Form}
use Rattle.xr_kinds.specs.FreeRunLaws.{is_block_form, is_size_form}
use Rattle.xr_kinds.specs.FreeRuns.{block_form, block_span, by_block, by_size, size_form, size_span}
use Rattle.xr_kinds.specs.Reference.{reference_form}
use Rattle.xr_kinds.specs.ReferenceLaws.{is_reference_form}
use Rattle.xr_kinds.specs.Reverse.{reverse_form}
use Rattle.xr_kinds.specs.ReverseLaws.{is_reverse_form}
use Rattle.xr_kinds.specs.declared.free_runs.ByBlock.{ByBlock}
use Rattle.xr_kinds.specs.declared.free_runs.BySize.{BySize}
use Rattle.xr_kinds.specs.declared.span.Span.{Span}
use Rattle.xr_open.specs.LeafTreeLaws.{leaf_roots_are_trees}
use Rattle.xr_open.specs.LeafTrees.{IsLeafTree}
use Rattle.xr_pool.specs.Bits.{has_bit}
use Rattle.xr_pool.specs.Overlay.{Blocks, is_free, pool_size}
use Rattle.xr_refcount.specs.Counts.{count_at}

-- of the map only the bits of the header and of the four leaves are clear
ones_at : (m k : ℕ) → k < m → (let ones : List ℕ = replicate m 255 in get_or ones k 0 ≡ 255)
ones_at zero k within = absurd (omega (arith, within))
ones_at (suc m) zero within = refl
ones_at (suc m) (suc k) within = ones_at m k (omega (arith, within))

full_byte : (r : ℕ) → r < 8 → (bit_at 255 r == 1) ≡ true
full_byte zero small = refl
full_byte (suc zero) small = refl
full_byte (suc (suc zero)) small = refl
full_byte (suc (suc (suc zero))) small = refl
full_byte (suc (suc (suc (suc zero)))) small = refl
full_byte (suc (suc (suc (suc (suc zero))))) small = refl
full_byte (suc (suc (suc (suc (suc (suc zero)))))) small = refl
full_byte (suc (suc (suc (suc (suc (suc (suc zero))))))) small = refl
full_byte (suc (suc (suc (suc (suc (suc (suc (suc r)))))))) small = absurd (omega arith)

first_byte : (r : ℕ) → 5 ≤ r → r < 8 → (bit_at 224 r == 1) ≡ true
first_byte zero from small = absurd (omega arith)
first_byte (suc zero) from small = absurd (omega arith)
first_byte (suc (suc zero)) from small = absurd (omega arith)
first_byte (suc (suc (suc zero))) from small = absurd (omega arith)
first_byte (suc (suc (suc (suc zero)))) from small = absurd (omega arith)
first_byte (suc (suc (suc (suc (suc zero))))) from small = refl
first_byte (suc (suc (suc (suc (suc (suc zero)))))) from small = refl
first_byte (suc (suc (suc (suc (suc (suc (suc zero))))))) from small = refl
first_byte (suc (suc (suc (suc (suc (suc (suc (suc r)))))))) from small = absurd (omega arith)

map_byte : (q r : ℕ) → q < 64 → r < 8 → 5 ≤ 8 * q + r → (bit_at (get_or fresh_map q 0) r == 1) ≡ true
map_byte zero r within small from = first_byte r (omega (arith, from)) small
map_byte (suc q) r within small from = ap (λ (byte : ℕ). bit_at byte r == 1) (ones_at 63 q (omega (arith, within))) ∙ full_byte r small

free_bit : (n : ℕ) → 5 ≤ n → n < 512 → has_bit fresh_map n ≡ true
free_bit n from below = map_byte (n / 8) (n % 8) (omega (arith, below)) (omega arith) (omega (arith, from))

used_bit : (n : ℕ) → n < 5 → has_bit fresh_map n ≡ false
used_bit zero small = refl
used_bit (suc zero) small = refl
used_bit (suc (suc zero)) small = refl
used_bit (suc (suc (suc zero))) small = refl
used_bit (suc (suc (suc (suc zero)))) small = refl
used_bit (suc (suc (suc (suc (suc n))))) small = absurd (omega (arith, small))

-- one record or none keeps the rules of a tree
one_record : {X : Type 0} (form : Form X) (r : X) → form.is_valid r ≡ true → 1 ≤ form.most → AreRecords form (r ∷ [])
one_record form r good most = record {
  valid = All-cons (λ x. form.is_valid x ≡ true) r [] good (All-nil (λ x. form.is_valid x ≡ true));
  ascend = λ i j d before within. absurd (omega (arith, before, within));
  agree = λ i j d before within. absurd (omega (arith, before, within));
  few = most;
}

no_record : {X : Type 0} (form : Form X) → AreRecords form []
no_record form = record {
  valid = All-nil (λ x. form.is_valid x ≡ true);
  ascend = λ i j d before within. absurd (omega (arith, within));
  agree = λ i j d before within. absurd (omega (arith, within));
  few = omega arith;
}

-- two lists of one
apart_in : (n : ℕ) → Contains (1 ∷ []) n → ¬ (Contains (2 ∷ []) n)
apart_in n (zero, within, is) (zero, inside, other) = absurd (omega (arith, is, other))
apart_in n (zero, within, is) (suc k, inside, other) = absurd (omega (arith, inside))
apart_in n (suc k, within, is) two = absurd (omega (arith, within))

sized_too : (run : Span) → Contains (by_block whole_run ∷ []) (by_block run) → Contains (by_size whole_run ∷ []) (by_size run)
sized_too run (zero, within, is) = (0, omega arith, ap (λ (r : ByBlock). by_size (block_span r)) is)
sized_too run (suc k, within, is) = absurd (omega (arith, within))

freed_too : (run : Span) → Contains (by_size whole_run ∷ []) (by_size run) → Contains (by_block whole_run ∷ []) (by_block run)
freed_too run (zero, within, is) = (0, omega arith, ap (λ (r : BySize). by_block (size_span r)) is)
freed_too run (suc k, within, is) = absurd (omega (arith, within))

-- the blocks of the trees of free runs are one part, and the others one each
fresh_parts : ℕ → List ℕ
fresh_parts zero = 1 ∷ 2 ∷ []
fresh_parts (suc zero) = 3 ∷ []
fresh_parts (suc (suc zero)) = 4 ∷ []
fresh_parts (suc (suc (suc i))) = []

part_is : (i n : ℕ) → Contains (fresh_parts i) n → (1 ≤ n) × (n < 5) × (i ≡ n - 2)
unfolding fresh_parts
part_is zero n (zero, within, is) = (omega (arith, is), omega (arith, is), omega (arith, is))
part_is zero n (suc zero, within, is) = (omega (arith, is), omega (arith, is), omega (arith, is))
part_is zero n (suc (suc k), within, is) = absurd (omega (arith, within))
part_is (suc zero) n (zero, within, is) = (omega (arith, is), omega (arith, is), omega (arith, is))
part_is (suc zero) n (suc k, within, is) = absurd (omega (arith, within))
part_is (suc (suc zero)) n (zero, within, is) = (omega (arith, is), omega (arith, is), omega (arith, is))
part_is (suc (suc zero)) n (suc k, within, is) = absurd (omega (arith, within))
part_is (suc (suc (suc i))) n (k, within, is) = absurd (omega (arith, within))

part_of : (n : ℕ) → 1 ≤ n → n < 5 → (i : ℕ) × Contains (fresh_parts i) n
unfolding fresh_parts
part_of zero from small = absurd (omega (arith, from))
part_of (suc zero) from small = (0, (0, omega arith, refl))
part_of (suc (suc zero)) from small = (0, (1, omega arith, refl))
part_of (suc (suc (suc zero))) from small = (1, (0, omega arith, refl))
part_of (suc (suc (suc (suc zero)))) from small = (2, (0, omega arith, refl))
part_of (suc (suc (suc (suc (suc n))))) from small = absurd (omega (arith, small))

root_in : (i : ℕ) → i < 4 → IsPoolRoot (slice_index (1 ∷ 2 ∷ 3 ∷ 4 ∷ []) i)
root_in zero within = (omega arith, omega arith)
root_in (suc zero) within = (omega arith, omega arith)
root_in (suc (suc zero)) within = (omega arith, omega arith)
root_in (suc (suc (suc zero))) within = (omega arith, omega arith)
root_in (suc (suc (suc (suc i)))) within = absurd (omega (arith, within))

four_zeros : AreWords (replicate 4 0)
four_zeros (zero) d within = omega arith
four_zeros (suc zero) d within = omega arith
four_zeros (suc (suc zero)) d within = omega arith
four_zeros (suc (suc (suc zero))) d within = omega arith
four_zeros (suc (suc (suc (suc k)))) d within = absurd (omega (arith, within))

at_place : (uuid : List ℕ) (cycle number k : ℕ) → number < GROUPS → k < FIRST_DATA_BLOCK → fresh_block_of uuid cycle (first_of_group number + k) ≡ fresh_group_block uuid number k
unfolding fresh_block_of
at_place uuid cycle number k known within =
    let behind : nat_lt (first_of_group number + k) FIRST_FILE_BLOCK ≡ false = grind (arith, nat_tests) in
    let past : nat_lt (first_of_group number + k) FIRST_GROUP_BLOCK ≡ false = grind (arith, nat_tests) in
    let which : (first_of_group number + k - FIRST_GROUP_BLOCK) / GROUP_BLOCKS ≡ number = omega arith in
    let place : (first_of_group number + k - FIRST_GROUP_BLOCK) % GROUP_BLOCKS ≡ k = omega arith in
    rw (behind, past, which, place) refl

module _ (uuid : List ℕ) (cycle number : ℕ) (blocks : List (List ℕ)) (long : length uuid ≡ UUID_BYTES) (known : number < GROUPS)
    (fresh : AreFreshGroupBlocks uuid cycle number blocks) where
  block_is : (k : ℕ) → k < FIRST_DATA_BLOCK → get_or blocks k [] ≡ fresh_group_block uuid number k
  block_is k within = fresh.each k within ∙ at_place uuid cycle number k known within

  valid : IsGroupHead (fresh_head uuid number)
  valid = record {
    group = known;
    four_roots = refl;
    pool = record { roots = root_in; own_block = refl };
    four_levels = refl;
    levels = four_zeros;
    map_bytes = refl;
  }

  head_read : head_of_blocks number uuid blocks ≡ fresh_head uuid number
  head_read =
      ap (λ (bytes : List ℕ). group_in bytes (group_no number) uuid) (block_is 0 (omega arith)) ∙ group_in-group_block (fresh_head uuid number) valid long

  abbrev pool : Blocks
  pool = group_pool number uuid blocks

  abbrev trees : Trees
  trees = trees_of_head (fresh_head uuid number)

  trees_are : trees_of_blocks number uuid blocks ≡ trees
  trees_are = ap trees_of_head head_read

  free_read : (n : ℕ) → is_free pool n ≡ has_bit fresh_map n
  free_read n = ap (λ (head : GroupHead). has_bit head.free n) head_read

  used : (n : ℕ) → 1 ≤ n → n < 5 → IsUsed (is_free pool) (pool_size pool) n
  used n from small = record { from = from; below = omega (arith, fresh.long, small); taken = free_read n ∙ used_bit n small }

  leaf_at : (n magic : ℕ) (numbers : List ℕ) → n < FIRST_DATA_BLOCK
      → fresh_group_block uuid number n ≡ short_leaf magic numbers uuid (FIRST_GROUP_BLOCK + number * GROUP_BLOCKS + n) number
      → get_or blocks n [] ≡ short_leaf magic numbers uuid (first_of_group number + n) number
  leaf_at n magic numbers within is =
      let same : FIRST_GROUP_BLOCK + number * GROUP_BLOCKS + n ≡ first_of_group number + n = omega arith in
      block_is n within ∙ is ∙ ap (λ (block : ℕ). short_leaf magic numbers uuid block number) same

  by_block_tree : IsLeafTree block_form pool 1 (by_block whole_run ∷ [])
  by_block_tree = leaf_roots_are_trees block_form is_block_form pool 1 (by_block whole_run ∷ []) (record {
    used = used 1 (omega arith) (omega arith);
    identified = long;
    bytes = leaf_at 1 BY_BLOCK_MAGIC whole_data (omega arith) refl ∙ block_leaf (site_of pool) 1 long;
    rules = one_record block_form (by_block whole_run) refl (omega arith);
    fits = omega arith;
  })

  by_size_tree : IsLeafTree size_form pool 2 (by_size whole_run ∷ [])
  by_size_tree = leaf_roots_are_trees size_form is_size_form pool 2 (by_size whole_run ∷ []) (record {
    used = used 2 (omega arith) (omega arith);
    identified = long;
    bytes = leaf_at 2 BY_SIZE_MAGIC whole_data (omega arith) refl ∙ size_leaf (site_of pool) 2 long;
    rules = one_record size_form (by_size whole_run) refl (omega arith);
    fits = omega arith;
  })

  reverse_tree : IsLeafTree reverse_form pool 3 []
  reverse_tree = leaf_roots_are_trees reverse_form is_reverse_form pool 3 [] (record {
    used = used 3 (omega arith) (omega arith);
    identified = long;
    bytes = leaf_at 3 REVERSE_MAGIC [] (omega arith) refl ∙ reverse_leaf (site_of pool) 3 long;
    rules = no_record reverse_form;
    fits = omega arith;
  })

  reference_tree : IsLeafTree reference_form pool 4 []
  reference_tree = leaf_roots_are_trees reference_form is_reference_form pool 4 [] (record {
    used = used 4 (omega arith) (omega arith);
    identified = long;
    bytes = leaf_at 4 REFERENCE_MAGIC [] (omega arith) refl ∙ reference_leaf (site_of pool) 4 long;
    rules = no_record reference_form;
    fits = omega arith;
  })

  parts_are : (i : ℕ) → parts_of pool trees i ≡ fresh_parts i
  unfolding fresh_parts
  parts_are zero =
      ap (λ (ns : List ℕ). ns ++ blocks_of_tree size_form pool trees.space.by_size) by_block_tree.blocks_are
      ∙ ap (λ (ns : List ℕ). (1 ∷ []) ++ ns) by_size_tree.blocks_are
  parts_are (suc zero) = reverse_tree.blocks_are
  parts_are (suc (suc zero)) = reference_tree.blocks_are
  parts_are (suc (suc (suc i))) = refl

  part_at : (i n : ℕ) → Contains (parts_of pool trees i) n → (1 ≤ n) × (n < 5) × (i ≡ n - 2)
  part_at i n held = part_is i n (subst (λ (ns : List ℕ). Contains ns n) (parts_are i) held)

  low : (n : ℕ) → n < pool_size pool → is_free pool n ≡ false → n < 5
  low n below taken = ⊎_elim
      (λ (small : n < 5). small)
      (λ (from : 5 ≤ n). absurd (true≢false (sym (free_bit n from (omega (arith, below, fresh.long))) ∙ sym (free_read n) ∙ taken)))
      (cases_lt n 5)

  group_trees : HasGroupTrees pool trees
  group_trees = record {
    space = record {
      blocks = by_block_tree.tree;
      sizes = by_size_tree.tree;
      separate = λ n one two.
          let first = subst (λ (ns : List ℕ). Contains ns n) by_block_tree.blocks_are one in
          let second = subst (λ (ns : List ℕ). Contains ns n) by_size_tree.blocks_are two in
          apart_in n first second;
    };
    rmap = reverse_tree.tree;
    counts = reference_tree.tree;
    parted = record {
      apart = λ i j n one two.
          let first = part_at i n one in let second = part_at j n two in omega (arith, first.2, second.2);
      used = λ i n held. let is = part_at i n held in used n is.0 is.1;
      every = λ n from below taken.
          let found = part_of n from (low n below taken) in (found.0, subst (λ (ns : List ℕ). Contains ns n) (sym (parts_are found.0)) found.1);
    };
    pool = fresh.long;
  }

  pub is_group : IsGroup number uuid blocks
  is_group = record {
    whole = fresh.whole;
    head = record { valid = subst IsGroupHead (sym head_read) valid; head = block_is 0 (omega arith) ∙ ap group_block (sym head_read) };
    trees = subst (λ (t : Trees). HasGroupTrees pool t) (sym trees_are) group_trees;
  }

  abbrev state : GroupState
  state = group_at_rest number uuid blocks

  frees : (records_now state).by_block ≡ by_block whole_run ∷ []
  frees = ap (λ (t : Trees). records_of_tree block_form pool t.space.by_block) trees_are ∙ by_block_tree.records_are

  sizes : (records_now state).by_size ≡ by_size whole_run ∷ []
  sizes = ap (λ (t : Trees). records_of_tree size_form pool t.space.by_size) trees_are ∙ by_size_tree.records_are

  owners : (records_now state).reverse ≡ []
  owners = ap (λ (t : Trees). records_of_tree reverse_form pool t.rmap.tree) trees_are ∙ reverse_tree.records_are

  counted : (records_now state).reference ≡ []
  counted = ap (λ (t : Trees). records_of_tree reference_form pool t.counts.tree) trees_are ∙ reference_tree.records_are

  free_is : (a : ℕ) → has_free state a ≡ (is_in_group state a && nat_le FIRST_DATA_BLOCK (a % GROUP_BLOCKS))
  free_is a =
      let small : a % GROUP_BLOCKS < GROUP_BLOCKS = omega arith in
      rw frees (grind (arith, nat_tests, small))

  owner_is : (w o a : ℕ) → has_pair state w o a ≡ false
  owner_is w o a = rw owners (grind (arith, nat_tests))

  count_is : (a : ℕ) → owner_count_in state a ≡ 1
  unfolding count_at
  count_is a = rw counted (grind (arith, nat_tests))

  staged_is : (a : ℕ) → has_staged state a ≡ false
  staged_is a = rw counted (grind (arith, nat_tests))

  pub all_free : HasAllFree state
  all_free = record {
    free = free_is;
    unowned = owner_is;
    counts = count_is;
    unstaged = staged_is;
    paired = λ run. (
      λ held. rw sizes (sized_too run (rw frees at held)),
      λ held. rw frees (freed_too run (rw sizes at held)),
    );
  }

pub fresh_groups_are_free : FreshGroupsAreFree
fresh_groups_are_free uuid cycle number blocks long known fresh =
    (is_group uuid cycle number blocks long known fresh, all_free uuid cycle number blocks long known fresh)
