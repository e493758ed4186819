-- A fresh file has a core, the empty root of its tree, and free blocks.
use Rattle.std.proofs.Common.{◌≡◌, ℕ, zero, suc, ◌+◌, ◌-◌, ◌*◌, ◌/◌, ◌%◌, ◌<◌, ◌≤◌, true, false, true≢false, None, List, [], ◌∷◌, length, take, get_or, refl, sym, ap, subst, ◌∙◌, arith}
use Rattle.std.proofs.lemmas.Bool.Decides.{nat_tests}
use Rattle.std.proofs.lemmas.List.Elements.{All-nil}
use Rattle.std.specs.List.{Contains}
use Rattle.std.specs.Prelude.{nat_lt}
use Rattle.xr_base.specs.declared.geometry.TheConstants.{FILES, FILE_BLOCKS, FIRST_FILE_BLOCK, FIRST_GROUP_BLOCK, FIRST_INODE, UUID_BYTES}
use Rattle.xr_block.specs.Trees.{blocks_of_tree, records_of_tree}
use Rattle.xr_block.specs.declared.root.Root.{Root}
use Rattle.xr_bmap.specs.File.{core_of_blocks, extents_in, first_of_file, pool_of_blocks, root_of_blocks, root_of_core}
use Rattle.xr_bmap.specs.FreshFile.{AreFreshFileBlocks, FreshFilesAreEmpty, IsEmptyFile}
use Rattle.xr_open.specs.LeafTreeLaws.{fresh_roots_are_leaves, leaf_roots_are_trees}
use Rattle.xr_open.specs.LeafTrees.{IsLeafRoot, IsLeafTree, leaf_root}
use Rattle.xr_bmap.specs.Slots.{mapped_in}
use Rattle.xr_headers.specs.FreshImage.{fresh_block_of, fresh_core, fresh_file_block, long_leaf}
use Rattle.xr_headers.specs.HeaderValueLaws.{core_in-core_block}
use Rattle.xr_headers.specs.Headers.{IsCore, core_block, core_in}
use Rattle.xr_headers.specs.declared.file_core.Core.{Core}
use Rattle.xr_headers.specs.declared.layout.TheConstants.{CORE_BYTES}
use Rattle.xr_kinds.specs.Mapping.{mapping_form}
use Rattle.xr_kinds.specs.MappingLaws.{is_mapping_form}
use Rattle.xr_kinds.specs.declared.mapping.Mapping.{Mapping}
use Rattle.xr_pool.specs.Bits.{has_bit}
use Rattle.xr_pool.specs.Overlay.{Blocks, is_free}
use Rattle.xr_tree.specs.Room.{IsFileTree}

-- of a fresh file's mask only the bits of the core and of the root are clear
used_bit : (n : ℕ) → 1 ≤ n → n < 8 → has_bit (252 ∷ []) n ≡ false → n ≡ 1
used_bit zero from below is = absurd (omega arith)
used_bit (suc zero) from below is = refl
used_bit (suc (suc zero)) from below is = absurd (true≢false is)
used_bit (suc (suc (suc zero))) from below is = absurd (true≢false is)
used_bit (suc (suc (suc (suc zero)))) from below is = absurd (true≢false is)
used_bit (suc (suc (suc (suc (suc zero))))) from below is = absurd (true≢false is)
used_bit (suc (suc (suc (suc (suc (suc zero)))))) from below is = absurd (true≢false is)
used_bit (suc (suc (suc (suc (suc (suc (suc zero))))))) from below is = absurd (true≢false is)
used_bit (suc (suc (suc (suc (suc (suc (suc (suc n)))))))) from below is = absurd (omega arith)

at_place : (uuid : List ℕ) (cycle file k : ℕ) → file < FILES → k < FILE_BLOCKS → fresh_block_of uuid cycle (first_of_file file + k) ≡ fresh_file_block uuid file k
unfolding fresh_block_of
at_place uuid cycle file k known within =
    let behind : nat_lt (first_of_file file + k) FIRST_FILE_BLOCK ≡ false = grind (arith, nat_tests) in
    let before : nat_lt (first_of_file file + k) FIRST_GROUP_BLOCK ≡ true = grind (arith, nat_tests) in
    let which : (first_of_file file + k - FIRST_FILE_BLOCK) / FILE_BLOCKS ≡ file = omega arith in
    let place : (first_of_file file + k - FIRST_FILE_BLOCK) % FILE_BLOCKS ≡ k = omega arith in
    rw (behind, before, which, place) refl

module _ (uuid : List ℕ) (cycle file : ℕ) (blocks : List (List ℕ)) (long : length uuid ≡ UUID_BYTES) (known : file < FILES)
    (fresh : AreFreshFileBlocks uuid cycle file blocks) where
  zero_is : get_or blocks 0 [] ≡ core_block (fresh_core uuid file)
  zero_is = fresh.each 0 (omega arith) ∙ at_place uuid cycle file 0 known (omega arith)

  one_is : get_or blocks 1 [] ≡ long_leaf uuid (first_of_file file + 1) (FIRST_INODE + file)
  one_is =
      let same : FIRST_FILE_BLOCK + file * FILE_BLOCKS + 1 ≡ first_of_file file + 1 = omega arith in
      fresh.each 1 (omega arith) ∙ at_place uuid cycle file 1 known (omega arith) ∙ ap (λ (n : ℕ). long_leaf uuid n (FIRST_INODE + file)) same

  valid : IsCore (fresh_core uuid file)
  valid = record {
    first_inode = omega arith;
    last_inode = omega (arith, known);
    pool = record { some_root = omega arith; root_in_pool = omega arith; mask = omega arith; own_block = refl };
    level = omega arith;
  }

  core_read : core_of_blocks file uuid blocks ≡ fresh_core uuid file
  core_read =
      ap (λ (bytes : List ℕ). core_in (take CORE_BYTES bytes) file uuid) zero_is ∙ core_in-core_block (fresh_core uuid file) file valid long refl

  abbrev pool : Blocks
  pool = pool_of_blocks file uuid blocks

  free_read : (n : ℕ) → is_free pool n ≡ has_bit (252 ∷ []) n
  free_read n = ap (λ (core : Core). has_bit (core.free ∷ []) n) core_read

  leaf : IsLeafRoot mapping_form pool 1 []
  leaf = record {
    used = record { from = omega arith; below = omega (arith, fresh.long); taken = free_read 1 };
    identified = long;
    bytes = one_is ∙ fresh_roots_are_leaves pool 1 long;
    rules = record {
      valid = All-nil (λ (r : Mapping). mapping_form.is_valid r ≡ true);
      ascend = λ i j d before within. absurd (omega (arith, within));
      agree = λ i j d before within. absurd (omega (arith, within));
      few = omega arith;
    };
    fits = omega arith;
  }

  tree : IsLeafTree mapping_form pool 1 []
  tree = leaf_roots_are_trees mapping_form is_mapping_form pool 1 [] leaf

  root_is : root_of_blocks file uuid blocks ≡ leaf_root 1
  root_is = ap root_of_core core_read

  used : (n : ℕ) → 1 ≤ n → n < length blocks → is_free pool n ≡ false → Contains (blocks_of_tree mapping_form pool (leaf_root 1)) n
  used n from below taken =
      let one : n ≡ 1 = used_bit n from (omega (arith, below, fresh.long)) (sym (free_read n) ∙ taken) in
      subst (λ (ns : List ℕ). Contains ns n) (sym tree.blocks_are) (0, omega arith, sym one)

  file_tree : IsFileTree pool (root_of_blocks file uuid blocks)
  file_tree = subst (λ (t : Root). IsFileTree pool t) (sym root_is) (record { mapping = tree.tree; pool = fresh.long; used = used })

  none : extents_in file uuid blocks ≡ []
  none = ap (λ (t : Root). records_of_tree mapping_form pool t) root_is ∙ tree.records_are

  unmapped : (o : ℕ) → mapped_in (extents_in file uuid blocks) o ≡ None
  unfolding mapped_in
  unmapped o = ap (λ (xs : List Mapping). mapped_in xs o) none

  pub empty_file : IsEmptyFile file uuid blocks
  empty_file = record {
    file_there = record {
      whole = fresh.whole;
      core = record { valid = subst IsCore (sym core_read) valid; core = zero_is ∙ ap core_block (sym core_read) };
      tree = file_tree;
    };
    none = none;
    unmapped = unmapped;
  }

pub fresh_files_are_empty : FreshFilesAreEmpty
fresh_files_are_empty uuid cycle file blocks long known fresh = empty_file uuid cycle file blocks long known fresh
