-- A leaf that is a root is a tree by itself, and formatting writes such leaves.
use Rattle.std.proofs.Common.{◌≡◌, ℕ, suc, ◌+◌, ◌-◌, ◌≤◌, List, [], ◌++◌, length, replicate, refl, sym, ap, subst, ◌∙◌, arith}
use Rattle.std.proofs.lemmas.List.{append-nil, append_assoc, length-append}
use Rattle.std.proofs.lemmas.List.Elements.{All-cons, All-nil}
use Rattle.xr_base.specs.Checksum.{with_crc}
use Rattle.xr_base.specs.declared.geometry.TheConstants.{BLOCK_BYTES, UUID_BYTES}
use Rattle.xr_base.specs.declared.layout.TheConstants.{LONG_BB_CRC}
use Rattle.xr_block.specs.BlockLaws.{records_of_leaf}
use Rattle.xr_block.specs.Rows.{AreLinked, AreRowsOf, leaves_from, rows_from}
use Rattle.xr_block.specs.Tree.{AreRecords, IsUsed, site_of}
use Rattle.xr_block.specs.TreeBlock.{Site, header, leaf_bytes, tree_block}
use Rattle.xr_block.specs.TreeBlock as tree
use Rattle.xr_headers.specs.FreshImage.{long_leaf_fields}
use Rattle.xr_headers.specs.Padded.{zero_padded}
use Rattle.xr_headers.specs.PaddedLaws.{zero_padded_is}
use Rattle.xr_kinds.specs.Form.{Form, IsForm}
use Rattle.xr_kinds.specs.Mapping.{mapping_form}
use Rattle.xr_open.specs.LeafTrees.{FreshRootsAreLeaves, IsLeafRoot, IsLeafTree, LeafRootsAreTrees, lone_place}
use Rattle.xr_pool.specs.Overlay.{Blocks, block_at, is_free, pool_size}

module _ {X : Type 0} (form : Form X) (laws : IsForm form) (b : Blocks) (n : ℕ) (records : List X) (leaf : IsLeafRoot form b n records) where
  held_records : tree.records_in form (block_at b n) ≡ records
  held_records =
      ap (tree.records_in form) leaf.bytes
      ∙ records_of_leaf form laws (site_of b) (lone_place n) records leaf.identified leaf.fits leaf.rules.valid

  pub leaf_tree : IsLeafTree form b n records
  unfolding rows_from leaves_from AreRowsOf AreLinked
  leaf_tree =
      let same : tree.records_in form (block_at b n) ++ [] ≡ records = append-nil (tree.records_in form (block_at b n)) ∙ held_records in
      record {
        tree = record {
          rows = (
            record {
              whole = leaf.bytes ∙ ap (leaf_bytes form (site_of b) (lone_place n)) (sym held_records);
              least_items = omega arith;
              most_items = omega (arith, ap length held_records, leaf.fits);
            },
            tt,
          );
          records = subst (AreRecords form) (sym same) leaf.rules;
          distinct = λ i j d before within. absurd (omega (arith, before, within));
          owned = All-cons (IsUsed (is_free b) (pool_size b)) n [] leaf.used (All-nil (IsUsed (is_free b) (pool_size b)));
        };
        records_are = same;
        blocks_are = refl;
      }

pub leaf_roots_are_trees : {X : Type 0} (form : Form X) → IsForm form → LeafRootsAreTrees form
leaf_roots_are_trees form laws b n records leaf = leaf_tree form laws b n records leaf

-- the two crates that write blocks say padding alike
pub same_padding : (n : ℕ) (bytes : List ℕ) → length bytes ≤ n → zero_padded n bytes ≡ tree.zero_filled n bytes
same_padding n bytes fits = zero_padded_is n (n - length bytes) bytes (omega arith)

same_fields : (site : Site) (n : ℕ) → header mapping_form site (lone_place n) 0 ≡ long_leaf_fields site.uuid (site.first + n) site.owner ++ replicate 8 0
unfolding header long_leaf_fields
same_fields site n = refl

-- eight bytes of a header behind its fields are zeros too
padded_leaf : (n : ℕ) (fields head : List ℕ) → length fields ≡ 64 → head ≡ fields ++ replicate 8 0 → 72 ≤ n
    → zero_padded n fields ≡ tree.zero_filled n (head ++ [])
padded_leaf n fields head long is fits =
    let m : ℕ = n - 72 in
    let size : length head ≡ 72 = ap length is ∙ length-append fields (replicate 8 0) ∙ omega (arith, long) in
    let more : n - 64 ≡ suc (suc (suc (suc (suc (suc (suc (suc m))))))) = omega arith in
    zero_padded_is n (n - 64) fields (omega arith)
    ∙ ap (λ (k : ℕ). fields ++ replicate {A = ℕ} k 0) more
    ∙ sym (append_assoc fields (replicate 8 0) (replicate m 0))
    ∙ ap (λ (xs : List ℕ). xs ++ replicate m 0) (sym is)
    ∙ ap (λ (k : ℕ). head ++ replicate {A = ℕ} (n - k) 0) (sym size)
    ∙ ap (tree.zero_filled n) (sym (append-nil head))

same_leaf : (at n : ℕ) (fields head : List ℕ) → length fields ≡ 64 → head ≡ fields ++ replicate 8 0 → 72 ≤ n
    → with_crc at (zero_padded n fields) ≡ with_crc at (tree.zero_filled n (head ++ []))
same_leaf at n fields head long is fits = ap (with_crc at) (padded_leaf n fields head long is fits)

length-fields : (uuid : List ℕ) (block owner : ℕ) → length uuid ≡ UUID_BYTES → length (long_leaf_fields uuid block owner) ≡ 64
unfolding long_leaf_fields
length-fields uuid block owner long = simp length-append (omega (arith, long))

pub fresh_roots_are_leaves : FreshRootsAreLeaves
unfolding tree_block
fresh_roots_are_leaves b n long =
    same_leaf LONG_BB_CRC BLOCK_BYTES (long_leaf_fields b.uuid (b.first + n) b.owner) (header mapping_form (site_of b) (lone_place n) 0)
    (length-fields b.uuid (b.first + n) b.owner long) (same_fields (site_of b) n) (omega arith)
