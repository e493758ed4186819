-- An overlay with a tree and its core is a file by its blocks, and holds its extents.
use Rattle.std.proofs.Common.{◌≡◌, ℕ, List, [], ◌∷◌, length, take, slice_index, get_or, refl, sym, ap, subst, ◌∙◌, arith}
use Rattle.std.proofs.lemmas.List.{get_or_default}
use Rattle.xr_block.specs.Trees.{blocks_of_tree, records_of_tree}
use Rattle.xr_block.specs.declared.root.Root.{Root}
use Rattle.xr_bmap.specs.File.{AreFileStates, IsFile, core_of_blocks, extents_in, pool_of_blocks, root_of_blocks, root_of_core}
use Rattle.xr_bmap.specs.Parts.{AreFileParts, HasFile, core_of, file_state_of}
use Rattle.xr_headers.specs.HeaderValueLaws.{core_in-core_block}
use Rattle.xr_headers.specs.Headers.{IsCore, core_block, core_in}
use Rattle.xr_headers.specs.declared.file_core.Core.{Core}
use Rattle.xr_headers.specs.declared.layout.TheConstants.{CORE_BYTES}
use Rattle.xr_kinds.specs.Mapping.{mapping_form}
use Rattle.xr_open.specs.PoolState.{pool_with}
use Rattle.xr_open.specs.PoolStateLaws.{marked_are_below, pool_same, unmarked_are_kept}
use Rattle.xr_pool.specs.Overlay.{AreBlocks, AreWhole, Blocks, all_dropped, changed_blocks, is_free}
use Rattle.xr_pool.specs.OverlayLaws.{changed_rise}
use Rattle.xr_tree.specs.Room.{IsFileTree}

pub one_byte : (xs : List ℕ) → length xs ≡ 1 → xs ≡ slice_index xs 0 ∷ []
one_byte [] long = absurd (omega (arith, long))
one_byte (x ∷ []) long = refl
one_byte (x ∷ y ∷ rest) long = absurd (omega (arith, long))

module _ (file : ℕ) (uuid : List ℕ) (b : Blocks) (t : Root) (h : HasFile file uuid b t) where
  pub core_read : core_of_blocks file uuid b.current ≡ core_of file uuid b t
  core_read =
      ap (λ (bytes : List ℕ). core_in (take CORE_BYTES bytes) file uuid) h.core
      ∙ core_in-core_block (core_of file uuid b t) file h.valid h.place.long refl

  pub pool_read : pool_of_blocks file uuid b.current ≡ pool_with b.current b.free b.first b.owner b.uuid
  pool_read = pool_same b.current b.current _ _ _ _ _ _ _ _ refl
      (ap (λ (core : Core). core.free ∷ []) core_read ∙ sym (one_byte b.free h.place.map)) (sym h.place.first) (sym h.place.owner) (sym h.place.uuid_kept)

  pub root_read : root_of_blocks file uuid b.current ≡ t
  root_read = ap root_of_core core_read

  tree_read : IsFileTree (pool_of_blocks file uuid b.current) (root_of_blocks file uuid b.current)
  tree_read =
      let seen : IsFileTree (pool_with b.current b.free b.first b.owner b.uuid) t =
      record { mapping = h.tree.mapping; pool = h.tree.pool; used = h.tree.used } in
      subst (λ (r : Root). IsFileTree (pool_of_blocks file uuid b.current) r) (sym root_read) (subst (λ (p : Blocks). IsFileTree p t) (sym pool_read) seen)

  pub is_file : AreWhole b.current → IsFile file uuid b.current
  is_file whole = record {
    whole = whole;
    core = record { valid = subst IsCore (sym core_read) h.valid; core = h.core ∙ ap core_block (sym core_read) };
    tree = tree_read;
  }

  pub extents_read : extents_in file uuid b.current ≡ records_of_tree mapping_form b t
  extents_read = ap (λ (r : Root). records_of_tree mapping_form b r) root_read

  pub blocks_read : blocks_of_tree mapping_form (pool_of_blocks file uuid b.current) (root_of_blocks file uuid b.current) ≡ blocks_of_tree mapping_form b t
  blocks_read = ap (λ (r : Root). blocks_of_tree mapping_form b r) root_read

  pub free_read : (n : ℕ) → is_free (pool_of_blocks file uuid b.current) n ≡ is_free b n
  free_read n = ap (λ (p : Blocks). is_free p n) pool_read

pub are_states : (file : ℕ) (uuid : List ℕ) (b : Blocks) (now kept : Root) → AreFileParts file uuid b now kept → AreBlocks b → AreWhole b.current
    → AreFileStates (file_state_of file uuid b)
are_states file uuid b now kept parts all whole = record {
  identified = parts.now_file.place.long;
  kept_file = is_file file uuid (all_dropped b) kept parts.kept_file parts.kept_whole;
  file = is_file file uuid b now parts.now_file whole;
  others = unmarked_are_kept b all;
  rising = changed_rise b;
  below = λ k d within.
      let long = parts.now_file.tree.pool in
      omega (arith, long, marked_are_below b all (get_or (changed_blocks b) k d) (k, within, get_or_default (changed_blocks b) k _ d within));
}
