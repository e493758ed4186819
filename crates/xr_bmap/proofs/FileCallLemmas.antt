-- What calls on the overlay and the tree leave of a file as it is seen.
use Rattle.std.proofs.Common.{◌≡◌, ◌⊎◌, ℕ, ◌+◌, ◌<◌, Bool, true, List, length, Option, refl, sym, ap, subst, ◌∙◌, inl, inr, ⊎_elim, arith}
use Rattle.std.specs.List.{Contains}
use Rattle.xr_base.specs.declared.address.Addr.{Addr}
use Rattle.xr_base.specs.declared.geometry.TheConstants.{FILES}
use Rattle.xr_block.specs.Trees.{blocks_of_tree}
use Rattle.xr_block.specs.declared.root.Root.{Root}
use Rattle.xr_bmap.proofs.FilePoolLemmas.{blocks_read, extents_read, free_read}
use Rattle.xr_bmap.specs.Bmap.{PunchesIn, RemapsIn, slot_in}
use Rattle.xr_bmap.specs.File.{ChangesFile, FileState, PunchesFile, RemapsFile, slot_of_file}
use Rattle.xr_bmap.specs.Parts.{AreFileParts, ChangesFileParts, HasFile, file_state_of}
use Rattle.xr_bmap.specs.Slots.{IsMappedRun, IsPieceAt, mapped_in, piece_len}
use Rattle.xr_bmap.specs.declared.bmap.Bmap.{Bmap}
use Rattle.xr_bmap.specs.declared.piece.Piece.{Piece}
use Rattle.xr_kinds.specs.Mapping.{mapping_form}
use Rattle.xr_kinds.specs.declared.mapping.Mapping.{Mapping}
use Rattle.xr_maps.specs.Steps.{punched_slot, remapped_slot}
use Rattle.xr_open.specs.PoolState.{dropped_to_kept, kept_now}
use Rattle.xr_pool.specs.Overlay.{AreWhole, Blocks, all_dropped, all_kept, is_changed, is_free}
use Rattle.xr_pool.specs.OverlayLaws.{changed_are_marked, none_changed}

pub number_known : (file : ℕ) (uuid : List ℕ) (b : Blocks) (t : Root) → HasFile file uuid b t → file < FILES
number_known file uuid b t h = omega (arith, h.valid.last_inode)

-- a fact about the slots of a file is one about those of its tree
pub piece_same : (slots slots' : ℕ → Option Addr) (off most : ℕ) (piece : Piece) → ((o : ℕ) → slots o ≡ slots' o) → IsPieceAt slots off most piece
    → IsPieceAt slots' off most piece
piece_same slots slots' off most piece same known = record {
  some = known.some;
  few = known.few;
  alike = λ i within. sym (same (off + i)) ∙ known.alike i within;
  longest = λ less is. known.longest less (same (off + piece_len piece) ∙ is);
}

pub run_same : (slots slots' : ℕ → Option Addr) (off len : ℕ) → ((o : ℕ) → slots o ≡ slots' o) → IsMappedRun slots' off len → IsMappedRun slots off len
run_same slots slots' off len same run = record { some = run.some; at = run.at; alike = λ i within. same (off + i) ∙ run.alike i within }

module _ (file : ℕ) (uuid : List ℕ) (a : Blocks) (s : Bmap) (before : HasFile file uuid a s.tree) where
  slot_read : (o : ℕ) → slot_of_file (file_state_of file uuid a) o ≡ slot_in a s o
  slot_read o = ap (λ (xs : List Mapping). mapped_in xs o) (extents_read file uuid a s.tree before)

  pub slots_are : (f : FileState) → file_state_of file uuid a ≡ f → (o : ℕ) → slot_in a s o ≡ slot_of_file f o
  slots_are f is o = sym (slot_read o) ∙ ap (λ (g : FileState). slot_of_file g o) is

module _ (file : ℕ) (uuid : List ℕ) (a b : Blocks) (s t : Bmap) (f : FileState) (is : file_state_of file uuid a ≡ f) (before : HasFile file uuid a s.tree)
    (after : HasFile file uuid b t.tree) where
  pub remaps_read : (off len : ℕ) (at : Addr) → RemapsIn off len at a s b t → RemapsFile off len at f (file_state_of file uuid b)
  remaps_read off len at maps o = slot_read file uuid b t after o ∙ maps o ∙ ap (remapped_slot off len at o) (slots_are file uuid a s before f is o)

  pub punches_read : (off len : ℕ) → PunchesIn off len a s b t → PunchesFile off len f (file_state_of file uuid b)
  punches_read off len maps o = slot_read file uuid b t after o ∙ maps o ∙ ap (punched_slot off len o) (slots_are file uuid a s before f is o)

module _ (file : ℕ) (uuid : List ℕ) (a b : Blocks) (s : Bmap) (before : HasFile file uuid a s.tree) where
  pub changes_read : ChangesFileParts a s.tree b → ChangesFile (file_state_of file uuid a) (file_state_of file uuid b)
  changes_read parts = record {
    number = refl;
    uuid = refl;
    kept = parts.kept;
    marked = λ n found. ⊎_elim
        (λ (was : is_changed a n ≡ true). inl ((changed_are_marked a n).1 was))
        (λ (other : (n ≡ 0) ⊎ Contains (blocks_of_tree mapping_form a s.tree) n ⊎ (is_free a n ≡ true)). inr (⊎_elim inl
        (λ (own : Contains (blocks_of_tree mapping_form a s.tree) n ⊎ (is_free a n ≡ true)). inr (⊎_elim
        (λ (mine : Contains (blocks_of_tree mapping_form a s.tree) n).
        inl (subst (λ (ns : List ℕ). Contains ns n) (sym (blocks_read file uuid a s.tree before)) mine))
        (λ (free : is_free a n ≡ true). inr (free_read file uuid a s.tree before n ∙ free))
        own))
        other))
        (parts.marked n ((changed_are_marked b n).0 found));
    core = λ found. ⊎_elim (λ (was : is_changed a 0 ≡ true). inl ((changed_are_marked a 0).1 was)) inr (parts.differs ((changed_are_marked b 0).0 found));
    few = parts.few;
  }

module _ (file : ℕ) (uuid : List ℕ) (b : Blocks) (t : Root) (h : HasFile file uuid b t) where
  -- what was kept is no part of a file as it is now
  at_rest : (kept : List (List ℕ)) (kept_free : List ℕ) (changed : List Bool) → length kept_free ≡ 1
      → HasFile file uuid (record b { kept = kept; kept_free = kept_free; changed = changed }) t
  at_rest kept kept_free changed map = record {
    place = record {
      first = h.place.first;
      owner = h.place.owner;
      uuid_kept = h.place.uuid_kept;
      long = h.place.long;
      map = h.place.map;
      kept_map = map;
    };
    tree = record { mapping = h.tree.mapping; pool = h.tree.pool; used = h.tree.used };
    valid = h.valid;
    core = h.core;
  }

module _ (file : ℕ) (uuid : List ℕ) (a : Blocks) (now kept : Root) (parts : AreFileParts file uuid a now kept) where
  pub parts_after : (b : Blocks) (new : Root) → ChangesFileParts a now b → HasFile file uuid b new → AreFileParts file uuid b new kept
  parts_after b new change file_now = record {
    now_file = file_now;
    kept_file = subst (λ (c : Blocks). HasFile file uuid c kept) (sym change.dropped) parts.kept_file;
    kept_whole = subst AreWhole (sym change.kept) parts.kept_whole;
  }

  pub parts_kept : AreWhole a.current → AreFileParts file uuid (all_kept a) now now
  parts_kept whole = record {
    now_file = at_rest file uuid a now parts.now_file a.current a.free (all_kept a).changed parts.now_file.place.map;
    kept_file = at_rest file uuid a now parts.now_file a.current a.free (all_kept a).changed parts.now_file.place.map;
    kept_whole = whole;
  }

  pub parts_dropped : AreFileParts file uuid (all_dropped a) kept kept
  parts_dropped = record { now_file = parts.kept_file; kept_file = parts.kept_file; kept_whole = parts.kept_whole }

-- what is now is kept, and what was kept is back, as the file is seen
pub kept_view : (file : ℕ) (uuid : List ℕ) (b : Blocks) → file_state_of file uuid (all_kept b) ≡ kept_now (file_state_of file uuid b)
kept_view file uuid b = ap (λ (ns : List ℕ). record (kept_now (file_state_of file uuid b)) { changed = ns }) (none_changed b.current)

pub dropped_view : (file : ℕ) (uuid : List ℕ) (b : Blocks) → file_state_of file uuid (all_dropped b) ≡ dropped_to_kept (file_state_of file uuid b)
dropped_view file uuid b = ap (λ (ns : List ℕ). record (dropped_to_kept (file_state_of file uuid b)) { changed = ns }) (none_changed b.kept)
