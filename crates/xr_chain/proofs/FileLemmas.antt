-- What some files map, by the file that is listed.
use Rattle.std.proofs.Common.{◌≡◌, ◌≢◌, ℕ, ◌<◌, ◌≤◌, List, Some, None, slice_get, refl, sym, ◌∙◌, ap, subst, ⊎_elim, arith}
use Rattle.std.proofs.lemmas.Bool.{cases_lt}
use Rattle.std.proofs.lemmas.List.{get_or-map, get_or-set_other, map-set}
use Rattle.std.proofs.lemmas.Option.{get_or_from_slice_get, slice_get_within}
use Rattle.std.specs.FinMap as finite
use Rattle.std.specs.Prelude.{IsSome, slice_index_or}
use Rattle.xr_base.specs.declared.geometry.TheConstants.{OFFSETS}
use Rattle.xr_bmap.specs.File.{AreFileStates, FileState, slot_of_file}
use Rattle.xr_bmap.specs.MappedBlockLaws.{mapped_blocks_are_data}
use Rattle.xr_chain.proofs.ListedLemmas.{set_here}
use Rattle.xr_chain.specs.CommittedBlocks.{IsListed, maps_of_files, with_state}
use Rattle.xr_maps.specs.FileMapLaws.{get-tabulated, get-tabulated_past}
use Rattle.xr_maps.specs.FileMaps.{FileMap, FileMaps, address_at, tabulated}

-- nothing is mapped past the last offset
pub past_none : (f : FileState) → AreFileStates f → (o : ℕ) → OFFSETS ≤ o → slot_of_file f o ≡ None
past_none f are o past = elim (slot_of_file f o) as (λ s. slot_of_file f o ≡ s → s ≡ None) [
  | None ↦ λ _. refl
  | Some a ↦ λ e. absurd (omega (arith, past, (mapped_blocks_are_data f.number f.uuid f.blocks are.file o).1 (subst IsSome (sym e) refl)))
] refl

abbrev map_of_file : FileState → FileMap
map_of_file f = tabulated OFFSETS (slot_of_file f)

pub map_slots : (f : FileState) → AreFileStates f → (o : ℕ) → finite.get (map_of_file f) o ≡ slot_of_file f o
map_slots f are o = ⊎_elim
    (λ (below : o < OFFSETS). get-tabulated OFFSETS (slot_of_file f) o below)
    (λ (past : OFFSETS ≤ o). get-tabulated_past OFFSETS (slot_of_file f) o past ∙ sym (past_none f are o past))
    (cases_lt o OFFSETS)

module _ (files : List FileState) (f : FileState) (listed : IsListed files f) where
  pub map_here : slice_index_or (maps_of_files files) f.number finite.empty ≡ map_of_file f
  map_here =
      get_or-map map_of_file files f.number f finite.empty (slice_get_within files f.number f listed)
      ∙ ap map_of_file (get_or_from_slice_get files f.number f f listed)

  pub address_here : AreFileStates f → (o : ℕ) → address_at (maps_of_files files) f.number o ≡ slot_of_file f o
  address_here are o = ap (λ (m : FileMap). finite.get m o) map_here ∙ map_slots f are o

-- and after it changed
module _ (files : List FileState) (old new : FileState) (listed : IsListed files old) (number : new.number ≡ old.number) where
  there : slice_get files new.number ≡ Some old
  there = ap (slice_get files) number ∙ listed

  pub listed_after : IsListed (with_state files new) new
  listed_after = set_here files new.number old new there

  pub address_elsewhere : (f o : ℕ) → f ≢ old.number → address_at (maps_of_files (with_state files new)) f o ≡ address_at (maps_of_files files) f o
  address_elsewhere f o other =
      let away : f ≢ new.number = λ h. other (h ∙ number) in
      ap (λ (maps : FileMaps). address_at maps f o) (map-set map_of_file files new.number new)
      ∙ ap (λ (m : FileMap). finite.get m o) (get_or-set_other (maps_of_files files) new.number f (map_of_file new) finite.empty away)
