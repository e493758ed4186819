-- What is committed is a function of the blocks alone, and what a listed file and a listed group tell of it.
use Rattle.std.proofs.Common.{◌≡◌, ℕ, ◌+◌, ◌/◌, false, List, [], ◌∷◌, Some, None, map, slice_get, refl, sym, ◌∙◌, ap, arith}
use Rattle.std.proofs.lemmas.List.{length-map, length-set}
use Rattle.std.proofs.lemmas.Option.{slice_get-map}
use Rattle.std.specs.Option.{option_map}
use Rattle.xr_base.specs.declared.geometry.TheConstants.{GROUP_BLOCKS, OFFSETS, OWN_COW}
use Rattle.xr_bmap.specs.File.{FileState, slot_of_file}
use Rattle.xr_bmap.specs.declared.piece.Piece.TheVariants.{Hole, Mapped}
use Rattle.xr_chain.proofs.FileLemmas.{address_here}
use Rattle.xr_chain.proofs.ListedLemmas.{set_elsewhere, set_here}
use Rattle.xr_chain.specs.CommittedBlocks.{committed_of, group_of_block, has_file_pair, maps_of_files, told_by}
use Rattle.xr_chain.specs.CommittedLaws.{CommittedIsOfBlocks, ListedFilesAreMapped, ListedGroupsTell, LookupsAreFound, PutIsListed}
use Rattle.xr_group.specs.Group.{GroupState}
use Rattle.xr_group.specs.Sets.{has_free, has_pair, has_staged, owner_count_in}
use Rattle.xr_maps.specs.FileMaps.{tabulated}
use Rattle.xr_open.specs.PoolState.{kept_now}

maps_kept : (files : List FileState) → maps_of_files (map kept_now files) ≡ maps_of_files files
maps_kept [] = refl
maps_kept (f ∷ files) = ap (λ maps. tabulated OFFSETS (slot_of_file f) ∷ maps) (maps_kept files)

-- what says the same of what was kept says the same of all
told_kept : {A : Type 0} (none : A) (tells : GroupState → A) (groups : List GroupState) (k : ℕ) → ((g : GroupState) → tells (kept_now g) ≡ tells g)
    → told_by none tells (slice_get (map kept_now groups) k) ≡ told_by none tells (slice_get groups k)
told_kept none tells groups k same =
    ap (told_by none tells) (slice_get-map kept_now groups k)
    ∙ elim (slice_get groups k) as (λ o. told_by none tells (option_map kept_now o) ≡ told_by none tells o) [ None ↦ refl | Some g ↦ same g ]

committed_kept : (files : List FileState) (groups : List GroupState) → committed_of (map kept_now files) (map kept_now groups) ≡ committed_of files groups
committed_kept files groups = λ i. record {
  groups = length-map groups kept_now i;
  maps = maps_kept files i;
  has_pair = λ f o b. told_kept false (λ g. has_file_pair g f o b) groups (b / GROUP_BLOCKS) (λ g. refl) i;
  has_staging_pair = λ b. told_kept false (λ g. has_pair g OWN_COW 0 b) groups (b / GROUP_BLOCKS) (λ g. refl) i;
  counted = λ b. told_kept 1 (λ g. owner_count_in g b) groups (b / GROUP_BLOCKS) (λ g. refl) i;
  is_staged = λ b. told_kept false (λ g. has_staged g b) groups (b / GROUP_BLOCKS) (λ g. refl) i;
  is_free = λ b. told_kept false (λ g. has_free g b) groups (b / GROUP_BLOCKS) (λ g. refl) i;
}

pub committed_is_of_blocks : CommittedIsOfBlocks
committed_is_of_blocks files files' groups groups' same also =
    sym (committed_kept files groups)
    ∙ ap (λ (x : List FileState). committed_of x (map kept_now groups)) same
    ∙ ap (λ (x : List GroupState). committed_of (map kept_now files') x) also
    ∙ committed_kept files' groups'

pub lookups_are_found : LookupsAreFound
lookups_are_found files groups f off len (Mapped at size) listed are piece whole = (
  whole.1,
  whole.0,
  λ k inside. address_here files f listed are (off + k) ∙ piece.alike k (omega (arith, inside, whole.0)),
)
lookups_are_found files groups f off len (Hole size) listed are piece whole =
    λ k inside. address_here files f listed are (off + k) ∙ piece.alike k (omega (arith, inside, whole))

pub listed_files_are_mapped : ListedFilesAreMapped
listed_files_are_mapped files groups f listed are o = address_here files f listed are o

pub listed_groups_tell : ListedGroupsTell
listed_groups_tell files groups g b listed here =
    let there : group_of_block groups b ≡ Some g = ap (slice_get groups) here ∙ listed in
    record {
      pairs = λ f o. ap (told_by false (λ g. has_file_pair g f o b)) there;
      staging_pair = ap (told_by false (λ g. has_pair g OWN_COW 0 b)) there;
      counted = ap (told_by 1 (λ g. owner_count_in g b)) there;
      staged = ap (told_by false (λ g. has_staged g b)) there;
      free = ap (told_by false (λ g. has_free g b)) there;
    }

pub put_is_listed : PutIsListed
put_is_listed states old new listed number =
    let there : slice_get states new.number ≡ Some old = ap (slice_get states) number ∙ listed in
    record {
      listed = set_here states new.number old new there;
      others = set_elsewhere states new.number old new there;
      size = length-set states new.number new;
    }
