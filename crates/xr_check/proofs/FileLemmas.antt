-- The files of an image and what they map, one after another.
use Rattle.std.proofs.Common.{◌≡◌, ◌≢◌, ◌∙◌, ◌⊎◌, ℕ, ◌+◌, ◌<◌, ◌≤◌, List, None, Some, get_or, replicate, ap, sym, subst, refl, ⊎_elim, arith}
use Rattle.std.proofs.lemmas.Bool.{cases_lt}
use Rattle.std.proofs.lemmas.List.{get_or-replicate, get_or_past, length-replicate}
use Rattle.std.specs.FinMap as finite
use Rattle.std.specs.Ordering.{nat_cmp}
use Rattle.xr_base.specs.declared.geometry.TheConstants.{FILES, OFFSETS}
use Rattle.xr_bmap.specs.File.{FileState, slot_of_file}
use Rattle.xr_bmap.specs.OpenFile.{opened_file}
use Rattle.xr_bmap.specs.Slots.{mapped_in}
use Rattle.xr_check.proofs.FaultLemmas.{names_more}
use Rattle.xr_check.proofs.ImageMapLemmas.{maps_are}
use Rattle.xr_check.specs.CleanImages.{HasFilesBelow, IsFileOfImage, bytes_of_file, extents_of_file, maps_of_image}
use Rattle.xr_check.specs.Reading.{RefusesFiles, RefusesOneFile}
use Rattle.xr_check.specs.declared.fault.Broken.{Broken}
use Rattle.xr_check.specs.declared.fault.CheckFault.{CheckFault}
use Rattle.xr_maps.specs.FileMaps.{AreGoodMaps, FileMap, FileMaps, address_at, no_maps}

-- the maps have what the first files map
abbrev pub HaveFilesBelow : FileMaps → List ℕ → List ℕ → ℕ → Type 0
HaveFilesBelow maps image uuid n = (f o : ℕ) → f < n → o < OFFSETS → address_at maps f o ≡ mapped_in (extents_of_file image uuid f) o

abbrev pub HaveNoneFrom : FileMaps → ℕ → Type 0
HaveNoneFrom maps n = (f o : ℕ) → n ≤ f → address_at maps f o ≡ None

-- at first they have nothing
pub none_mapped : (maps : FileMaps) → maps ≡ no_maps → HaveNoneFrom maps 0
none_mapped maps is f o from =
    let none : FileMap = finite.empty in
    let all = replicate FILES none in
    let table : get_or maps f none ≡ none = ap (λ (ms : FileMaps). get_or ms f none) is ∙ ⊎_elim
    (λ (known : f < FILES). get_or-replicate FILES f none none known)
    (λ (past : FILES ≤ f). get_or_past all f none (omega (arith, length-replicate FILES none, past)))
    (cases_lt f FILES) in
    ap (λ (m : FileMap). finite.get m o) table ∙ finite.get-empty nat_cmp o

-- one file more
module _ (old new : FileMaps) (n : ℕ) (others : (f o : ℕ) → f ≢ n → address_at new f o ≡ address_at old f o) where
  pub file_more : (image uuid : List ℕ) (file : FileState) → file ≡ opened_file n uuid (bytes_of_file image n)
      → ((o : ℕ) → o < OFFSETS → address_at new n o ≡ slot_of_file file o) → HaveFilesBelow old image uuid n → HaveFilesBelow new image uuid (n + 1)
  file_more image uuid file is taken have f o below known = ⊎_elim
      (λ (less : f < n). others f o (omega (arith, less)) ∙ have f o less known)
      (λ (not_less : n ≤ f).
      let here : f ≡ n = omega (arith, below, not_less) in
      ap (λ (k : ℕ). address_at new k o) here ∙ taken o known ∙ ap (λ (s : FileState). slot_of_file s o) is
      ∙ ap (λ (k : ℕ). mapped_in (extents_of_file image uuid k) o) (sym here))
      (cases_lt f n)

  pub none_from_next : HaveNoneFrom old n → HaveNoneFrom new (n + 1)
  none_from_next none f o from = others f o (omega (arith, from)) ∙ none f o (omega (arith, from))

pub right_more : (image uuid : List ℕ) (n : ℕ) → HasFilesBelow image uuid n → IsFileOfImage image uuid n → HasFilesBelow image uuid (n + 1)
right_more image uuid n right here f below = ⊎_elim
    (λ (less : f < n). right f less)
    (λ (not_less : n ≤ f). let is : n ≡ f = omega (arith, below, not_less) in subst (IsFileOfImage image uuid) is here)
    (cases_lt f n)

pub first_refused : (image uuid : List ℕ) (n : ℕ) (fault : CheckFault) → n < FILES → HasFilesBelow image uuid n → RefusesOneFile image uuid n fault
    → RefusesFiles image uuid fault
first_refused image uuid n fault known right = names_more _ _
    (λ block rule broken. (n, record { known = known; before = right; cause = broken.0; refused = broken.1; told = broken.2 }))
    fault

-- all files
pub maps_are_of_image : (maps : FileMaps) (image uuid : List ℕ) → AreGoodMaps maps → HaveFilesBelow maps image uuid FILES → maps ≡ maps_of_image image uuid
unfolding maps_of_image
maps_are_of_image maps image uuid good have = maps_are maps (λ f. mapped_in (extents_of_file image uuid f)) good have
