-- What is loaded of a clean image, and its verdict.
use Rattle.std.specs.Prelude.{◌≡◌, ℕ, List}
use Rattle.xr_check.specs.CleanImages.{IsCleanImage, groups_of_image, maps_of_image}
use Rattle.xr_check.specs.Verdicts.{IsVerdict}
use Rattle.xr_check.specs.declared.loaded.Loaded.{Loaded}
use Rattle.xr_check.specs.declared.verdict.Verdict.{Verdict}

-- the image is a clean one, and what its files map and its groups were loaded
pub record IsLoaded (image : List ℕ) (loaded : Loaded) : Type 0 where
  pub uuid : List ℕ
  pub clean : IsCleanImage image uuid
  pub maps : loaded.maps ≡ maps_of_image image uuid
  pub groups : loaded.groups.items ≡ groups_of_image image uuid

-- the image is a clean one, and this is the verdict of its groups by what its files map
pub record IsVerdictOn (image : List ℕ) (verdict : Verdict) : Type 0 where
  pub uuid : List ℕ
  pub clean : IsCleanImage image uuid
  pub is : IsVerdict (maps_of_image image uuid) (groups_of_image image uuid) verdict
