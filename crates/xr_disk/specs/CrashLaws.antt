-- What writes leave of an image.
use Rattle.std.specs.Prelude.{ℕ, ◌+◌, ◌≤◌, List, length, refl}
use Rattle.std.proofs.Common.{arith}
use Rattle.std.proofs.lemmas.Grind.{common_steps}
use Rattle.xr_base.specs.Image.{overlaid}
use Rattle.xr_base.specs.ImageLaws.{length-overlaid}
use Rattle.xr_disk.specs.Crash.{SameOutside}

pub overlaid_outside : (at : ℕ) (bytes image : List ℕ) → at + length bytes ≤ length image → SameOutside at (length bytes) image (overlaid at bytes image)
overlaid_outside at bytes image fits = record {
  below = grind (arith, common_steps);
  above = grind (arith, common_steps);
  long = length-overlaid at bytes image fits;
}

pub unchanged_outside : (at n : ℕ) (image : List ℕ) → SameOutside at n image image
unchanged_outside at n image = record { below = refl; above = refl; long = refl }
