-- What is said of the image that a disk tells, where it tells one.
use Rattle.std.specs.Prelude.{◌≡◌, List, ℕ, Option, Some}

abbrev pub WasSeen : Option (List ℕ) → (List ℕ → Type 0) → Type 0
WasSeen seen P = (image : List ℕ) → seen ≡ Some image → P image
