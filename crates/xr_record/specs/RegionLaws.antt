-- What reading a region of a transaction tells of it.
use Rattle.std.proofs.Common.{◌≡◌, ℕ, List, Some, get_or, sym}
use Rattle.std.specs.Prelude.{slice_get}
use Rattle.std.proofs.lemmas.Option.{get_or_from_slice_get}

-- the region with a number is what an index with that number reads, whatever it would read past the end
pub region_read : (regions : List (List ℕ)) (at : ℕ) (region : List ℕ) → slice_get regions at ≡ Some region → region ≡ get_or regions at region
region_read regions at region is = sym (get_or_from_slice_get regions at region region is)
