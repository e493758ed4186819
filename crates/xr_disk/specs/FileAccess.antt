-- What is read from a file and written to it, and where, as far as the file tells its position and its bytes.
use Rattle.std.specs.Prelude.{◌≡◌, ℕ, ◌*◌, ◌-◌, ◌<◌, ◌≤◌, Option, Some, IfSome, List, ◌++◌, length, take, replicate}
use Rattle.std.specs.Io.KnownBytes.{Appends, Consumes, IsAtEnd}
use Rattle.xr_base.specs.declared.geometry.TheConstants.{SECTOR_BYTES}

-- The buffer holds the next n bytes, and zeros after them, which begin only at the end.
pub record FillsUpTo (old new : Option (List ℕ)) (out : List ℕ) (n : ℕ) : Type 0 where
  pub fits : n ≤ length out
  pub taken : Consumes old new (take n out)
  pub zeros : out ≡ take n out ++ replicate (length out - n) 0
  pub ended : n < length out → IsAtEnd new

abbrev pub Fills : Option (List ℕ) → Option (List ℕ) → List ℕ → Type 0
Fills old new out = (n : ℕ) × FillsUpTo old new out n

-- the file went to a sector, and the buffer was filled from there
pub record ReadsSectors {F : Type 0} (position : F → Option ℕ) (remaining : F → Option (List ℕ)) (at : ℕ) (out : List ℕ) (old new : F) : Type 0 where
  pub there : F
  pub moved : IfSome (position old) (λ _. position there ≡ Some (SECTOR_BYTES * at))
  pub filled : Fills (remaining there) (remaining new) out

-- the file went to a sector, and all the bytes were written from there on
pub record WritesSectors {F : Type 0} (position : F → Option ℕ) (contents : F → Option (List ℕ)) (at : ℕ) (bytes : List ℕ) (old new : F) : Type 0 where
  pub there : F
  pub moved : IfSome (position old) (λ _. position there ≡ Some (SECTOR_BYTES * at))
  pub written : Appends (contents there) (contents new) bytes

-- The file that was open, or else the one that was opened, is open, and from the one to the other P holds.
pub record UsesFile {F : Type 0} (P : F → F → Type 0) (old new : Option F) : Type 0 where
  pub before : F
  pub after : F
  pub same : IfSome old (λ file. file ≡ before)
  pub is_open : new ≡ Some after
  pub between : P before after
