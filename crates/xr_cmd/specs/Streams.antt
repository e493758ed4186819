-- What reading a source and filling a sink in many calls do to their bytes. An object that tells nothing has `None`
-- for them, and each word then says nothing of them.
use Rattle.std.specs.Prelude.{◌≡◌, ◌⊎◌, ℕ, ◌<◌, ◌≤◌, Option, Some, IfSome, List, [], ◌++◌, length, take}
use Rattle.xr_disk.specs.Stream.{Took}

-- the bytes are the first of those that were left, so many, or all that there were
abbrev pub IsTakenFront : Option (List ℕ) → ℕ → List ℕ → Type 0
IsTakenFront left most bytes = IfSome left (λ all. bytes ≡ take most all)

-- unless the source failed, no more than so many bytes were taken from it
abbrev pub StaysWithin : Type 0 → ℕ → Option (List ℕ) → Option (List ℕ) → Type 0
StaysWithin Failed most old new = Failed ⊎ ((bytes : List ℕ) × (length bytes ≤ most) × Took old new bytes)

-- nothing is left, where the source tells
abbrev pub IsReadToEnd : Option (List ℕ) → Option (List ℕ) → Type 0
IsReadToEnd old new = IfSome old (λ _. new ≡ Some [])

-- all the bytes were appended to what was held
abbrev pub PutsAll : Option (List ℕ) → Option (List ℕ) → List ℕ → Type 0
PutsAll old new bytes = IfSome old (λ held. new ≡ Some (held ++ bytes))

-- the first n bytes were appended to what was held
pub record PutsFront (old new : Option (List ℕ)) (n : ℕ) (bytes : List ℕ) : Type 0 where
  pub fits : n ≤ length bytes
  pub appended : IfSome old (λ held. new ≡ Some (held ++ take n bytes))

-- some of the first bytes were, perhaps none, but not all
abbrev pub PutsSomeFront : Option (List ℕ) → Option (List ℕ) → List ℕ → Type 0
PutsSomeFront old new bytes = (n : ℕ) × (n < length bytes) × PutsFront old new n bytes
