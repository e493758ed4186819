-- What a call of a source or of a sink does to its bytes. An object that tells nothing has `None`
-- for them, and each word then says nothing of them.
use Rattle.std.specs.Prelude.{◌≡◌, ℕ, ◌<◌, ◌≤◌, ◌↔◌, Option, Some, IfSome, List, [], ◌++◌, length, take}

-- the bytes were taken from the front of what was left
abbrev pub Took : Option (List ℕ) → Option (List ℕ) → List ℕ → Type 0
Took old new bytes = IfSome old (λ all. (rest : List ℕ) × (new ≡ Some rest) × (all ≡ bytes ++ rest))

-- the first n bytes of the buffer were taken, and none only at the end
pub record TakesFront (old new : Option (List ℕ)) (n : ℕ) (out : List ℕ) : Type 0 where
  pub fits : n ≤ length out
  pub taken : Took old new (take n out)
  pub ended : IfSome old (λ bytes. (n ≡ 0) ↔ (bytes ≡ []))

-- the first n bytes, at least one, were appended to what was held
pub record AppendsFront (old new : Option (List ℕ)) (n : ℕ) (bytes : List ℕ) : Type 0 where
  pub some : 0 < n
  pub fits : n ≤ length bytes
  pub appended : IfSome old (λ held. new ≡ Some (held ++ take n bytes))

-- what was held is held
abbrev pub Keeps : Option (List ℕ) → Option (List ℕ) → Type 0
Keeps old new = IfSome old (λ held. new ≡ Some held)
