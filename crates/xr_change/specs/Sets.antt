-- The records of a tree with one more, with one less, and with another in the place of one, as lists and as sets.
use Rattle.std.specs.Prelude.{◌≡◌, ◌≢◌, ◌↔◌, ◌⊎◌, if◌then◌else◌, List, [], ◌∷◌}
use Rattle.std.specs.Ordering.{is_eq, is_lt}
use Rattle.std.specs.declared.cmp.Ordering.{Ordering}

-- a record stands in front of the first that isn't below it
unfoldable pub inserted : {X : Type 0} → (X → X → Ordering) → X → List X → List X
inserted order r [] = r ∷ []
inserted order r (x ∷ xs) = if is_lt (order x r) then x ∷ inserted order r xs else r ∷ x ∷ xs

unfoldable pub removed : {X : Type 0} → (X → X → Ordering) → X → List X → List X
removed order r [] = []
removed order r (x ∷ xs) = if is_eq (order x r) then xs else x ∷ removed order r xs

unfoldable pub replaced : {X : Type 0} → (X → X → Ordering) → X → X → List X → List X
replaced order old new [] = []
replaced order old new (x ∷ xs) = if is_eq (order x old) then new ∷ xs else x ∷ replaced order old new xs

-- one more, one less, and another in the place of one
abbrev pub Gains : {X : Type 0} → (X → Type 0) → X → (X → Type 0) → Type 0
Gains {X} before r after = (x : X) → after x ↔ ((x ≡ r) ⊎ before x)

abbrev pub Loses : {X : Type 0} → (X → Type 0) → X → (X → Type 0) → Type 0
Loses {X} before r after = (x : X) → after x ↔ ((x ≢ r) × before x)

abbrev pub Swaps : {X : Type 0} → (X → Type 0) → X → X → (X → Type 0) → Type 0
Swaps {X} before old new after = (x : X) → after x ↔ ((x ≡ new) ⊎ ((x ≢ old) × before x))
