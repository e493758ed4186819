-- An image holds one state at most, whatever is said of other blocks.
use Rattle.std.specs.Prelude.{ℕ, List}
use Rattle.xr_scan.specs.State.{Holds, IsSameState, State}

abbrev pub IsOneState : Type 0
IsOneState = (image : List ℕ) (one two : State) → Holds image one → Holds image two → IsSameState one two

abbrev pub SameIsHeld : Type 0
SameIsHeld = (image : List ℕ) (one two : State) → Holds image one → IsSameState one two → Holds image two
