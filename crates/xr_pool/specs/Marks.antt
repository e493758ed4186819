-- Which blocks of a pool are marked.
use Rattle.std.specs.Prelude.{◌≡◌, ℕ, suc, Bool, true, false, List, [], ◌∷◌, slice_index_or}

-- the places of the marks, from the first place n on
unfoldable pub marked : ℕ → List Bool → List ℕ
marked n [] = []
marked n (true ∷ marks) = n ∷ marked (suc n) marks
marked n (false ∷ marks) = marked (suc n) marks

-- two lists of blocks are the same where there is no mark
abbrev pub AreSameUnmarked : List (List ℕ) → List (List ℕ) → List Bool → Type 0
AreSameUnmarked xs ys marks = (n : ℕ) → slice_index_or marks n true ≡ false → slice_index_or xs n [] ≡ slice_index_or ys n []
