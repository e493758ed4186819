-- Printed text: words with one space between them, lines of such words, and numbers as words.
use Rattle.std.specs.Prelude.{◌≡◌, ℕ, ◌<◌, ◌^◌, List, [], ◌∷◌, ◌++◌, map}
use Rattle.std.specs.Fmt.{decimal}

-- a space before each of the words
abbrev pub spaced : List (List ℕ) → List ℕ
spaced [] = []
spaced (word ∷ words) = 32 ∷ (word ++ spaced words)

-- the words with one space between them
abbrev pub words_of : List ℕ → List (List ℕ) → List ℕ
words_of word others = word ++ spaced others

-- the same as a line, which its newline ends
abbrev pub line_of : List ℕ → List (List ℕ) → List ℕ
line_of word others = words_of word others ++ 10 ∷ []

-- the number that a word prints, below 2^32
pub record IsNumber (word : List ℕ) (n : ℕ) : Type 0 where
  pub small : n < 2 ^ 32
  pub printed : word ≡ decimal n

-- each is below 2^32
abbrev pub AreSmall : List ℕ → Type 0
AreSmall [] = Unit {0}
AreSmall (n ∷ ns) = (n < 2 ^ 32) × AreSmall ns

-- a text of such numbers, one or more, with one space between them
pub record AreNumbers (text : List ℕ) (numbers : List ℕ) : Type 0 where
  pub small : AreSmall numbers
  pub printed : 32 ∷ text ≡ spaced (map decimal numbers)
