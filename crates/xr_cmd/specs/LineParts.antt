-- What is told by a part of a line while it is taken apart; of no public contract.
use Rattle.std.specs.Prelude.{◌≡◌, ℕ, ◌<◌, List, ◌∷◌, ◌^◌, ◌++◌}
use Rattle.std.specs.Fmt.{decimal}
use Rattle.xr_maps.specs.declared.steps.Step.{Step}
use Rattle.xr_text.specs.Text.{AreNumbers}
use Rattle.xr_cmd.specs.Script.{step_word, numbers_of}

-- the words after a line's first word, as a step of the kind that the first word says
pub record IsStepAfter (kind words : List ℕ) (step : Step) : Type 0 where
  pub same_kind : step_word step ≡ kind
  pub numbers : AreNumbers words (numbers_of step)

-- a number below 2^32 at the front of a text, as it is printed, and what follows the space after it
pub record IsNumberBefore (text : List ℕ) (n : ℕ) (rest : List ℕ) : Type 0 where
  pub small : n < 2 ^ 32
  pub printed : text ≡ decimal n ++ 32 ∷ rest
