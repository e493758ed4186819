-- What a script of mapping steps says, told by how its lines are printed.
use Rattle.std.specs.Prelude.{◌≡◌, ℕ, ◌+◌, ◌-◌, ◌<◌, ◌≤◌, ◌==◌, if◌then◌else◌, ◌⊎◌, List, [], ◌∷◌, length, map, take, sum_by, codes, slice_index_or}
use Rattle.std.specs.List.{onto_first}
use Rattle.std.specs.Fmt.{decimal}
use Rattle.xr_maps.specs.declared.steps.Step.{Step}
use Rattle.xr_maps.specs.declared.steps.Step.TheVariants.{Remap, Punch, Exchange}
use Rattle.xr_maps.specs.Steps.{Fits}
use Rattle.xr_cmd.specs.declared.script.ScriptFault.{ScriptFault}
use Rattle.xr_cmd.specs.declared.script.ScriptFault.TheVariants.{Line, NoMemory}
use Rattle.xr_cmd.specs.declared.script.TheConstants.{MAX_LINES, MAX_BYTES}
use Rattle.xr_text.specs.Text.{words_of}

-- the word that begins the line of a step, and the numbers after it
abbrev pub step_word : Step → List ℕ
step_word (Remap file off len at) = codes "remap"
step_word (Punch file off len) = codes "punch"
step_word (Exchange file off other other_off len) = codes "exchange"

abbrev pub numbers_of : Step → List ℕ
numbers_of (Remap file off len at) = file.0 ∷ off ∷ len ∷ at.0 ∷ []
numbers_of (Punch file off len) = file.0 ∷ off ∷ len ∷ []
numbers_of (Exchange file off other other_off len) = file.0 ∷ off ∷ other.0 ∷ other_off ∷ len ∷ []

-- the line of a step, without its newline
abbrev pub text_of_step : Step → List ℕ
text_of_step step = words_of (step_word step) (map decimal (numbers_of step))

-- the line stands for the step
pub record LineGives (line : List ℕ) (step : Step) : Type 0 where
  pub fits : Fits step
  pub text : line ≡ text_of_step step

-- an empty line, or a comment, which begins with `#`
abbrev pub IsPassedOver : List ℕ → Type 0
IsPassedOver [] = Unit {0}
IsPassedOver (byte ∷ bytes) = byte ≡ 35

-- the line says nothing that a line may say
pub record IsMeaningless (line : List ℕ) : Type 0 where
  pub not_passed_over : ¬ IsPassedOver line
  pub no_step : (step : Step) → ¬ LineGives line step

-- the lines without the newlines that end them: each other byte goes onto the first line of the bytes after it
abbrev pub lines_of : List ℕ → List (List ℕ)
lines_of [] = []
lines_of (byte ∷ bytes) = if byte == 10 then [] ∷ lines_of bytes else onto_first byte (lines_of bytes)

-- the bytes of a line with its newline
abbrev pub size_of : List ℕ → ℕ
size_of line = length line + 1

-- the first byte past the limit is there, and stands in the first `n` lines
abbrev pub PassesBytes : ℕ → List ℕ → ℕ → Type 0
PassesBytes max_bytes bytes n = (max_bytes < length bytes) × (max_bytes < sum_by size_of (take n (lines_of bytes)))

-- the line of this number, from 1 on, is there, and it passes a limit or is wrong
pub record IsBadWithin (max_lines max_bytes : ℕ) (bytes : List ℕ) (n : ℕ) : Type 0 where
  pub from_one : 0 < n
  pub there : n ≤ length (lines_of bytes)
  pub why : (max_lines < n) ⊎ PassesBytes max_bytes bytes n ⊎ IsMeaningless (slice_index_or (lines_of bytes) (n - 1) [])

-- the line of this number is bad, and none before it is
pub record IsFirstBadWithin (max_lines max_bytes : ℕ) (bytes : List ℕ) (n : ℕ) : Type 0 where
  pub bad : IsBadWithin max_lines max_bytes bytes n
  pub first : (m : ℕ) → m < n → ¬ IsBadWithin max_lines max_bytes bytes m

-- a bad line of a script, numbered from 1 on
abbrev pub IsBadLine : List ℕ → ℕ → Type 0
IsBadLine = IsBadWithin MAX_LINES MAX_BYTES

-- the first of them
abbrev pub IsFirstBadLine : List ℕ → ℕ → Type 0
IsFirstBadLine = IsFirstBadWithin MAX_LINES MAX_BYTES

-- there is none
abbrev pub HasNoBadLine : List ℕ → Type 0
HasNoBadLine bytes = (n : ℕ) → ¬ IsBadLine bytes n

-- the steps of some lines in their order: a line that is passed over has none, and each other line has one
pub data AreStepsOfLines : List (List ℕ) → List Step → Type 0 where
  none : AreStepsOfLines [] []
  passed : {line : List ℕ} {lines : List (List ℕ)} {steps : List Step} → IsPassedOver line → AreStepsOfLines lines steps → AreStepsOfLines (line ∷ lines) steps
  given : {line : List ℕ} {lines : List (List ℕ)} {step : Step} {steps : List Step} → LineGives line step → AreStepsOfLines lines steps → AreStepsOfLines (line ∷ lines) (step ∷ steps)

-- the steps of a script
abbrev pub AreStepsOf : List ℕ → List Step → Type 0
AreStepsOf bytes = AreStepsOfLines (lines_of bytes)

-- the number is that of the first bad line, and want of memory has no cause in the script
abbrev pub IsScriptFault : List ℕ → ScriptFault → Type 0
IsScriptFault bytes (Line number) = IsFirstBadLine bytes number
IsScriptFault bytes NoMemory = Unit {0}
