-- The table of commands: the words that ask for each.
use Rattle.std.specs.Prelude.{◌≡◌, ℕ, List, [], ◌∷◌, map, codes, Some}
use Rattle.std.specs.Borrow.{Bor}
use Rattle.uuid.specs.Text.{parsed}
use Rattle.xr_cmd.specs.declared.command_line.Command.{Command}
use Rattle.xr_cmd.specs.declared.command_line.Command.TheVariants.{Check, Expect, Mkfs, Show, ShowLog}
use Rattle.xr_cmd.specs.declared.command_line.Part.{Part}
use Rattle.xr_cmd.specs.declared.command_line.Part.TheVariants.{Files, Free, Owners, Shared}

-- the bytes of each word
abbrev pub texts_of : List (Bor (List ℕ)) → List (List ℕ)
texts_of words = map (λ word. word.now) words

-- a word that doesn't begin with a dash
abbrev pub IsPlain : List ℕ → Type 0
IsPlain [] = Unit {0}
IsPlain (byte ∷ bytes) = ¬ (byte ≡ 45)

-- the name of an image isn't empty either
abbrev pub IsImage : List ℕ → Type 0
IsImage [] = ⊥
IsImage (byte ∷ bytes) = ¬ (byte ≡ 45)

-- the word for a part of an image
abbrev pub name_of : Part → List ℕ
name_of Files = codes "files"
name_of Owners = codes "owners"
name_of Shared = codes "shared"
name_of Free = codes "free"

-- the words after `mkfs` are an image and a text of the identifier, and those after `show` an image and the part's name,
-- or `log`
pub record IsMkfs (image text uuid : List ℕ) : Type 0 where
  pub names_image : IsImage image
  pub parses : parsed text ≡ Some uuid

pub record IsShow (image word : List ℕ) (part : Part) : Type 0 where
  pub names_image : IsImage image
  pub name : word ≡ name_of part

pub record IsShowLog (image word : List ℕ) : Type 0 where
  pub names_image : IsImage image
  pub name : word ≡ codes "log"

-- the words after `show` ask for the command
abbrev pub IsShowOf : List ℕ → List ℕ → Command → Type 0
IsShowOf image word (Show part) = IsShow image word part
IsShowOf image word ShowLog = IsShowLog image word
IsShowOf image word _ = ⊥

-- the words ask for the command
abbrev pub IsCommand : List (List ℕ) → Command → Type 0
IsCommand words Expect = words ≡ codes "expect" ∷ []
IsCommand words (Mkfs uuid) = (image : List ℕ) × (text : List ℕ) × IsMkfs image text uuid × (words ≡ codes "mkfs" ∷ image ∷ text ∷ [])
IsCommand words Check = (image : List ℕ) × IsImage image × (words ≡ codes "check" ∷ image ∷ [])
IsCommand words (Show part) = (image : List ℕ) × (name : List ℕ) × IsShow image name part × (words ≡ codes "show" ∷ image ∷ name ∷ [])
IsCommand words ShowLog = (image : List ℕ) × (name : List ℕ) × IsShowLog image name × (words ≡ codes "show" ∷ image ∷ name ∷ [])

-- they ask for none
abbrev pub IsNoCommand : List (List ℕ) → Type 0
IsNoCommand words = (command : Command) → ¬ IsCommand words command

-- whatever command the words ask for has P
abbrev pub AsksOnly : List (List ℕ) → (Command → Type 0) → Type 0
AsksOnly words P = (command : Command) → IsCommand words command → P command

-- commands that read no script, make no call on the disk, only read it, or format it
abbrev pub ReadsNoScript : Command → Type 0
ReadsNoScript Expect = ⊥
ReadsNoScript (Mkfs uuid) = Unit {0}
ReadsNoScript Check = Unit {0}
ReadsNoScript (Show part) = Unit {0}
ReadsNoScript ShowLog = Unit {0}

abbrev pub UsesNoDisk : Command → Type 0
UsesNoDisk Expect = Unit {0}
UsesNoDisk (Mkfs uuid) = ⊥
UsesNoDisk Check = ⊥
UsesNoDisk (Show part) = ⊥
UsesNoDisk ShowLog = ⊥

abbrev pub ReadsDisk : Command → Type 0
ReadsDisk Expect = ⊥
ReadsDisk (Mkfs uuid) = ⊥
ReadsDisk Check = Unit {0}
ReadsDisk (Show part) = Unit {0}
ReadsDisk ShowLog = Unit {0}

abbrev pub FormatsDisk : Command → Type 0
FormatsDisk Expect = ⊥
FormatsDisk (Mkfs uuid) = Unit {0}
FormatsDisk Check = ⊥
FormatsDisk (Show part) = ⊥
FormatsDisk ShowLog = ⊥
