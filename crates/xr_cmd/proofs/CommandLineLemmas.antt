-- Lists of words and the commands that they ask for.
use Rattle.std.proofs.Common.{◌≡◌, ◌≢◌, ℕ, Option, None, Some, List, [], ◌∷◌, length, codes, get_or, ap, sym, subst, arith}
use Rattle.std.specs.Prelude.{MatchOption}
use Rattle.xr_cmd.specs.declared.command_line.Command.{Command}
use Rattle.xr_cmd.specs.declared.command_line.Command.TheVariants.{Check, Expect, Mkfs, Show, ShowLog}
use Rattle.xr_cmd.specs.CommandLine.{IsCommand, IsImage, IsNoCommand, IsMkfs, IsShow, IsShowLog, IsShowOf}

-- a command has one word, two or three
pub no_command_of_length : (words : List (List ℕ)) → length words ≢ 1 → length words ≢ 2 → length words ≢ 3 → IsNoCommand words
no_command_of_length words not_one not_two not_three Expect asked = not_one (ap length asked)
no_command_of_length words not_one not_two not_three (Mkfs uuid) (image, text, is, asked) = not_three (ap length asked)
no_command_of_length words not_one not_two not_three Check (image, is, asked) = not_two (ap length asked)
no_command_of_length words not_one not_two not_three (Show part) (image, name, is, asked) = not_three (ap length asked)
no_command_of_length words not_one not_two not_three ShowLog (image, name, is, asked) = not_three (ap length asked)

-- two words that aren't `check` and an image
pub no_check : (kind image : List ℕ) → ¬ ((kind ≡ codes "check") × IsImage image) → IsNoCommand (kind ∷ image ∷ [])
no_check kind image not Expect asked = let e : length (kind ∷ image ∷ []) ≡ 1 = ap length asked in omega arith
no_check kind image not (Mkfs uuid) (image', text, has, asked) = let e : length (kind ∷ image ∷ []) ≡ 3 = ap length asked in omega arith
no_check kind image not Check (image', is, asked) =
    let first : kind ≡ codes "check" = cc in
    let same : image' ≡ image = cc in
    not (first, subst IsImage same is)
no_check kind image not (Show part) (image', name, has, asked) = let e : length (kind ∷ image ∷ []) ≡ 3 = ap length asked in omega arith
no_check kind image not ShowLog (image', name, has, asked) = let e : length (kind ∷ image ∷ []) ≡ 3 = ap length asked in omega arith

other_names : codes "mkfs" ≡ codes "show" → ⊥
other_names same = let first : get_or (codes "mkfs") 0 0 ≡ get_or (codes "show") 0 0 = ap (λ (word : List ℕ). get_or word 0 0) same in omega arith

-- three words that begin with `mkfs`
no_mkfs : (kind image last : List ℕ) → kind ≡ codes "mkfs" → ((id : List ℕ) → ¬ IsMkfs image last id) → IsNoCommand (kind ∷ image ∷ last ∷ [])
no_mkfs kind image last is none Expect asked = let e : length (kind ∷ image ∷ last ∷ []) ≡ 1 = ap length asked in omega arith
no_mkfs kind image last is none (Mkfs uuid) (image', text, has, asked) =
    let same_image : image' ≡ image = cc in
    let same_text : text ≡ last = cc in
    none uuid (subst (λ (t : List ℕ). IsMkfs image t uuid) same_text (subst (λ (i : List ℕ). IsMkfs i text uuid) same_image has))
no_mkfs kind image last is none Check (image', has, asked) = let e : length (kind ∷ image ∷ last ∷ []) ≡ 2 = ap length asked in omega arith
no_mkfs kind image last is none (Show part) (image', name, has, asked) = let same : codes "mkfs" ≡ codes "show" = cc in other_names same
no_mkfs kind image last is none ShowLog (image', name, has, asked) = let same : codes "mkfs" ≡ codes "show" = cc in other_names same

pub mkfs_command : (kind image last : List ℕ) (result : Option Command) → kind ≡ codes "mkfs"
    → MatchOption result ((id : List ℕ) → ¬ IsMkfs image last id) (λ command. (id : List ℕ) × (command ≡ Mkfs id) × IsMkfs image last id)
    → MatchOption result (IsNoCommand (kind ∷ image ∷ last ∷ [])) (IsCommand (kind ∷ image ∷ last ∷ []))
mkfs_command kind image last None is none = no_mkfs kind image last is none
mkfs_command kind image last (Some command) is (id, which, has) =
    subst (λ (c : Command). IsCommand (kind ∷ image ∷ last ∷ []) c) (sym which) (image, last, has, ap (λ (k : List ℕ). k ∷ image ∷ last ∷ []) is)

-- three words that begin with `show`
no_show : (kind image last : List ℕ) → kind ≡ codes "show" → ((command : Command) → ¬ IsShowOf image last command) → IsNoCommand (kind ∷ image ∷ last ∷ [])
no_show kind image last is none Expect asked = let e : length (kind ∷ image ∷ last ∷ []) ≡ 1 = ap length asked in omega arith
no_show kind image last is none (Mkfs uuid) (image', text, has, asked) = let same : codes "mkfs" ≡ codes "show" = cc in other_names same
no_show kind image last is none Check (image', has, asked) = let e : length (kind ∷ image ∷ last ∷ []) ≡ 2 = ap length asked in omega arith
no_show kind image last is none (Show part) (image', name, has, asked) =
    let same_image : image' ≡ image = cc in
    let same_name : name ≡ last = cc in
    none (Show part) (subst (λ (n : List ℕ). IsShow image n part) same_name (subst (λ (i : List ℕ). IsShow i name part) same_image has))
no_show kind image last is none ShowLog (image', name, has, asked) =
    let same_image : image' ≡ image = cc in
    let same_name : name ≡ last = cc in
    none ShowLog (subst (λ (n : List ℕ). IsShowLog image n) same_name (subst (λ (i : List ℕ). IsShowLog i name) same_image has))

pub show_command : (kind image last : List ℕ) (result : Option Command) → kind ≡ codes "show"
    → MatchOption result ((command : Command) → ¬ IsShowOf image last command) (IsShowOf image last)
    → MatchOption result (IsNoCommand (kind ∷ image ∷ last ∷ [])) (IsCommand (kind ∷ image ∷ last ∷ []))
show_command kind image last None is none = no_show kind image last is none
show_command kind image last (Some Expect) is has = absurd has
show_command kind image last (Some (Mkfs uuid)) is has = absurd has
show_command kind image last (Some Check) is has = absurd has
show_command kind image last (Some (Show part)) is has = (image, last, has, ap (λ (k : List ℕ). k ∷ image ∷ last ∷ []) is)
show_command kind image last (Some ShowLog) is has = (image, last, has, ap (λ (k : List ℕ). k ∷ image ∷ last ∷ []) is)
