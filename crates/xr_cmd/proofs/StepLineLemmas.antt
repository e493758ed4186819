-- The lines of steps: what a line with a step begins with, and that a line gives one step.
use Rattle.std.proofs.Common.{◌≡◌, ◌≢◌, ℕ, ◌<◌, Bool, true, ltb, List, [], ◌∷◌, ◌++◌, length, get_or, map, codes, Option, None, Some, MatchOption, Bor, arith, sym, ap, ◌∙◌, refl, subst}
use Rattle.std.specs.Prelude.{All, ◌&&◌}
use Rattle.std.specs.List.{list_all}
use Rattle.std.specs.Fmt.{decimal}
use Rattle.std.specs.Str.{IsUtf8, IsAscii}
use Rattle.std.proofs.lemmas.Bool.{and_parts, ltb-true}
use Rattle.std.proofs.lemmas.List.Elements.{All-cons}
use Rattle.std.proofs.lemmas.List.Sums.{AllPass-from_list_all}
use Rattle.std.proofs.lemmas.Str.{IsAscii-append, IsUtf8-from_ascii}
use Rattle.std.proofs.lemmas.Str.Ascii.{IsAscii-from_all}
use Rattle.std.proofs.lemmas.Str.Pattern.{IsSplitOnceResult, split_after}
use Rattle.xr_base.specs.declared.address.Addr.{Addr}
use Rattle.xr_base.specs.declared.address.FileNo.{FileNo}
use Rattle.xr_maps.specs.declared.steps.Step.{Step}
use Rattle.xr_maps.specs.declared.steps.Step.TheVariants.{Remap, Punch, Exchange}
use Rattle.xr_maps.specs.Steps.{Fits}
use Rattle.xr_text.specs.Text.{AreSmall, AreNumbers, spaced}
use Rattle.xr_cmd.specs.LineParts.{IsStepAfter}
use Rattle.xr_cmd.specs.Script.{step_word, numbers_of, LineGives, IsPassedOver, text_of_step, AreStepsOfLines, none, passed, given}
use Rattle.xr_cmd.proofs.NumberLemmas.{AreNumbers-same, IsAscii-spaced, first_space}

-- the numbers of a step that fits are small
numbers_small : (step : Step) → Fits step → AreSmall (numbers_of step)
numbers_small (Remap file off len at) fits =
    let start = fits.1.data_blocks 0 fits.1.some in
    (omega (arith, fits.0.file_there), (omega (arith, fits.0.within), (omega (arith, fits.0.within), (omega (arith, start.group), tt))))
numbers_small (Punch file off len) fits =
    (omega (arith, fits.file_there), (omega (arith, fits.within), (omega (arith, fits.within), tt)))
numbers_small (Exchange file off other other_off len) fits =
    (omega (arith, fits.0.file_there), (omega (arith, fits.0.within), (omega (arith, fits.1.file_there), (omega (arith, fits.1.within), (omega (arith, fits.0.within), tt)))))

-- the kind of a step is a word of ASCII
abbrev is_letter : ℕ → Bool
is_letter byte = ltb 32 byte && ltb byte 128

kind_letters : (step : Step) → list_all is_letter (step_word step) ≡ true
kind_letters (Remap file off len at) = refl
kind_letters (Punch file off len) = refl
kind_letters (Exchange file off other other_off len) = refl

kind_letter : (step : Step) (i : ℕ) → i < length (step_word step) → is_letter (get_or (step_word step) i 0) ≡ true
kind_letter step i below = AllPass-from_list_all is_letter (step_word step) (kind_letters step) i 0 below

kind_no_space : (step : Step) (i : ℕ) → i < length (step_word step) → get_or (step_word step) i 0 ≢ 32
kind_no_space step i below space =
    let above = ltb-true 32 (get_or (step_word step) i 0) ((and_parts _ _ (kind_letter step i below)).0) in absurd (omega arith)

kind_ascii : (step : Step) → IsAscii (step_word step)
kind_ascii step = IsAscii-from_all (step_word step) (λ i d below. grind (arith, kind_letter))

pub LineGives-IsUtf8 : (line : List ℕ) (step : Step) → LineGives line step → IsUtf8 line
LineGives-IsUtf8 line step gives =
    let ascii = IsAscii-append (step_word step) (spaced (map decimal (numbers_of step))) (kind_ascii step) (IsAscii-spaced (numbers_of step) (numbers_small step gives.fits)) in
    rw gives.text (IsUtf8-from_ascii (text_of_step step) ascii)

-- a line with a step begins with its kind, and the numbers follow after a space
LineGives-words : (line : List ℕ) (step : Step) → LineGives line step → (words : List ℕ) × (line ≡ step_word step ++ 32 ∷ words) × AreNumbers words (numbers_of step)
LineGives-words line (Remap file off len at) gives = (_, gives.text, record { small = numbers_small (Remap file off len at) gives.fits; printed = refl })
LineGives-words line (Punch file off len) gives = (_, gives.text, record { small = numbers_small (Punch file off len) gives.fits; printed = refl })
LineGives-words line (Exchange file off other other_off len) gives =
    (_, gives.text, record { small = numbers_small (Exchange file off other other_off len) gives.fits; printed = refl })

-- so they are what stands on both sides of its first space
pub LineGives-split : (line : List ℕ) (step : Step) (r : Option (Bor (List ℕ) × Bor (List ℕ))) → IsSplitOnceResult 32 line r → LineGives line step
    → MatchOption r ⊥ (λ parts. IsStepAfter parts.0.now parts.1.now step)
LineGives-split line step r split gives =
    let words = LineGives-words line step gives in
    let found = split_after 32 line (step_word step) words.0 r split (omega arith) words.1 (kind_no_space step) in
    elim r as (λ o. MatchOption o ⊥ (λ x. (x.0.now ≡ step_word step) × (x.1.now ≡ words.0)) → MatchOption o ⊥ (λ parts. IsStepAfter parts.0.now parts.1.now step)) [
      | None ↦ λ none. none
      | Some parts ↦ λ same. record { same_kind = sym same.0; numbers = rw same.1 words.2 }
    ] found

same_file : (file file' : FileNo) → file.0 ≡ file'.0 → file ≡ file'
same_file file file' same = ap (λ n. let number : FileNo = record { 0 = n } in number) same

-- kinds with other first letters are other kinds
other_kind : (kind kind' : List ℕ) → get_or kind 0 0 ≢ get_or kind' 0 0 → kind ≡ kind' → ⊥
other_kind kind kind' letters same = letters (ap (λ (word : List ℕ). get_or word 0 0) same)

-- which steps there are of each kind, and how many numbers follow it
pub IsStepAfter-remap : (words : List ℕ) (step : Step) → IsStepAfter (codes "remap") words step
    → (file : FileNo) × (off len : ℕ) × (at : Addr) × (step ≡ Remap file off len at) × AreNumbers words (file.0 ∷ off ∷ len ∷ at.0 ∷ [])
IsStepAfter-remap words (Remap file off len at) is = (file, off, len, at, refl, is.numbers)
IsStepAfter-remap words (Punch file off len) is = absurd (other_kind _ _ (λ e. omega arith) is.same_kind)
IsStepAfter-remap words (Exchange file off other other_off len) is = absurd (other_kind _ _ (λ e. omega arith) is.same_kind)

pub IsStepAfter-punch : (words : List ℕ) (step : Step) → IsStepAfter (codes "punch") words step
    → (file : FileNo) × (off len : ℕ) × (step ≡ Punch file off len) × AreNumbers words (file.0 ∷ off ∷ len ∷ [])
IsStepAfter-punch words (Punch file off len) is = (file, off, len, refl, is.numbers)
IsStepAfter-punch words (Remap file off len at) is = absurd (other_kind _ _ (λ e. omega arith) is.same_kind)
IsStepAfter-punch words (Exchange file off other other_off len) is = absurd (other_kind _ _ (λ e. omega arith) is.same_kind)

pub IsStepAfter-exchange : (words : List ℕ) (step : Step) → IsStepAfter (codes "exchange") words step
    → (file : FileNo) × (off : ℕ) × (other : FileNo) × (other_off len : ℕ) × (step ≡ Exchange file off other other_off len)
    × AreNumbers words (file.0 ∷ off ∷ other.0 ∷ other_off ∷ len ∷ [])
IsStepAfter-exchange words (Exchange file off other other_off len) is = (file, off, other, other_off, len, refl, is.numbers)
IsStepAfter-exchange words (Remap file off len at) is = absurd (other_kind _ _ (λ e. omega arith) is.same_kind)
IsStepAfter-exchange words (Punch file off len) is = absurd (other_kind _ _ (λ e. omega arith) is.same_kind)

same_address : (at at' : Addr) → at.0 ≡ at'.0 → at ≡ at'
same_address at at' same = ap (λ n. let address : Addr = record { 0 = n } in address) same

-- the words of a line stand for one step
pub IsStepAfter-same : (kind words : List ℕ) (s t : Step) → IsStepAfter kind words s → IsStepAfter kind words t → s ≡ t
IsStepAfter-same kind words (Remap file off len at) t first second =
    let also = IsStepAfter-remap words t (record { same_kind = second.same_kind ∙ sym first.same_kind; numbers = second.numbers }) in
    let same = AreNumbers-same words (file.0 ∷ off ∷ len ∷ at.0 ∷ []) (also.0.0 ∷ also.1 ∷ also.2 ∷ also.3.0 ∷ []) refl first.numbers also.5 in
    cc (same_file file also.0 (cc), same_address at also.3 (cc), also.4)
IsStepAfter-same kind words (Punch file off len) t first second =
    let also = IsStepAfter-punch words t (record { same_kind = second.same_kind ∙ sym first.same_kind; numbers = second.numbers }) in
    let same = AreNumbers-same words (file.0 ∷ off ∷ len ∷ []) (also.0.0 ∷ also.1 ∷ also.2 ∷ []) refl first.numbers also.4 in
    cc (same_file file also.0 (cc), also.3)
IsStepAfter-same kind words (Exchange file off other other_off len) t first second =
    let also = IsStepAfter-exchange words t (record { same_kind = second.same_kind ∙ sym first.same_kind; numbers = second.numbers }) in
    let same = AreNumbers-same words (file.0 ∷ off ∷ other.0 ∷ other_off ∷ len ∷ []) (also.0.0 ∷ also.1 ∷ also.2.0 ∷ also.3 ∷ also.4 ∷ []) refl first.numbers also.6 in
    cc (same_file file also.0 (cc), same_file other also.2 (cc), also.5)

-- a line has one step, and one that is passed over has none: so a script has one list of steps
LineGives-same : (line : List ℕ) (s t : Step) → LineGives line s → LineGives line t → s ≡ t
LineGives-same line s t first second =
    let a = LineGives-words line s first in
    let b = LineGives-words line t second in
    let parts = first_space (step_word s) (step_word t) a.0 b.0 (kind_no_space s) (kind_no_space t) (sym a.1 ∙ b.1) in
    IsStepAfter-same (step_word t) b.0 s t (record { same_kind = parts.0; numbers = rw (← parts.1) a.2 }) (record { same_kind = refl; numbers = b.2 })

text_not_passed_over : (step : Step) → ¬ IsPassedOver (text_of_step step)
text_not_passed_over (Remap file off len at) hash = absurd (omega arith)
text_not_passed_over (Punch file off len) hash = absurd (omega arith)
text_not_passed_over (Exchange file off other other_off len) hash = absurd (omega arith)

LineGives-not_passed_over : (line : List ℕ) (step : Step) → LineGives line step → ¬ IsPassedOver line
LineGives-not_passed_over line step gives over = text_not_passed_over step (subst (λ text. IsPassedOver text) gives.text over)

pub AreStepsOfLines-same : {lines : List (List ℕ)} {first second : List Step} → AreStepsOfLines lines first → AreStepsOfLines lines second → first ≡ second
AreStepsOfLines-same none none = refl
AreStepsOfLines-same (passed over first) (passed _ second) = AreStepsOfLines-same first second
AreStepsOfLines-same (passed over first) (given {line} {step = step} gives second) = absurd (LineGives-not_passed_over line step gives over)
AreStepsOfLines-same (given {line} {step = step} gives first) (passed over second) = absurd (LineGives-not_passed_over line step gives over)
AreStepsOfLines-same (given {line} {step = s} gives first) (given {step = t} also second) = cc (LineGives-same line s t gives also, AreStepsOfLines-same first second)

-- the steps of lines fit
pub All-fits : (lines : List (List ℕ)) (steps : List Step) → AreStepsOfLines lines steps → All Fits steps
All-fits _ _ none = λ k d h. absurd (omega arith)
All-fits _ _ (passed {line} {lines} {steps} over rest) = All-fits lines steps rest
All-fits _ _ (given {line} {lines} {step} {steps} gives rest) = All-cons Fits step steps gives.fits (All-fits lines steps rest)
