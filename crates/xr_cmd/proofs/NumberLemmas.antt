-- Printed numbers as words: which texts they are, and that a space ends them.
use Rattle.std.proofs.Common.{◌≡◌, ◌≢◌, ℕ, suc, ◌<◌, ◌≤◌, ◌^◌, List, [], ◌∷◌, ◌++◌, length, get_or, Result, Ok, Err, MatchOption, arith, sym, ⊎_elim, length-drop, ◌∙◌, ap, refl, map}
use Rattle.std.specs.Result.{result_ok}
use Rattle.std.specs.Fmt.{decimal}
use Rattle.std.specs.Int.{IsInRange}
use Rattle.std.specs.Str.Parse.{digits_value, ParsesUnsigned}
use Rattle.xr_cmd.specs.LineParts.{IsNumberBefore}
use Rattle.xr_text.specs.Text.{words_of, AreSmall, IsNumber, AreNumbers, spaced}
use Rattle.std.proofs.lemmas.Bool.{cases_lt}
use Rattle.std.specs.Str.{IsAscii}
use Rattle.std.proofs.lemmas.Str.{IsAscii-append}
use Rattle.std.proofs.lemmas.Str.Ascii.{IsAscii-nil, IsAscii-cons}
use Rattle.std.proofs.lemmas.List.{append-nil}
use Rattle.std.proofs.lemmas.Str.Parse.{IsNumeralModel, numerals_by_value, tells_by_index, parse_plus, parse_plain, not_in_digits}
use Rattle.std.proofs.lemmas.Fmt.{digits_decimal, decimal-digits_value, parse-decimal, first_decimal, decimal_digit, decimal_injective, IsAscii-decimal}

-- each byte is a digit
abbrev AreDigits : List ℕ → Type 0
AreDigits ds = (i : ℕ) → i < length ds → IsInRange 48 57 (get_or ds i 0)

digits : IsNumeralModel AreDigits (digits_value 10)
digits = numerals_by_value _ tells_by_index

pub decimal_no_space : (n : ℕ) → n < 2 ^ 32 → (i : ℕ) → i < length (decimal n) → get_or (decimal n) i 0 ≢ 32
decimal_no_space n small i = not_in_digits digits (decimal n) 32 (digits_decimal digits n (omega arith)) (λ range. absurd (omega (arith, range.0))) i

-- a longer number begins with another digit than 0
pub decimal_first : (word : List ℕ) (n : ℕ) → n < 2 ^ 32 → word ≡ decimal n → 1 < length word → 48 < get_or word 0 0
decimal_first word n small is longer =
    ⊎_elim
    (λ (low : n < 1). let one = decimal_digit n (omega arith) in absurd (omega (arith, ap length is, ap length one)))
    (λ (high : 1 ≤ n). omega (arith, first_decimal n (omega arith) (omega arith), ap (λ (ds : List ℕ). get_or ds 0 0) is))
    (cases_lt n 1)

-- what `parse` reads of a word with no sign and no leading zero
pub number_from_parse : {E : Type 0} (word : List ℕ) (r : Result ℕ E) → ParsesUnsigned 32 10 word r → (1 < length word → 48 < get_or word 0 0) → MatchOption (result_ok r) ((n : ℕ) → ¬ IsNumber word n) (IsNumber word)
number_from_parse word (Err e) parses first = λ n is. let wrong = parse-decimal 32 n word (Err e) is.small (omega (arith, is.small)) is.printed parses in absurd (cc)
number_from_parse {E} word (Ok n) parses first =
    let sign : get_or word 0 0 ≢ 43 = λ plus. let rest = parse_plus digits {E = E} 32 word (Ok n) parses plus in absurd (omega (arith, rest.0.1, length-drop 1 word, first)) in
    let read = parse_plain digits {E = E} 32 word (Ok n) parses sign in
    let one : get_or word 0 0 ≡ 48 → length word ≡ 1 = λ zero. ⊎_elim
    (λ (longer : 1 < length word). absurd (omega (arith, first longer)))
    (λ (short : length word ≤ 1). omega (arith, read.0.1))
    (cases_lt 1 (length word)) in
    let printed = decimal-digits_value digits word read.0.0 read.0.1 one (omega (arith, read.0.2)) in
    record { small = omega (arith, read.0.2, read.1); printed = sym (ap decimal read.1 ∙ printed) }

-- a text has one first space
pub first_space : (a b x y : List ℕ) → ((i : ℕ) → i < length a → get_or a i 0 ≢ 32) → ((i : ℕ) → i < length b → get_or b i 0 ≢ 32) → a ++ (32 ∷ x) ≡ b ++ (32 ∷ y) → (a ≡ b) × (x ≡ y)
first_space [] [] x y none_a none_b same = (refl, cc)
first_space [] (d ∷ b) x y none_a none_b same = absurd (none_b 0 (omega arith) (cc))
first_space (c ∷ a) [] x y none_a none_b same = absurd (none_a 0 (omega arith) (cc))
first_space (c ∷ a) (d ∷ b) x y none_a none_b same =
    let rest : a ++ (32 ∷ x) ≡ b ++ (32 ∷ y) = cc in
    let parts = first_space a b x y (λ i below. none_a (suc i) (omega arith)) (λ i below. none_b (suc i) (omega arith)) rest in
    let head : c ≡ d = cc in
    (cc (head, parts.0), parts.1)

-- the number at the front of a text, and what follows it, are one
pub number_same : (m n : ℕ) (x y : List ℕ) → m < 2 ^ 32 → n < 2 ^ 32 → decimal m ++ (32 ∷ x) ≡ decimal n ++ (32 ∷ y) → (m ≡ n) × (x ≡ y)
number_same m n x y small_m small_n same =
    let parts = first_space (decimal m) (decimal n) x y (decimal_no_space m small_m) (decimal_no_space n small_n) same in
    (decimal_injective m n (omega arith) (omega arith) parts.0, parts.1)

-- so are the numbers of a text, where there are so many
numbers_same : (ms ns : List ℕ) → AreSmall ms → AreSmall ns → length ms ≡ length ns → spaced (map decimal ms) ≡ spaced (map decimal ns) → ms ≡ ns
numbers_same [] [] small_m small_n many same = refl
numbers_same [] (n ∷ ns) small_m small_n many same = absurd (omega arith)
numbers_same (m ∷ ms) [] small_m small_n many same = absurd (omega arith)
numbers_same (m ∷ []) (n ∷ []) small_m small_n many same =
    let texts : decimal m ++ [] ≡ decimal n ++ [] = cc in
    cc (decimal_injective m n (omega (arith, small_m.0)) (omega (arith, small_n.0)) (sym (append-nil (decimal m)) ∙ (texts ∙ append-nil (decimal n))))
numbers_same (m ∷ []) (n ∷ n' ∷ ns) small_m small_n many same = absurd (omega arith)
numbers_same (m ∷ m' ∷ ms) (n ∷ []) small_m small_n many same = absurd (omega arith)
numbers_same (m ∷ m' ∷ ms) (n ∷ n' ∷ ns) small_m small_n many same =
    let texts : decimal m ++ spaced (map decimal (m' ∷ ms)) ≡ decimal n ++ spaced (map decimal (n' ∷ ns)) = cc in
    let front = number_same m n _ _ small_m.0 small_n.0 texts in
    cc (front.0, numbers_same (m' ∷ ms) (n' ∷ ns) small_m.1 small_n.1 (omega arith) (ap (λ rest. 32 ∷ rest) front.1))

pub AreNumbers-same : (text : List ℕ) (ms ns : List ℕ) → length ms ≡ length ns → AreNumbers text ms → AreNumbers text ns → ms ≡ ns
AreNumbers-same text ms ns many first second = numbers_same ms ns first.small second.small many (sym first.printed ∙ second.printed)

-- the first of some numbers, and those after it
pub AreNumbers-front : (text : List ℕ) (m k : ℕ) (others : List ℕ) → AreNumbers text (m ∷ k ∷ others) → IsNumberBefore text m (words_of (decimal k) (map decimal others))
AreNumbers-front text m k others are = record { small = are.small.0; printed = let printed = are.printed in cc }

pub AreNumbers-rest : (text : List ℕ) (n : ℕ) (rest : List ℕ) (m k : ℕ) (others : List ℕ) → IsNumberBefore text n rest → AreNumbers text (m ∷ k ∷ others) → AreNumbers rest (k ∷ others)
AreNumbers-rest text n rest m k others front are =
    let whole = AreNumbers-front text m k others are in
    let parts = number_same n m rest (words_of (decimal k) (map decimal others)) front.small whole.small (sym front.printed ∙ whole.printed) in
    record { small = are.small.1; printed = ap (λ words. 32 ∷ words) parts.1 }

pub AreNumbers-last : (text : List ℕ) (n : ℕ) → AreNumbers text (n ∷ []) → IsNumber text n
AreNumbers-last text n are =
    let texts : text ≡ decimal n ++ [] = let printed = are.printed in cc in
    record { small = are.small.0; printed = texts ∙ append-nil (decimal n) }

-- printed numbers are ASCII
pub IsAscii-spaced : (numbers : List ℕ) → AreSmall numbers → IsAscii (spaced (map decimal numbers))
IsAscii-spaced [] small = IsAscii-nil
IsAscii-spaced (n ∷ numbers) small =
    IsAscii-cons 32 _ (omega arith) (IsAscii-append (decimal n) (spaced (map decimal numbers)) (IsAscii-decimal n (omega (arith, small.0))) (IsAscii-spaced numbers small.1))
