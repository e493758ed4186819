-- How far a script was read, and what that says of its bad lines and its steps.
use Rattle.std.proofs.Common.{◌≡◌, ℕ, zero, suc, ◌+◌, ◌-◌, ◌<◌, ◌≤◌, ◌⊎◌, Bool, true, false, cond, not, eqb, List, [], ◌∷◌, ◌++◌, length, get_or, take, drop, sum_by, min, arith, sym, ap, ◌∙◌, refl, inl, inr, ⊎_elim, subst, length-take, length-drop, length-append, append_assoc}
use Rattle.std.specs.List.{onto_first, position_or_len, before_first, after_first}
use Rattle.std.proofs.Math.Seq.{take-append_seam, get_or-append_seam}
use Rattle.std.proofs.lemmas.List.{take-append-le, get_or_append_left, append-nil}
use Rattle.std.proofs.lemmas.List.Sums.{sum_by_push, sum_by-take-le}
use Rattle.xr_maps.specs.declared.steps.Step.{Step}
use Rattle.xr_cmd.specs.Script.{lines_of, size_of, PassesBytes, IsPassedOver, LineGives, AreStepsOfLines, none, passed, given, IsBadWithin, IsFirstBadWithin, IsMeaningless}

abbrev pub is_newline : ℕ → Bool
is_newline byte = eqb byte 10

split_cons : (newline : Bool) (byte : ℕ) (bytes : List ℕ) → (0 < length bytes → lines_of bytes ≡ before_first is_newline bytes ∷ lines_of (after_first is_newline bytes)) → cond newline ([] ∷ lines_of bytes) (onto_first byte (lines_of bytes)) ≡ take (cond (not newline) (1 + position_or_len is_newline bytes) 0) (byte ∷ bytes) ∷ lines_of (drop (cond (not newline) (1 + position_or_len is_newline bytes) 0 + 1) (byte ∷ bytes))
split_cons true byte bytes rest = refl
split_cons false byte [] rest = refl
split_cons false byte (next ∷ bytes) rest =
    let k : ℕ = position_or_len is_newline (next ∷ bytes) in
    let front : 1 + k ≡ suc k = omega arith in
    let back : 1 + k + 1 ≡ suc (k + 1) = omega arith in
    ap (λ lines. onto_first byte lines) (rest (omega arith)) ∙ sym (ap (λ n. take n (byte ∷ next ∷ bytes) ∷ lines_of (drop (1 + k + 1) (byte ∷ next ∷ bytes))) front ∙ ap (λ n. (byte ∷ take k (next ∷ bytes)) ∷ lines_of (drop n (byte ∷ next ∷ bytes))) back)

-- the first line, and the lines of the bytes after it
lines_of-split : (bytes : List ℕ) → 0 < length bytes → lines_of bytes ≡ before_first is_newline bytes ∷ lines_of (after_first is_newline bytes)
lines_of-split [] some = absurd (omega arith)
lines_of-split (byte ∷ bytes) some = split_cons (eqb byte 10) byte bytes (lines_of-split bytes)

lines_of-empty : (bytes : List ℕ) → length bytes ≡ 0 → lines_of bytes ≡ []
lines_of-empty [] empty = refl
lines_of-empty (byte ∷ bytes) empty = absurd (omega arith)

-- a line and the bytes after it are the first of some bytes
pub record IsSplit (bytes line after : List ℕ) : Type 0 where
  pub lines : lines_of bytes ≡ line ∷ lines_of after
  pub shorter : length after < length bytes
  pub size : length bytes - length after ≡ min (length line + 1) (length bytes)

pub split : (bytes line after : List ℕ) → 0 < length bytes → line ≡ before_first is_newline bytes → after ≡ after_first is_newline bytes → IsSplit bytes line after
split bytes line after some is_line is_after =
    let k : ℕ = position_or_len is_newline bytes in
    let line_size : length line ≡ min k (length bytes) = ap (λ (xs : List ℕ). length xs) is_line ∙ length-take k bytes in
    let after_size : length after ≡ length bytes - (k + 1) = ap (λ (xs : List ℕ). length xs) is_after ∙ length-drop (k + 1) bytes in
    record {
      lines = rw (is_line, is_after) (lines_of-split bytes some);
      shorter = omega arith;
      size = omega arith;
    }

-- a line that is passed over or gives a step isn't wrong
not_wrong : {lines : List (List ℕ)} {steps : List Step} (i : ℕ) → AreStepsOfLines lines steps → i < length lines → ¬ IsMeaningless (get_or lines i [])
not_wrong i none below = absurd (omega arith)
not_wrong zero (passed over read) below = λ wrong. wrong.not_passed_over over
not_wrong zero (given {step} gives read) below = λ wrong. wrong.no_step step gives
not_wrong (suc i) (passed over read) below = not_wrong i read (omega arith)
not_wrong (suc i) (given gives read) below = not_wrong i read (omega arith)

AreStepsOfLines-append : {lines others : List (List ℕ)} {steps more : List Step} → AreStepsOfLines lines steps → AreStepsOfLines others more → AreStepsOfLines (lines ++ others) (steps ++ more)
AreStepsOfLines-append none read = read
AreStepsOfLines-append (passed over front) read = passed over (AreStepsOfLines-append front read)
AreStepsOfLines-append (given gives front) read = given gives (AreStepsOfLines-append front read)

module _ (max_lines max_bytes : ℕ) where
  -- the script was read up to its last bytes: so many lines, with these steps, and none of them is bad
  pub record IsReadTo (bytes rest : List ℕ) (number : ℕ) (steps : List Step) : Type 0 where
    pub done : List (List ℕ)
    pub lines : lines_of bytes ≡ done ++ lines_of rest
    pub count : length done ≡ number
    pub place : length bytes - length rest ≡ min (sum_by size_of done) (length bytes)
    pub within : length rest ≤ length bytes
    pub few_lines : number ≤ max_lines
    pub few_bytes : length bytes - length rest ≤ max_bytes
    pub gives : AreStepsOfLines done steps

  pub read_none : (bytes : List ℕ) → IsReadTo bytes bytes 0 []
  read_none bytes = record {
    done = [];
    lines = refl;
    count = refl;
    place = omega arith;
    within = omega arith;
    few_lines = omega arith;
    few_bytes = omega arith;
    gives = none;
  }

  -- one more line, with the steps that it gives
  read_more : (bytes rest : List ℕ) (number : ℕ) (steps : List Step) (line after : List ℕ) (more : List Step) → IsReadTo bytes rest number steps → IsSplit rest line after → number + 1 ≤ max_lines → length bytes - length after ≤ max_bytes → AreStepsOfLines (line ∷ []) more → IsReadTo bytes after (number + 1) (steps ++ more)
  read_more bytes rest number steps line after more read split few_lines few_bytes gives =
      let last : List (List ℕ) = line ∷ [] in
      record {
        done = read.done ++ last;
        lines = read.lines ∙ (ap (λ lines. read.done ++ lines) split.lines ∙ sym (append_assoc read.done last (lines_of after)));
        count = omega (arith, length-append read.done last, read.count);
        place = omega (arith, sum_by_push size_of read.done line, read.place, split.size, split.shorter, read.within);
        within = omega (arith, split.shorter, read.within);
        few_lines = few_lines;
        few_bytes = few_bytes;
        gives = AreStepsOfLines-append read.gives gives;
      }

  pub read_passed : (bytes rest : List ℕ) (number : ℕ) (steps : List Step) (line after : List ℕ) → IsReadTo bytes rest number steps → IsSplit rest line after → number + 1 ≤ max_lines → length bytes - length after ≤ max_bytes → IsPassedOver line → IsReadTo bytes after (number + 1) steps
  read_passed bytes rest number steps line after read split few_lines few_bytes over =
      subst (λ all. IsReadTo bytes after (number + 1) all) (append-nil steps) (read_more bytes rest number steps line after [] read split few_lines few_bytes (passed over none))

  pub read_step : (bytes rest : List ℕ) (number : ℕ) (steps : List Step) (line after : List ℕ) (step : Step) → IsReadTo bytes rest number steps → IsSplit rest line after → number + 1 ≤ max_lines → length bytes - length after ≤ max_bytes → LineGives line step → IsReadTo bytes after (number + 1) (steps ++ step ∷ [])
  read_step bytes rest number steps line after step read split few_lines few_bytes gives =
      read_more bytes rest number steps line after (step ∷ []) read split few_lines few_bytes (given gives none)

  -- no line that was read is bad
  read_not_bad : (bytes rest : List ℕ) (number : ℕ) (steps : List Step) (n : ℕ) → IsReadTo bytes rest number steps → n ≤ number → ¬ IsBadWithin max_lines max_bytes bytes n
  read_not_bad bytes rest number steps n read below bad =
      let front : take n (lines_of bytes) ≡ take n read.done = ap (λ lines. take n lines) read.lines ∙ take-append-le n read.done (lines_of rest) (omega (arith, read.count)) in
      let line : get_or (lines_of bytes) (n - 1) [] ≡ get_or read.done (n - 1) [] = ap (λ lines. get_or lines (n - 1) []) read.lines ∙ get_or_append_left read.done (lines_of rest) [] (n - 1) (omega (arith, read.count, bad.from_one)) in
      ⊎_elim
      (λ many. omega (arith, read.few_lines))
      (λ why. ⊎_elim
      (λ (passes : PassesBytes max_bytes bytes n).
      let size = rw front at passes.1 in
      absurd (omega (arith, size, passes.0, sum_by-take-le size_of read.done n, read.place, read.few_bytes)))
      (λ wrong. not_wrong (n - 1) read.gives (omega (arith, read.count, bad.from_one)) (subst (λ text. IsMeaningless text) line wrong))
      why)
      bad.why

  -- the next line is the first bad one, where it passes a limit or is wrong
  pub read_bad : (bytes rest : List ℕ) (number : ℕ) (steps : List Step) (line after : List ℕ) → IsReadTo bytes rest number steps → IsSplit rest line after → (max_lines < number + 1) ⊎ (max_bytes < length bytes - length after) ⊎ IsMeaningless line → IsFirstBadWithin max_lines max_bytes bytes (number + 1)
  read_bad bytes rest number steps line after read split why =
      let last : List (List ℕ) = line ∷ [] in
      let lines : lines_of bytes ≡ read.done ++ (line ∷ lines_of after) = read.lines ∙ ap (λ lines. read.done ++ lines) split.lines in
      let front : take (number + 1) (lines_of bytes) ≡ read.done ++ last =
      ap (λ lines. take (number + 1) lines) (lines ∙ sym (append_assoc read.done last (lines_of after)))
      ∙ (ap (λ n. take n ((read.done ++ last) ++ lines_of after)) (omega (arith, length-append read.done last, read.count)) ∙ take-append_seam (read.done ++ last) (lines_of after)) in
      let text : line ≡ get_or (lines_of bytes) (number + 1 - 1) [] =
      sym (ap (λ lines. get_or lines (number + 1 - 1) []) lines ∙ (ap (λ n. get_or (read.done ++ (line ∷ lines_of after)) n []) (omega (arith, read.count)) ∙ get_or-append_seam read.done line (lines_of after) [])) in
      record {
        bad = record {
          from_one = omega arith;
          there = omega (arith, ap (λ (lines : List (List ℕ)). length lines) lines, length-append read.done (line ∷ lines_of after), read.count);
          why = ⊎_elim
              inl
              (λ (why : (max_bytes < length bytes - length after) ⊎ IsMeaningless line). inr (⊎_elim
              (λ (size : max_bytes < length bytes - length after). inl (omega arith, rw front (omega (arith, sum_by_push size_of read.done line, read.place, split.size, split.shorter, read.within))))
              (λ wrong. inr (subst (λ text. IsMeaningless text) text wrong))
              why))
              why;
        };
        first = λ n below. read_not_bad bytes rest number steps n read (omega arith);
      }

  -- no line is left
  pub read_all : (bytes rest : List ℕ) (number : ℕ) (steps : List Step) → IsReadTo bytes rest number steps → length rest ≡ 0 → AreStepsOfLines (lines_of bytes) steps × ((n : ℕ) → ¬ IsBadWithin max_lines max_bytes bytes n)
  read_all bytes rest number steps read empty =
      let lines : lines_of bytes ≡ read.done = read.lines ∙ (ap (λ lines. read.done ++ lines) (lines_of-empty rest empty) ∙ append-nil read.done) in (
        subst (λ lines. AreStepsOfLines lines steps) (sym lines) read.gives,
        λ n bad. read_not_bad bytes rest number steps n read (omega (arith, bad.there, ap (λ (lines : List (List ℕ)). length lines) lines, read.count)) bad,
      )
