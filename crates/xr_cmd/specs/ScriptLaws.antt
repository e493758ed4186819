-- What holds of the bad lines of a script, for any limits: a reader that stops one byte past the limit finds the same
-- first bad line as one that reads on.
use Rattle.std.proofs.Common.{◌≡◌, ℕ, zero, suc, ◌+◌, ◌-◌, ◌<◌, ◌≤◌, Bool, true, false, cond, eqb, List, [], ◌∷◌, ◌++◌, length, get_or, take, drop, sum_by, arith, sym, ap, ◌∙◌, refl, inl, inr, ⊎_elim, subst, length-take, length-append, take-append-drop}
use Rattle.std.specs.List.{onto_first}
use Rattle.std.proofs.Math.Seq.{take-length}
use Rattle.std.proofs.lemmas.Bool.{cases_lt}
use Rattle.std.proofs.lemmas.List.{get_or-take}
use Rattle.std.proofs.lemmas.List.Sums.{sum_by-cons}
use Rattle.xr_cmd.specs.declared.script.TheConstants.{MAX_LINES, MAX_BYTES}
use Rattle.xr_cmd.specs.Script.{lines_of, size_of, IsBadWithin, IsFirstBadWithin, IsFirstBadLine, HasNoBadLine, IsMeaningless}

-- the lines of a front of some bytes, beside the lines of all of them: the last may go on
data AreFrontLines : List (List ℕ) → List (List ℕ) → Type 0 where
  none : (whole : List (List ℕ)) → AreFrontLines [] whole
  last : (line more : List ℕ) (rest : List (List ℕ)) → AreFrontLines (line ∷ []) ((line ++ more) ∷ rest)
  next : {line : List ℕ} {lines whole : List (List ℕ)} → AreFrontLines lines whole → AreFrontLines (line ∷ lines) (line ∷ whole)

AreFrontLines-onto_first : (byte : ℕ) (lines whole : List (List ℕ)) → AreFrontLines lines whole → AreFrontLines (onto_first byte lines) (onto_first byte whole)
AreFrontLines-onto_first byte _ _ (none []) = last (byte ∷ []) [] []
AreFrontLines-onto_first byte _ _ (none (line ∷ whole)) = last (byte ∷ []) line whole
AreFrontLines-onto_first byte _ _ (last line more rest) = last (byte ∷ line) more rest
AreFrontLines-onto_first byte _ _ (next front) = next front

AreFrontLines-cons : (is_newline : Bool) (byte : ℕ) (lines whole : List (List ℕ)) → AreFrontLines lines whole → AreFrontLines (cond is_newline ([] ∷ lines) (onto_first byte lines)) (cond is_newline ([] ∷ whole) (onto_first byte whole))
AreFrontLines-cons true byte lines whole front = next front
AreFrontLines-cons false byte lines whole front = AreFrontLines-onto_first byte lines whole front

lines_of-append : (front back : List ℕ) → AreFrontLines (lines_of front) (lines_of (front ++ back))
lines_of-append [] back = none (lines_of back)
lines_of-append (byte ∷ front) back = AreFrontLines-cons (eqb byte 10) byte (lines_of front) (lines_of (front ++ back)) (lines_of-append front back)

front_fewer : (lines whole : List (List ℕ)) → AreFrontLines lines whole → length lines ≤ length whole
front_fewer _ _ (none whole) = omega arith
front_fewer _ _ (last line more rest) = omega arith
front_fewer _ _ (next {line} {lines} {whole} front) = omega (arith, front_fewer lines whole front)

front_same : (lines whole : List (List ℕ)) (n : ℕ) → n < length lines → AreFrontLines lines whole → take n lines ≡ take n whole
front_same _ _ zero below front = refl
front_same _ _ (suc n) below (none whole) = absurd (omega arith)
front_same _ _ (suc n) below (last line more rest) = absurd (omega arith)
front_same _ _ (suc n) below (next {line} {lines} {whole} front) = ap (λ others. line ∷ others) (front_same lines whole n (omega arith) front)

front_smaller : (lines whole : List (List ℕ)) → AreFrontLines lines whole → sum_by size_of lines ≤ sum_by size_of (take (length lines) whole)
front_smaller _ _ (none whole) = omega arith
front_smaller _ _ (last line more rest) = omega (arith, length-append line more)
front_smaller _ _ (next {line} {lines} {whole} front) =
    omega (arith, front_smaller lines whole front, sum_by-cons size_of line lines, sum_by-cons size_of line (take (length lines) whole))

sizes-cons : (is_newline : Bool) (byte : ℕ) (lines : List (List ℕ)) → sum_by size_of lines + 1 ≤ sum_by size_of (cond is_newline ([] ∷ lines) (onto_first byte lines))
sizes-cons true byte lines = omega (arith, sum_by-cons size_of [] lines)
sizes-cons false byte [] = omega arith
sizes-cons false byte (line ∷ lines) = omega (arith, sum_by-cons size_of line lines, sum_by-cons size_of (byte ∷ line) lines)

-- the lines have all bytes
lines_of-size : (bytes : List ℕ) → length bytes ≤ sum_by size_of (lines_of bytes)
lines_of-size [] = omega arith
lines_of-size (byte ∷ bytes) = omega (arith, lines_of-size bytes, sizes-cons (eqb byte 10) byte (lines_of bytes))

some_line : (lines : List (List ℕ)) → 0 < sum_by size_of lines → 0 < length lines
some_line [] some = absurd (omega arith)
some_line (line ∷ lines) some = omega arith

module _ (max_lines max_bytes : ℕ) where
  -- whether a line is bad depends on the lines up to it, and on whether there is a byte past the limit
  same_bad : (bytes others : List ℕ) (n : ℕ) → max_bytes < length others → n ≤ length (lines_of others) → take n (lines_of bytes) ≡ take n (lines_of others) → IsBadWithin max_lines max_bytes bytes n → IsBadWithin max_lines max_bytes others n
  same_bad bytes others n more there same bad =
      let last : n - 1 < n = omega (arith, bad.from_one) in
      let line : get_or (lines_of bytes) (n - 1) [] ≡ get_or (lines_of others) (n - 1) [] = sym (get_or-take n (lines_of bytes) (n - 1) [] last) ∙ (ap (λ lines. get_or lines (n - 1) []) same ∙ get_or-take n (lines_of others) (n - 1) [] last) in
      record {
        from_one = bad.from_one;
        there = there;
        why = ⊎_elim inl (λ why. inr (⊎_elim (λ passes. inl (more, rw same at passes.1)) (λ wrong. inr (subst (λ text. IsMeaningless text) line wrong)) why)) bad.why;
      }

  -- where there is a byte past the limit, the last line is bad
  last_bad : (bytes : List ℕ) → max_bytes < length bytes → IsBadWithin max_lines max_bytes bytes (length (lines_of bytes))
  last_bad bytes more =
      let size = lines_of-size bytes in
      record {
        from_one = some_line (lines_of bytes) (omega arith);
        there = omega arith;
        why = inr (inl (more, rw take-length (omega arith)));
      }

  first_bad_of_append : (front back : List ℕ) (n : ℕ) → max_bytes < length front → IsFirstBadWithin max_lines max_bytes front n → IsFirstBadWithin max_lines max_bytes (front ++ back) n
  first_bad_of_append front back n more found =
      let lines = lines_of-append front back in
      let whole : max_bytes < length (front ++ back) = omega (arith, length-append front back) in
      let fewer = front_fewer (lines_of front) (lines_of (front ++ back)) lines in
      let there = found.bad.there in
      record {
        bad = ⊎_elim
            (λ (below : n < length (lines_of front)). same_bad front (front ++ back) n whole (omega arith) (front_same (lines_of front) (lines_of (front ++ back)) n below lines) found.bad)
            (λ (last : length (lines_of front) ≤ n).
            let same : length (lines_of front) ≡ n = omega arith in
            let smaller = rw same at (front_smaller (lines_of front) (lines_of (front ++ back)) lines) in
            record {
              from_one = found.bad.from_one;
              there = omega arith;
              why = inr (inl (whole, omega (arith, smaller, lines_of-size front)));
            })
            (cases_lt n (length (lines_of front)));
        first = λ m before bad. found.first m before (same_bad (front ++ back) front m more (omega arith) (sym (front_same (lines_of front) (lines_of (front ++ back)) m (omega arith) lines)) bad);
      }

  first_bad_of_front : (bytes : List ℕ) (n : ℕ) → max_bytes < length bytes → IsFirstBadWithin max_lines max_bytes (take (max_bytes + 1) bytes) n → IsFirstBadWithin max_lines max_bytes bytes n
  first_bad_of_front bytes n more found =
      let longer : max_bytes < length (take (max_bytes + 1) bytes) = omega (arith, length-take (max_bytes + 1) bytes) in
      subst (λ whole. IsFirstBadWithin max_lines max_bytes whole n) (take-append-drop (max_bytes + 1) bytes) (first_bad_of_append (take (max_bytes + 1) bytes) (drop (max_bytes + 1) bytes) n longer found)

-- a reader that stops one byte past the limit finds the first bad line
pub IsFirstBadLine-from_front : (bytes : List ℕ) (n : ℕ) → MAX_BYTES < length bytes → IsFirstBadLine (take (MAX_BYTES + 1) bytes) n → IsFirstBadLine bytes n
IsFirstBadLine-from_front = first_bad_of_front MAX_LINES MAX_BYTES

-- a script of more bytes has a bad line
pub HasNoBadLine-size : (bytes : List ℕ) → HasNoBadLine bytes → length bytes ≤ MAX_BYTES
HasNoBadLine-size bytes sound =
    ⊎_elim (λ (more : MAX_BYTES < length bytes). absurd (sound (length (lines_of bytes)) (last_bad MAX_LINES MAX_BYTES bytes more))) (λ (few : length bytes ≤ MAX_BYTES). few) (cases_lt MAX_BYTES (length bytes))

-- a script with a first bad line has one
pub IsFirstBadLine-bad : (bytes : List ℕ) (n : ℕ) → IsFirstBadLine bytes n → ¬ HasNoBadLine bytes
IsFirstBadLine-bad bytes n found sound = sound n found.bad
