-- What a source gives, and how a buffer is filled piece by piece.
use Rattle.std.proofs.Common.{◌≡◌, ℕ, ◌+◌, ◌<◌, ◌≤◌, min, Option, Some, List, ◌++◌, length, take, drop, ◌∙◌, refl, ap, sym, subst, arith}
use Rattle.std.proofs.KnownBytes.{Consumes-trans}
use Rattle.std.proofs.lemmas.Grind.{common_steps}
use Rattle.std.proofs.lemmas.List.{nil_from_length, length-take-le, take-append-le}
use Rattle.std.proofs.Math.Seq.{take-append-add}
use Rattle.std.specs.Io.KnownBytes.{Consumes}
use Rattle.xr_disk.specs.Stream.{TakesFront}

-- taking as many bytes as there are and fit is taking from the front
pub takes_front :
    (left rest out new : List ℕ) (n : ℕ)
    → 0 < length out → n ≡ min (length out) (length left) → rest ≡ drop n left
    → new ≡ take n left ++ drop n out → TakesFront (Some left) (Some rest) n new
takes_front left rest out new n some count dropped filled = record {
  fits = grind (arith, common_steps);
  taken = (rest, refl, grind (arith, common_steps));
  ended = (λ none. nil_from_length left (omega arith), λ none. omega (arith, ap length none));
}

-- a buffer whose first bytes were taken, with the bytes taken next put after them
pub takes_on : (old mid new : Option (List ℕ)) (out got rest : List ℕ) (filled n : ℕ) → filled ≤ length out → n ≤ length got
    → Consumes old mid (take filled out) → Consumes mid new (take n got) → Consumes old new (take (filled + n) (take filled out ++ (got ++ rest)))
takes_on old mid new out got rest filled n within fits first next =
    let front : length (take filled out) ≡ filled = length-take-le filled out within in
    let both : take (filled + n) (take filled out ++ (got ++ rest)) ≡ take filled out ++ take n got =
    ap (λ (k : ℕ). take (k + n) (take filled out ++ (got ++ rest))) (sym front) ∙ take-append-add (take filled out) (got ++ rest) n
    ∙ ap (λ (xs : List ℕ). take filled out ++ xs) (take-append-le n got rest fits) in
    subst (Consumes old new) (sym both) (Consumes-trans old mid new _ _ first next)
