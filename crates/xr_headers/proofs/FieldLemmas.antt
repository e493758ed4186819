-- Fields that are written one after the other over zeros.
use Rattle.std.proofs.Common.{◌≡◌, ℕ, ◌+◌, ◌≤◌, List, [], ◌++◌, length, replicate, refl, ◌∙◌, arith}
use Rattle.std.proofs.lemmas.List.{length-append, length-replicate}
use Rattle.xr_base.specs.Image.{overlaid}
use Rattle.xr_headers.specs.Padded.{IsZeroPadded, zero_padded}
use Rattle.xr_headers.specs.PaddingLaws.{written_after, written_next}

pub laid_none : (n : ℕ) (out : List ℕ) → out ≡ zero_padded n [] → IsZeroPadded n 0 [] out
laid_none n out cleared = record { is = cleared; long = refl }

pub laid_next : (n at size : ℕ) (front bytes old new : List ℕ) → IsZeroPadded n at front old → new ≡ overlaid at bytes old → length bytes ≡ size
    → at + size ≤ n → IsZeroPadded n (at + size) (front ++ bytes) new
laid_next n at size front bytes old new before placed long fits = record {
  is = written_next n front bytes at old new before.is before.long (omega arith) placed;
  long = length-append front bytes ∙ omega arith;
}

-- a field after k zeros
pub laid_after : (n at k size : ℕ) (front bytes old new : List ℕ) → IsZeroPadded n at front old → new ≡ overlaid (at + k) bytes old → length bytes ≡ size
    → at + k + size ≤ n → IsZeroPadded n (at + k + size) (front ++ replicate k 0 ++ bytes) new
laid_after n at k size front bytes old new before placed long fits = record {
  is = written_after n k front bytes (at + k) old new before.is (omega arith) (omega arith) placed;
  long = length-append (front ++ replicate k 0) bytes ∙ omega (arith, length-append front (replicate k 0), length-replicate {A = ℕ} k 0);
}
