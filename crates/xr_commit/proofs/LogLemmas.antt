-- The log as it is read into memory.
use Rattle.std.proofs.Common.{◌≡◌, ℕ, ◌∙◌, List, ◌++◌, length, take, drop, ap, subst, sym, arith}
use Rattle.std.proofs.lemmas.List.{take-append-le, take_all}
use Rattle.xr_base.specs.Fields.{AreBytes}
use Rattle.xr_base.specs.Image.{part}
use Rattle.xr_commit.specs.declared.layout.TheConstants.{LOG_BYTES}
use Rattle.xr_commit.specs.LogRecords.{log_of}

pub log_taken : (out buffer image : List ℕ) (len n : ℕ) → n ≡ LOG_BYTES → length out ≡ len → out ≡ part 32768 n image
    → take len (out ++ drop (length out) buffer) ≡ log_of image
log_taken out buffer image len n whole long is =
    take-append-le len out (drop (length out) buffer) (omega arith) ∙ take_all len out (omega arith) ∙ is ∙ ap (λ (m : ℕ). part 32768 m image) whole

pub log_small : (out buffer : List ℕ) (len : ℕ) → length out ≡ len → AreBytes out → AreBytes (take len (out ++ drop (length out) buffer))
log_small out buffer len long small =
    subst AreBytes (sym (take-append-le len out (drop (length out) buffer) (omega (arith, long)) ∙ take_all len out (omega (arith, long)))) small
