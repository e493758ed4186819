-- What a lookup tells of a range that is a whole hole.
use Rattle.std.proofs.Common.{◌≡◌, ◌≢◌, ℕ, ◌+◌, Option, None, false, subst, ⊎_elim, arith}
use Rattle.std.proofs.lemmas.Bool.{cases_eq, eq-eqb, eqb-true, false≢true}
use Rattle.std.specs.Prelude.{◌==◌, ◌↔◌, IsTrue}
use Rattle.xr_base.specs.declared.address.Addr.{Addr}
use Rattle.xr_bmap.specs.PieceLaws.{hole_from_piece}
use Rattle.xr_bmap.specs.Slots.{IsHole, IsPieceAt}
use Rattle.xr_bmap.specs.declared.piece.Piece.TheVariants.{Hole, Mapped}
use Rattle.xr_maps.specs.StepLaws.{in_range}

module _ (slots : ℕ → Option Addr) (off most len : ℕ) where
  pub hole_told : IsPieceAt slots off most (Hole len) → IsTrue (len == most) ↔ IsHole slots off most
  hole_told is = (
    λ whole. subst (IsHole slots off) (eqb-true len most whole) (hole_from_piece slots off most len is),
    λ hole. ⊎_elim
        (λ (whole : len ≡ most). eq-eqb len most whole)
        (λ (less : len ≢ most). absurd (is.longest (omega (arith, less, is.few))
        (hole (off + len) (in_range off most (off + len) (omega arith) (omega (arith, less, is.few))))))
        (cases_eq len most),
  )

  pub no_hole_told : (at : Addr) → IsPieceAt slots off most (Mapped at len) → IsTrue false ↔ IsHole slots off most
  no_hole_told at is = (
    λ yes. absurd (false≢true yes),
    λ hole.
        let here : slots (off + 0) ≡ None = hole (off + 0) (in_range off most (off + 0) (omega arith) (omega (arith, is.some, is.few))) in
        let there = is.alike 0 (omega (arith, is.some)) in
        absurd (cc (here, there)),
  )
