-- What a piece says of the offsets that it has, as calls want it.
use Rattle.std.proofs.Common.{◌≡◌, ℕ, ◌+◌, ◌-◌, Option, sym, ap, ◌∙◌, arith}
use Rattle.xr_base.specs.declared.address.Addr.{Addr}
use Rattle.xr_bmap.specs.Pieces.{PiecesSayWhatIsThere}
use Rattle.xr_bmap.specs.SlotLaws.{bounds}
use Rattle.xr_bmap.specs.Slots.{IsHole, IsMappedRun, IsPieceAt}
use Rattle.xr_bmap.specs.declared.piece.Piece.TheVariants.{Hole, Mapped}

pub hole_from_piece : (slots : ℕ → Option Addr) (off most len : ℕ) → IsPieceAt slots off most (Hole len) → IsHole slots off len
hole_from_piece slots off most len piece o within =
    let inside = bounds off len o within in
    let same : off + (o - off) ≡ o = omega (arith, inside.0) in
    ap slots (sym same) ∙ piece.alike (o - off) (omega (arith, inside.0, inside.1))

pub run_from_piece : (slots : ℕ → Option Addr) (off most : ℕ) (at : Addr) (len : ℕ) → IsPieceAt slots off most (Mapped at len) → IsMappedRun slots off len
run_from_piece slots off most at len piece = record { some = piece.some; at = at; alike = piece.alike }

pub pieces_say_what_is_there : PiecesSayWhatIsThere
pieces_say_what_is_there slots off most = (λ len piece. hole_from_piece slots off most len piece, λ at len piece. run_from_piece slots off most at len piece)
