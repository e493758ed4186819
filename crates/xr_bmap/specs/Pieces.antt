-- What a caller learns of a lookup: that offsets are a hole, or map one block after another.
use Rattle.std.specs.Prelude.{ℕ, Option}
use Rattle.xr_base.specs.declared.address.Addr.{Addr}
use Rattle.xr_bmap.specs.Slots.{IsHole, IsMappedRun, IsPieceAt}
use Rattle.xr_bmap.specs.declared.piece.Piece.TheVariants.{Hole, Mapped}

abbrev pub PiecesSayWhatIsThere : Type 0
PiecesSayWhatIsThere =
    (slots : ℕ → Option Addr) (off most : ℕ)
    → ((len : ℕ) → IsPieceAt slots off most (Hole len) → IsHole slots off len)
    × ((at : Addr) (len : ℕ) → IsPieceAt slots off most (Mapped at len) → IsMappedRun slots off len)
