-- What a list of extents maps, offset by offset, and what a lookup tells of it.
use Rattle.std.specs.Prelude.{◌≡◌, ◌≢◌, ℕ, ◌+◌, ◌<◌, ◌≤◌, true, List, [], ◌∷◌, Option, Some, None}
use Rattle.xr_base.specs.Address.{address_after, address_of}
use Rattle.xr_base.specs.declared.address.Addr.{Addr}
use Rattle.xr_bmap.specs.declared.piece.Piece.{Piece}
use Rattle.xr_bmap.specs.declared.piece.Piece.TheVariants.{Hole, Mapped}
use Rattle.xr_kinds.specs.declared.mapping.Mapping.{Mapping}
use Rattle.xr_maps.specs.Steps.{is_within, remapped_slot}

-- the offset o is one of an extent's
abbrev pub HasOffset : Mapping → ℕ → Type 0
HasOffset r o = is_within r.off r.len o ≡ true

-- the block that some extents map at an offset, if they map one there
unfoldable pub mapped_in : List Mapping → ℕ → Option Addr
mapped_in [] o = None
mapped_in (r ∷ rs) o = remapped_slot r.off r.len (address_of r.at) o (mapped_in rs o)

-- nothing is mapped at so many offsets from one on
abbrev pub IsHole : (ℕ → Option Addr) → ℕ → ℕ → Type 0
IsHole slots off len = (o : ℕ) → is_within off len o ≡ true → slots o ≡ None

-- one block after another is mapped at so many offsets from one on, of which there is one
pub record IsMappedRun (slots : ℕ → Option Addr) (off len : ℕ) : Type 0 where
  pub some : 1 ≤ len
  pub at : Addr
  pub alike : (i : ℕ) → i < len → slots (off + i) ≡ Some (address_after at i)

-- what a piece says of its i-th offset, and how many offsets it has
abbrev pub piece_slot : Piece → ℕ → Option Addr
piece_slot (Mapped at len) i = Some (address_after at i)
piece_slot (Hole len) i = None

abbrev pub piece_len : Piece → ℕ
piece_len (Mapped at len) = len
piece_len (Hole len) = len

-- a piece has the offsets from one on that are mapped alike: as many as there are, or the most that are asked for
pub record IsPieceAt (slots : ℕ → Option Addr) (off most : ℕ) (piece : Piece) : Type 0 where
  pub some : 1 ≤ piece_len piece
  pub few : piece_len piece ≤ most
  pub alike : (i : ℕ) → i < piece_len piece → slots (off + i) ≡ piece_slot piece i
  pub longest : piece_len piece < most → slots (off + piece_len piece) ≢ piece_slot piece (piece_len piece)
