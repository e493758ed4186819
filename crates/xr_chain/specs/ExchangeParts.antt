-- Of no public contract.
-- The ranges of an exchange, and the pieces of files from their first offsets on.
use Rattle.std.specs.Prelude.{◌≡◌, ◌⊎◌, ℕ, ◌+◌, ◌-◌, ◌≤◌, List, Option, Some, None, IfSome}
use Rattle.xr_balance.specs.Pieces.{GivesPiece}
use Rattle.xr_base.specs.Address.{IsGoodRun}
use Rattle.xr_base.specs.declared.address.FileNo.{FileNo}
use Rattle.xr_base.specs.declared.address.Run.{Run}
use Rattle.xr_base.specs.declared.geometry.TheConstants.{OFFSETS}
use Rattle.xr_bmap.specs.File.{FileState, slot_of_file}
use Rattle.xr_bmap.specs.Slots.{piece_len}
use Rattle.xr_bmap.specs.declared.piece.Piece.{Piece}
use Rattle.xr_bmap.specs.declared.piece.Piece.TheVariants.{Hole, Mapped}
use Rattle.xr_chain.specs.declared.exchange.Ranges.{Ranges}
use Rattle.xr_items.specs.Valid.{IsSwap}
use Rattle.xr_items.specs.declared.work.Work.{Work}
use Rattle.xr_items.specs.declared.work.Work.TheVariants.{Swap}
use Rattle.xr_maps.specs.FileMaps.{FileMaps, address_at}

-- they can be exchanged
abbrev pub AreRanges : Ranges → Type 0
AreRanges r = IsSwap r.file r.off r.other r.other_off r.len

abbrev pub swap_of : Ranges → Work
swap_of r = Swap r.file r.off r.other r.other_off r.len

-- what is behind the first n offsets
abbrev pub ranges_behind : Ranges → ℕ → Ranges
ranges_behind r n = record { file = r.file; off = r.off + n; other = r.other; other_off = r.other_off + n; len = r.len - n }

-- a run whose blocks a file has from the offset on
abbrev pub IsRunAt : ℕ → Run → Type 0
IsRunAt off run = IsGoodRun run × (off + run.len ≤ OFFSETS)

-- a run, where there is one, that can be exchanged to the other range
pub record FitsRanges (r : Ranges) (run : Option Run) : Type 0 where
  pub at_first : IfSome run (IsRunAt r.off)
  pub at_second : IfSome run (IsRunAt r.other_off)

-- the first n offsets of a piece, as a run; a hole has none
abbrev pub run_of_front : Piece → ℕ → Option Run
run_of_front (Mapped at len) n = Some (record { start = at; len = n })
run_of_front (Hole len) n = None

-- as many offsets as the shorter of two pieces has
pub record IsShorterLength (first second : Piece) (n : ℕ) : Type 0 where
  pub in_first : n ≤ piece_len first
  pub in_second : n ≤ piece_len second
  pub is_one : (n ≡ piece_len first) ⊎ (n ≡ piece_len second)

-- the maps have at the number's file what this file maps
abbrev pub HasFile : FileMaps → FileNo → FileState → Type 0
HasFile maps file f = (o : ℕ) → address_at maps file.0 o ≡ slot_of_file f o

-- an exchange of ranges of two files leaves some works, whatever the other files map
abbrev pub LeavesWorks : FileState → FileState → Ranges → List Work → Type 0
LeavesWorks one two r left = (maps : FileMaps) → HasFile maps r.file one → HasFile maps r.other two
    → GivesPiece maps r.file r.off r.other r.other_off r.len left
