-- That what is committed is a function of the blocks alone, and what a listed file and a listed group tell of it.
use Rattle.std.specs.Prelude.{◌≡◌, ◌≢◌, ℕ, ◌/◌, List, length, map, slice_get}
use Rattle.xr_balance.specs.Pieces.{IsHoleOrRun}
use Rattle.xr_balance.specs.Settled.{Committed}
use Rattle.xr_base.specs.declared.geometry.TheConstants.{GROUP_BLOCKS, OWN_COW}
use Rattle.xr_bmap.specs.File.{AreFileStates, FileState, slot_of_file}
use Rattle.xr_bmap.specs.Slots.{IsPieceAt}
use Rattle.xr_bmap.specs.declared.piece.Piece.{Piece}
use Rattle.xr_chain.specs.ChainView.{file_at}
use Rattle.xr_chain.specs.CommittedBlocks.{IsListed, committed_of, has_file_pair, with_state}
use Rattle.xr_chain.specs.FirstRows.{IsWholePiece, run_of_piece}
use Rattle.xr_group.specs.Group.{GroupState}
use Rattle.xr_group.specs.Sets.{has_free, has_pair, has_staged, owner_count_in}
use Rattle.xr_maps.specs.FileMaps.{address_at}
use Rattle.xr_open.specs.PoolState.{PoolState, kept_now}

-- files and groups that differ in what they go back to alone: so a call that keeps or drops changes leaves what is committed
abbrev pub CommittedIsOfBlocks : Type 0
CommittedIsOfBlocks = (files files' : List FileState) (groups groups' : List GroupState)
    → map kept_now files ≡ map kept_now files' → map kept_now groups ≡ map kept_now groups' → committed_of files groups ≡ committed_of files' groups'

-- a piece that has all offsets that were asked for is what the maps have there
abbrev pub LookupsAreFound : Type 0
LookupsAreFound = (files : List FileState) (groups : List GroupState) (f : FileState) (off len : ℕ) (old : Piece)
    → IsListed files f → AreFileStates f → IsPieceAt (slot_of_file f) off len old → IsWholePiece len old
    → IsHoleOrRun (committed_of files groups).maps (file_at f.number) off len (run_of_piece old)

-- at each offset the maps have what a listed file maps
abbrev pub ListedFilesAreMapped : Type 0
ListedFilesAreMapped = (files : List FileState) (groups : List GroupState) (f : FileState) → IsListed files f → AreFileStates f
    → (o : ℕ) → address_at (committed_of files groups).maps f.number o ≡ slot_of_file f o

-- of a block that is committed what the group says
pub record TellsBlock (g : GroupState) (C : Committed) (b : ℕ) : Type 0 where
  pub pairs : (f o : ℕ) → C.has_pair f o b ≡ has_file_pair g f o b
  pub staging_pair : C.has_staging_pair b ≡ has_pair g OWN_COW 0 b
  pub counted : C.counted b ≡ owner_count_in g b
  pub staged : C.is_staged b ≡ has_staged g b
  pub free : C.is_free b ≡ has_free g b

-- a listed group tells of each of its blocks
abbrev pub ListedGroupsTell : Type 0
ListedGroupsTell = (files : List FileState) (groups : List GroupState) (g : GroupState) (b : ℕ) → IsListed groups g → b / GROUP_BLOCKS ≡ g.number
    → TellsBlock g (committed_of files groups) b

-- a file or a group was put into the list of all, and no other place has changed
pub record IsPutIn (states : List PoolState) (new : PoolState) : Type 0 where
  pub listed : IsListed (with_state states new) new
  pub others : (n : ℕ) → n ≢ new.number → slice_get (with_state states new) n ≡ slice_get states n
  pub size : length (with_state states new) ≡ length states

-- so it is where one of its number stood
abbrev pub PutIsListed : Type 0
PutIsListed = (states : List PoolState) (old new : PoolState) → IsListed states old → new.number ≡ old.number → IsPutIn states new
