-- Ranges of files that are one hole or one run, and the piece of two ranges that a roll of an exchange takes.
use Rattle.std.specs.Prelude.{◌≡◌, ◌≢◌, ◌⊎◌, ℕ, ◌+◌, ◌-◌, ◌<◌, ◌≤◌, List, [], ◌++◌, Option, Some, None}
use Rattle.xr_base.specs.declared.address.FileNo.{FileNo}
use Rattle.xr_base.specs.declared.address.Run.{Run}
use Rattle.xr_base.specs.Address.{IsGoodRun, address_after}
use Rattle.xr_maps.specs.FileMaps.{AreGoodMaps, FileMaps, address_at}
use Rattle.xr_items.specs.declared.work.Work.{Work}
use Rattle.xr_balance.specs.Rows.{works_of_exchange_rest, works_of_piece}

-- a range of a file is one hole, or is mapped to one run
abbrev pub IsHoleOrRun : FileMaps → FileNo → ℕ → ℕ → Option Run → Type 0
IsHoleOrRun maps file off len None = (k : ℕ) → k < len → address_at maps file.0 (off + k) ≡ None
IsHoleOrRun maps file off len (Some run) =
    IsGoodRun run × (run.len ≡ len) × ((k : ℕ) → k < len → address_at maps file.0 (off + k) ≡ Some (address_after run.start k))

-- each of two ranges of size offsets is one hole or one run, `one` and `two`, and of the len offsets from there on no more are so
pub record IsLongestPiece (maps : FileMaps) (file : FileNo) (off : ℕ) (other : FileNo) (other_off len size : ℕ) (one two : Option Run) : Type 0 where
  pub some : 0 < size
  pub fits : size ≤ len
  pub first : IsHoleOrRun maps file off size one
  pub second : IsHoleOrRun maps other other_off size two
  pub longest : size < len → (r s : Option Run) → IsHoleOrRun maps file off (size + 1) r → IsHoleOrRun maps other other_off (size + 1) s → ⊥

-- where two ranges differ at their first offset, the works of the longest piece from there on, and of the rest
pub record TakesPiece (maps : FileMaps) (file : FileNo) (off : ℕ) (other : FileNo) (other_off len : ℕ) (new : List Work) : Type 0 where
  pub size : ℕ
  pub one : Option Run
  pub two : Option Run
  pub differs : address_at maps file.0 off ≢ address_at maps other.0 other_off
  pub piece : IsLongestPiece maps file off other other_off len size one two
  pub new_is : new ≡ works_of_piece file off one other other_off two ++ works_of_exchange_rest file off other other_off len size

-- the works that the roll of an exchange leaves: it passes over the front in which both ranges hold the same, and takes the
-- piece that comes then, where one does
pub record GivesPiece (maps : FileMaps) (file : FileNo) (off : ℕ) (other : FileNo) (other_off len : ℕ) (new : List Work) : Type 0 where
  pub over : ℕ
  pub within : over ≤ len
  pub same : (k : ℕ) → k < over → address_at maps file.0 (off + k) ≡ address_at maps other.0 (other_off + k)
  pub gives : ((over ≡ len) × (new ≡ [])) ⊎ TakesPiece maps file (off + over) other (other_off + over) (len - over) new

-- good maps give such works
abbrev pub PiecesAreThere : Type 0
PiecesAreThere = (maps : FileMaps) (file : FileNo) (off : ℕ) (other : FileNo) (other_off len : ℕ) → AreGoodMaps maps
    → (new : List Work) × GivesPiece maps file off other other_off len new

-- and no others
abbrev pub PiecesAreDetermined : Type 0
PiecesAreDetermined = (maps : FileMaps) (file : FileNo) (off : ℕ) (other : FileNo) (other_off len : ℕ) (new others : List Work)
    → GivesPiece maps file off other other_off len new → GivesPiece maps file off other other_off len others → new ≡ others
