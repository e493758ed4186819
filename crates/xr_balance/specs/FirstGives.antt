-- The first commit of a step, by what its lane holds and what a lookup in the file tells.
use Rattle.std.specs.Prelude.{◌≡◌, ◌≢◌, ℕ, ◌+◌, ◌<◌, ◌≤◌, ◌&&◌, Bool, true, false, not, IsTrue, List, Option, Some}
use Rattle.xr_base.specs.declared.address.FileNo.{FileNo}
use Rattle.xr_base.specs.declared.address.Run.{Run}
use Rattle.xr_base.specs.Address.{address_after}
use Rattle.xr_maps.specs.FileMaps.{FileMaps, address_at}
use Rattle.xr_maps.specs.declared.steps.Step.{Step}
use Rattle.xr_maps.specs.declared.steps.Step.TheVariants.{Remap, Punch, Exchange}
use Rattle.xr_maps.specs.Steps.{Fits, applied, is_within}
use Rattle.xr_maps.specs.Holdings.{in_run}
use Rattle.xr_items.specs.declared.work.Work.{Work}
use Rattle.xr_balance.specs.Lanes.{LanesHold, owners_in}
use Rattle.xr_balance.specs.Pieces.{IsHoleOrRun}
use Rattle.xr_balance.specs.Rows.{works_of_exchange, works_of_fresh, works_of_punch, works_of_share}
use Rattle.xr_balance.specs.Settled.{Committed, IsSettled}
use Rattle.xr_balance.specs.Stagings.{BeginsChain}
use Rattle.xr_balance.specs.Works.{Debt}

-- a punch of a mapped piece
pub record Punches (C : Committed) (file : FileNo) (off len : ℕ) (new : List Work) : Type 0 where
  pub old : Run
  pub piece : IsHoleOrRun C.maps file off len (Some old)
  pub row : new ≡ works_of_punch file off old

-- a remap of a piece to a run that other offsets map too: each of its blocks has two owners in the lane's files after it, and
-- the piece was mapped otherwise
pub record Shares (held : ℕ → ℕ → Bool) (C : Committed) (M : FileMaps) (lane : ℕ) (file : FileNo) (off : ℕ) (run : Run)
    (new : List Work) : Type 0 where
  pub old : Option Run
  pub piece : IsHoleOrRun C.maps file off run.len old
  pub row : new ≡ works_of_share file off old run
  pub raises : (b : ℕ) → in_run b run ≡ 1 → 2 ≤ owners_in (held lane) (applied (Remap file off run.len run.start) M) b
  pub changes : (k : ℕ) → k < run.len → address_at C.maps file.0 (off + k) ≢ Some (address_after run.start k)

-- a remap of a piece to a run that is staged for the lane
pub record MapsStaged (mine : ℕ → ℕ → Bool) (C : Committed) (lane : ℕ) (file : FileNo) (off : ℕ) (run : Run) (new : List Work) : Type 0 where
  pub old : Option Run
  pub piece : IsHoleOrRun C.maps file off run.len old
  pub row : new ≡ works_of_fresh file off old run
  pub own : (b : ℕ) → in_run b run ≡ 1 → IsTrue (mine lane b)

-- the works of a step; whether its run is staged counts for a remap alone
abbrev pub GivesRow : (ℕ → ℕ → Bool) → (ℕ → ℕ → Bool) → Committed → FileMaps → ℕ → Step → Bool → List Work → Type 0
GivesRow held mine C M lane (Punch file off len) staged new = Punches C file off len new
GivesRow held mine C M lane (Remap file off len at) true new = MapsStaged mine C lane file off (record { start = at; len = len }) new
GivesRow held mine C M lane (Remap file off len at) false new = Shares held C M lane file off (record { start = at; len = len }) new
GivesRow held mine C M lane (Exchange file off other other_off len) staged new = new ≡ works_of_exchange file off other other_off len

-- the step maps the block out of what was staged for its lane, so that the block is staged no more
abbrev pub is_unstaged_by : Step → Bool → ℕ → Bool
is_unstaged_by (Remap file off len at) true b = is_within at.0 len b
is_unstaged_by _ _ b = false

-- the lane holds the step's files
abbrev pub HoldsFiles : (ℕ → Bool) → Step → Type 0
HoldsFiles held (Punch file off len) = IsTrue (held file.0)
HoldsFiles held (Remap file off len at) = IsTrue (held file.0)
HoldsFiles held (Exchange file off other other_off len) = IsTrue (held file.0) × IsTrue (held other.0)

-- what a lane uses is staged for it no more
pub record Uses (lane : ℕ) (mine : ℕ → ℕ → Bool) (Q used : ℕ → Bool) (mine' : ℕ → ℕ → Bool) (Q' : ℕ → Bool) : Type 0 where
  pub own : (b : ℕ) → mine' lane b ≡ (mine lane b && not (used b))
  pub others : (l b : ℕ) → l ≢ lane → mine' l b ≡ mine l b
  pub staged : (b : ℕ) → Q' b ≡ (Q b && not (used b))

-- a lane without an open chain begins the one of a step
pub record FirstGives (held mine : ℕ → ℕ → Bool) (C : Committed) (P : List Debt) (M : FileMaps) (Q : ℕ → Bool) (lane : ℕ)
    (step : Step) (staged : Bool) (P' : List Debt) (mine' : ℕ → ℕ → Bool) (Q' : ℕ → Bool) : Type 0 where
  pub new : List Work
  pub row : GivesRow held mine C M lane step staged new
  pub fits : Fits step
  pub holds_files : HoldsFiles (held lane) step
  pub begins : BeginsChain P lane new P'
  pub uses : Uses lane mine Q (is_unstaged_by step staged) mine' Q'

-- it keeps the balance, for the maps with exactly this step, and what lanes hold
abbrev pub FirstKeeps : Type 0
FirstKeeps = (held mine mine' : ℕ → ℕ → Bool) (C : Committed) (P P' : List Debt) (M : FileMaps) (Q Q' : ℕ
    → Bool) (lane : ℕ) (step : Step) (staged : Bool)
    → IsSettled C P M Q → LanesHold held mine P M Q → FirstGives held mine C P M Q lane step staged P' mine' Q' → IsSettled C P' (applied step M) Q'

abbrev pub FirstHolds : Type 0
FirstHolds = (held mine mine' : ℕ → ℕ → Bool) (C : Committed) (P P' : List Debt) (M : FileMaps) (Q Q' : ℕ
    → Bool) (lane : ℕ) (step : Step) (staged : Bool)
    → IsSettled C P M Q → LanesHold held mine P M Q → FirstGives held mine C P M Q lane step staged P' mine' Q'
    → LanesHold held mine' P' (applied step M) Q'
