-- What the first commit of a step is given, by the sums over its row; one proof serves each row.
use Rattle.std.specs.Prelude.{ℕ, ◌≡◌, ◌+◌, ◌*◌, ◌<◌, ◌≤◌, Bool, IsTrue, List, All, ◌≢◌, false, sum_by, ◌⊎◌}
use Rattle.xr_base.specs.declared.address.FileNo.{FileNo}
use Rattle.xr_items.specs.Valid.{IsSwap, IsWork}
use Rattle.xr_items.specs.declared.work.Work.TheVariants.{Swap}
use Rattle.xr_items.specs.declared.work.Work.{Work}
use Rattle.xr_maps.specs.FileMaps.{FileMaps, AreGoodMaps}
use Rattle.xr_maps.specs.Holdings.{holds, is_mapped, one_if, owners, owners_of_file}
use Rattle.xr_balance.specs.Chains.{IsChain}
use Rattle.xr_balance.specs.Lanes.{LanesHold, owners_in}
use Rattle.xr_balance.specs.Rows.{works_of_exchange}
use Rattle.xr_balance.specs.Settled.{Committed, IsSettled, bringing, taking}
use Rattle.xr_balance.specs.Stagings.{BeginsChain}
use Rattle.xr_balance.specs.Works.{Debt, exchanging_at, freed, lowered, mapping, mapping_at, naming, naming_file, pairing, pairing_at, raised, staging, staging_pair, staging_unpair, sum_of_lanes, total, unmapping, unmapping_at, unpairing, unpairing_at, unstaging}

-- a row of works that maps and unmaps: what it does to pairs is what it does to the maps, and it neither gives nor stages nor exchanges
pub record IsStepRow (new : List Work) : Type 0 where
  pub pairs_on : (f o b : ℕ) → sum_by (pairing f o b) new ≡ sum_by (mapping f o b) new
  pub pairs_off : (f o b : ℕ) → sum_by (unpairing f o b) new ≡ sum_by (unmapping f o b) new
  pub at_on : (f o : ℕ) → sum_by (pairing_at f o) new ≡ sum_by (mapping_at f o) new
  pub at_off : (f o : ℕ) → sum_by (unpairing_at f o) new ≡ sum_by (unmapping_at f o) new
  pub stagings_off : (b : ℕ) → sum_by (staging_unpair b) new ≡ sum_by (unstaging b) new
  pub no_staging : (b : ℕ) → sum_by (staging b) new ≡ 0
  pub no_staging_pair : (b : ℕ) → sum_by (staging_pair b) new ≡ 0
  pub no_gift : (b : ℕ) → sum_by (freed b) new ≡ 0
  pub no_exchange : (f o : ℕ) → sum_by (exchanging_at f o) new ≡ 0
  pub once_on : (f o : ℕ) → sum_by (mapping_at f o) new ≤ 1
  pub once_off : (f o : ℕ) → sum_by (unmapping_at f o) new ≤ 1

-- no pending work is on a file of the row
abbrev pub NamesApart : List Debt → List Work → Type 0
NamesApart P new = (f : ℕ) → 0 < sum_by (naming_file f) new → total (naming_file f) P ≡ 0

-- the first commit of a remap or a punch, by what its row names
pub record BeginsStep (C : Committed) (P : List Debt) (M B : FileMaps) (Q : ℕ → Bool) (lane : ℕ) (new : List Work) (P' : List Debt) (M' B' : FileMaps) (Q' : ℕ → Bool) : Type 0 where
  pub begins : BeginsChain P lane new P'
  pub chain : IsChain new
  pub row : IsStepRow new
  -- the maps change by the row
  pub good_base : AreGoodMaps B'
  pub good : AreGoodMaps M'
  pub base : (f o b : ℕ) → holds B' f o b + sum_by (unmapping f o b) new ≡ holds B f o b + sum_by (mapping f o b) new
  pub step : (f o b : ℕ) → holds M' f o b + sum_by (unmapping f o b) new ≡ holds M f o b + sum_by (mapping f o b) new
  pub staged : (b : ℕ) → one_if (Q' b) + sum_by (unstaging b) new ≡ one_if (Q b)
  pub counts : (b : ℕ) → owners M' b + one_if (Q' b) + sum_by (lowered b) new ≡ owners M b + one_if (Q b) + sum_by (raised b) new
  -- no pending work names the offsets, and no pending exchange reads them
  pub quiet : (f o : ℕ) → (total (mapping_at f o) P + total (unmapping_at f o) P + total (pairing_at f o) P + total (unpairing_at f o) P + total (exchanging_at f o) P ≡ 0)
      ⊎ (sum_by (mapping_at f o) new + sum_by (unmapping_at f o) new ≡ 0)
  pub takes : (f o b : ℕ) → total (taking B' f o b) P' ≡ total (taking B f o b) P
  pub brings : (f o b : ℕ) → total (bringing B' f o b) P' ≡ total (bringing B f o b) P
  -- the file maps the old blocks, and holes where there are none, and what is put there is something else
  pub old_there : (f o b : ℕ) → sum_by (unmapping f o b) new ≤ holds C.maps f o b
  pub fills : (f o : ℕ) → is_mapped C.maps f o + sum_by (mapping_at f o) new ≤ 1 + sum_by (unmapping_at f o) new
  pub others : (f o b : ℕ) → holds B f o b + sum_by (mapping f o b) new ≤ 1
  -- the blocks have owners, or are the lane's staged ones
  pub there : (b : ℕ) → 0 < sum_by (naming b) new → 0 < owners M b + one_if (Q b)
  pub counted_unstaged : (b : ℕ) → 0 < sum_by (raised b) new + sum_by (lowered b) new → (one_if (Q b) ≡ 0) × (total (unstaging b) P ≡ 0)
  pub staged_now : (b : ℕ) → 0 < sum_by (unstaging b) new
      → total (staging b) P + total (unstaging b) P + total (staging_pair b) P + total (staging_unpair b) P ≡ 0
  pub two_owners : (b : ℕ) → 2 * (total (raised b) P + sum_by (raised b) new) ≤ owners M' b

-- a first commit of a remap or a punch keeps it, and changes the maps by its row
abbrev pub StepKeeps : Type 0
StepKeeps = (C : Committed) (P P' : List Debt) (M M' B' : FileMaps) (Q Q' : ℕ → Bool) (lane : ℕ) (new : List Work)
    → (was : IsSettled C P M Q) → BeginsStep C P M was.base Q lane new P' M' B' Q' → NamesApart P new → All (λ w. IsWork w) new → IsSettled C P' M' Q'

-- two ranges that no pending work names are exchanged
pub record Exchanges (P : List Debt) (M B : FileMaps) (lane : ℕ) (file : FileNo) (off : ℕ) (other : FileNo) (other_off len : ℕ) (P' : List Debt) (M' : FileMaps) : Type 0 where
  pub begins : BeginsChain P lane (works_of_exchange file off other other_off len) P'
  pub valid : IsSwap file off other other_off len
  pub quiet : (f : ℕ) → 0 < naming_file f (Swap file off other other_off len) → total (naming_file f) P ≡ 0
  pub good : AreGoodMaps M'
  pub step : (f o b : ℕ) → holds M' f o b + taking B f o b (Swap file off other other_off len) ≡ holds M f o b + bringing B f o b (Swap file off other other_off len)
  pub same_owners : (b : ℕ) → owners M' b ≡ owners M b

-- an exchange's first commit keeps it, and exchanges what the ranges of the maps hold
abbrev pub ExchangeKeeps : Type 0
ExchangeKeeps = (C : Committed) (P P' : List Debt) (M M' : FileMaps) (Q : ℕ → Bool) (lane off other_off len : ℕ) (file other : FileNo)
    → (was : IsSettled C P M Q) → Exchanges P M was.base lane file off other other_off len P' M' → IsSettled C P' M' Q

-- what the step changes is in files that the lane holds, and what it stages no more was its own
pub record StepsInLane (held mine : ℕ → ℕ → Bool) (P : List Debt) (M : FileMaps) (Q : ℕ → Bool) (lane : ℕ) (new : List Work) (P' : List Debt) (M' : FileMaps) (mine' : ℕ → ℕ → Bool) (Q' : ℕ → Bool) : Type 0 where
  pub begins : BeginsChain P lane new P'
  pub files : (f : ℕ) → 0 < sum_by (naming_file f) new → IsTrue (held lane f)
  pub elsewhere : (f b : ℕ) → held lane f ≡ false → owners_of_file M' b f ≡ owners_of_file M b f
  pub counts : (b : ℕ) → owners M' b + one_if (Q' b) + sum_by (lowered b) new ≡ owners M b + one_if (Q b) + sum_by (raised b) new
  pub staged : (b : ℕ) → one_if (Q' b) + sum_by (unstaging b) new ≡ one_if (Q b)
  pub raises : (b : ℕ) → 2 * sum_by (raised b) new ≤ owners_in (held lane) M' b
  pub unstages : (b : ℕ) → 0 < sum_by (unstaging b) new → owners_in (held lane) M' b ≡ owners M' b
  pub no_staging : (b : ℕ) → sum_by (staging b) new + sum_by (staging_pair b) new ≡ 0
  -- no block that the row counts or unstages is still to be unstaged by another chain
  pub quiet : (b : ℕ) → 0 < sum_by (raised b) new + sum_by (lowered b) new + sum_by (unstaging b) new → total (unstaging b) P ≡ 0
  pub others : (l b : ℕ) → l ≢ lane → mine' l b ≡ mine l b
  pub own : (b : ℕ) → one_if (Q' b) ≡ sum_of_lanes (λ l. one_if (mine' l b))

abbrev pub StepHolds : Type 0
StepHolds = (held mine mine' : ℕ → ℕ → Bool) (P P' : List Debt) (M M' : FileMaps) (Q Q' : ℕ → Bool) (lane : ℕ) (new : List Work)
    → LanesHold held mine P M Q → StepsInLane held mine P M Q lane new P' M' mine' Q' → LanesHold held mine' P' M' Q'
