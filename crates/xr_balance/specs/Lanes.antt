-- What lanes hold between events, and what that tells of an idle lane.
use Rattle.std.specs.Prelude.{◌≢◌, false, if◌then◌else◌, ℕ, ◌≡◌, ◌+◌, ◌*◌, ◌<◌, ◌≤◌, Bool, IsTrue, List, [], All}
use Rattle.xr_base.specs.declared.geometry.TheConstants.{FILES}
use Rattle.xr_items.specs.declared.work.Work.{Work}
use Rattle.xr_maps.specs.FileMaps.{FileMaps}
use Rattle.xr_maps.specs.Holdings.{one_if, owners, owners_of_file, sum_below}
use Rattle.xr_balance.specs.Settled.{Committed, IsSettled, chain_of}
use Rattle.xr_balance.specs.Works.{Debt, IsLane, naming_file, raised, staging, staging_pair, staging_unpair, sum_of_lanes, total, unstaging}

-- a block's owners in the files that pass the test
abbrev pub owners_in : (ℕ → Bool) → FileMaps → ℕ → ℕ
owners_in test maps b = sum_below FILES (λ f. if test f then owners_of_file maps b f else 0)

-- what the works of one lane's chain do together
abbrev pub lane_total : (Work → ℕ) → ℕ → List Debt → ℕ
lane_total g lane P = total g (chain_of P lane)

-- each lane with an open line holds its files (`held lane file`), and what it has staged and not yet mapped is its own (`mine lane block`).
-- Lanes count from 1, so 0 has no chain; it holds nothing, and nothing is its own.
pub record LanesHold (held : ℕ → ℕ → Bool) (mine : ℕ → ℕ → Bool) (P : List Debt) (M : FileMaps) (Q : ℕ → Bool) : Type 0 where
  -- no file is held twice, and no block is staged for two lanes
  pub apart : (l k f : ℕ) → IsTrue (held l f) → IsTrue (held k f) → l ≡ k
  pub staged_for : (b : ℕ) → one_if (Q b) ≡ sum_of_lanes (λ l. one_if (mine l b))
  -- what a chain has still to stage is its lane's own
  pub stages_own : (l b : ℕ) → 0 < lane_total (staging b) l P + lane_total (staging_pair b) l P → IsTrue (mine l b)
  -- a chain names files that its lane holds only
  pub named : (l f : ℕ) → 0 < lane_total (naming_file f) l P → IsTrue (held l f)
  -- a block that a chain raises has two owners in files that the lane holds
  pub raised_twice : (l b : ℕ) → 2 * lane_total (raised b) l P ≤ owners_in (held l) M b
  -- a block that a chain has still to unstage has its owners in files that the lane holds
  pub unstaged_own : (l b : ℕ) → 0 < lane_total (unstaging b) l P → owners_in (held l) M b ≡ owners M b

-- no pending work is on a file that an idle lane holds
abbrev pub IdleIsApart : Type 0
IdleIsApart = (held mine : ℕ → ℕ → Bool) (C : Committed) (P : List Debt) (M : FileMaps) (Q : ℕ → Bool) (lane f : ℕ)
    → IsSettled C P M Q → LanesHold held mine P M Q → chain_of P lane ≡ [] → IsTrue (held lane f) → total (naming_file f) P ≡ 0

-- what was staged for an idle lane is staged in the blocks, and nothing of it is pending
abbrev pub IdleIsStaged : Type 0
IdleIsStaged = (held mine : ℕ → ℕ → Bool) (C : Committed) (P : List Debt) (M : FileMaps) (Q : ℕ → Bool) (lane b : ℕ)
    → IsSettled C P M Q → LanesHold held mine P M Q → IsLane lane → chain_of P lane ≡ [] → IsTrue (mine lane b)
    → (total (staging b) P + total (unstaging b) P + total (staging_pair b) P + total (staging_unpair b) P ≡ 0) × IsTrue (Q b)

-- no block that an idle lane's file maps is still to be unstaged
abbrev pub OwnedIsUnstaged : Type 0
OwnedIsUnstaged = (held mine : ℕ → ℕ → Bool) (C : Committed) (P : List Debt) (M : FileMaps) (Q : ℕ → Bool) (lane f b : ℕ)
    → IsSettled C P M Q → LanesHold held mine P M Q → chain_of P lane ≡ [] → f < FILES → IsTrue (held lane f) → 0 < owners_of_file M b f
    → (one_if (Q b) ≡ 0) × (total (unstaging b) P ≡ 0)

-- what lanes hold gives part 6's two owners for each pending raise
abbrev pub TwoOwners : Type 0
TwoOwners = (held mine : ℕ → ℕ → Bool) (P : List Debt) (M : FileMaps) (Q : ℕ → Bool) (b : ℕ) → All (λ d. IsLane d.lane) P
    → LanesHold held mine P M Q → 2 * total (raised b) P ≤ owners M b

-- a lane without a chain may take files that no lane holds, and give back its own
abbrev pub IdleMayChangeFiles : Type 0
IdleMayChangeFiles = (held held' mine : ℕ → ℕ → Bool) (P : List Debt) (M : FileMaps) (Q : ℕ → Bool) (lane : ℕ)
    → LanesHold held mine P M Q → chain_of P lane ≡ [] → ((l f : ℕ) → l ≢ lane → held' l f ≡ held l f)
    → ((l k f : ℕ) → IsTrue (held' l f) → IsTrue (held' k f) → l ≡ k) → LanesHold held' mine P M Q

-- where nothing is pending and nothing staged, lanes may hold any files, each file one lane's
abbrev pub NothingIsHeld : Type 0
NothingIsHeld = (held : ℕ → ℕ → Bool) (M : FileMaps) → ((l k f : ℕ) → IsTrue (held l f) → IsTrue (held k f) → l ≡ k)
    → LanesHold held (λ l b. false) [] M (λ b. false)
