-- What the roll of an exchange is given, by the sums over its works; the piece of two ranges gives all of it.
use Rattle.std.specs.Prelude.{◌≡◌, ℕ, ◌+◌, ◌<◌, ◌≤◌, List, remove, sum_by, All}
use Rattle.xr_maps.specs.FileMaps.{FileMaps, AreGoodMaps}
use Rattle.xr_items.specs.declared.work.Work.{Work}
use Rattle.xr_items.specs.Valid.{IsWork}
use Rattle.xr_maps.specs.Holdings.{holds, is_mapped, owners}
use Rattle.xr_balance.specs.Chains.{IsChain, exchanging}
use Rattle.xr_balance.specs.Settled.{Committed, bringing, taking}
use Rattle.xr_balance.specs.Works.{Debt, exchanging_at, freed, lowered, mapping, mapping_at, naming, naming_file, pairing, pairing_at, raised, staging, staging_pair, staging_unpair, total, unmapping, unmapping_at, unpairing, unpairing_at, unstaging}

-- the new works map and unmap alike in the maps and in the pairs, and count and stage nothing
pub record IsExchangeRow (new : List Work) : Type 0 where
  pub pairs_on : (f o b : ℕ) → sum_by (pairing f o b) new ≡ sum_by (mapping f o b) new
  pub pairs_off : (f o b : ℕ) → sum_by (unpairing f o b) new ≡ sum_by (unmapping f o b) new
  pub at_on : (f o : ℕ) → sum_by (pairing_at f o) new ≡ sum_by (mapping_at f o) new
  pub at_off : (f o : ℕ) → sum_by (unpairing_at f o) new ≡ sum_by (unmapping_at f o) new
  pub uncounted : (b : ℕ) → sum_by (freed b) new + sum_by (raised b) new + sum_by (lowered b) new ≡ 0
  pub unstaged : (b : ℕ) → sum_by (staging b) new + sum_by (unstaging b) new + sum_by (staging_pair b) new + sum_by (staging_unpair b) new ≡ 0

-- B' is B with the piece exchanged
pub record RollsExchange (C : Committed) (P : List Debt) (M B : FileMaps) (i : ℕ) (w : Work) (new : List Work) (B' : FileMaps) : Type 0 where
  pub is : 0 < exchanging w
  pub good : AreGoodMaps B'
  pub row : IsExchangeRow new
  pub chain : IsChain new
  pub valid : All (λ w. IsWork w) new
  pub base : (f o b : ℕ) → holds B' f o b + sum_by (unmapping f o b) new ≡ holds B f o b + sum_by (mapping f o b) new
  -- what the piece and the rest take and bring, the work did, and what was passed over holds the same in both ranges
  pub moved : (f o b : ℕ) → taking B f o b w + sum_by (bringing B' f o b) new + sum_by (mapping f o b) new
      ≡ bringing B f o b w + sum_by (taking B' f o b) new + sum_by (unmapping f o b) new
  pub others_take : (f o b : ℕ) → total (taking B' f o b) (remove P i) ≡ total (taking B f o b) (remove P i)
  pub others_bring : (f o b : ℕ) → total (bringing B' f o b) (remove P i) ≡ total (bringing B f o b) (remove P i)
  -- the piece and the rest are parts of the two ranges
  pub unmaps_within : (f o : ℕ) → sum_by (unmapping_at f o) new + sum_by (exchanging_at f o) new ≤ exchanging_at f o w
  pub maps_within : (f o : ℕ) → sum_by (mapping_at f o) new + sum_by (exchanging_at f o) new ≤ exchanging_at f o w
  pub files_within : (f : ℕ) → 0 < sum_by (naming_file f) new → 0 < naming_file f w
  -- the files map what is unmapped, and nothing else is mapped where it stands
  pub old_there : (f o b : ℕ) → sum_by (unmapping f o b) new ≤ holds C.maps f o b
  pub fills : (f o : ℕ) → is_mapped C.maps f o + sum_by (mapping_at f o) new ≤ 1 + sum_by (unmapping_at f o) new
  pub others : (f o b : ℕ) → holds B f o b + sum_by (mapping f o b) new ≤ 1
  pub there : (b : ℕ) → 0 < sum_by (naming b) new → 0 < owners M b
