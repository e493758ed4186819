-- What the first work of a chain finds in the blocks, as sums; what makes it ready is read off it.
use Rattle.std.specs.Prelude.{◌≡◌, ℕ, ◌+◌, ◌<◌, ◌≤◌, false}
use Rattle.xr_maps.specs.Holdings.{holds, is_mapped, one_if}
use Rattle.xr_items.specs.declared.work.Work.{Work}
use Rattle.xr_balance.specs.Settled.{Committed}
use Rattle.xr_balance.specs.Works.{lowered, mapping_at, naming, pairing, raised, staging, staging_pair, staging_unpair, unmapping, unpairing, unstaging}

-- the blocks have what the work takes, and not yet what it adds; its blocks aren't free, and those that it counts aren't staged
pub record Finds (C : Committed) (w : Work) : Type 0 where
  pub unmaps : (f o b : ℕ) → unmapping f o b w ≤ holds C.maps f o b
  pub maps : (f o : ℕ) → 0 < mapping_at f o w → is_mapped C.maps f o ≡ 0
  pub removals : (f o b : ℕ) → unpairing f o b w ≤ one_if (C.has_pair f o b)
  pub additions : (f o b : ℕ) → one_if (C.has_pair f o b) + pairing f o b w ≤ 1
  pub staging_removals : (b : ℕ) → staging_unpair b w ≤ one_if (C.has_staging_pair b)
  pub staging_additions : (b : ℕ) → one_if (C.has_staging_pair b) + staging_pair b w ≤ 1
  pub unstagings : (b : ℕ) → unstaging b w ≤ one_if (C.is_staged b)
  pub stagings : (b : ℕ) → 0 < staging b w → (C.counted b ≡ 1) × (C.is_staged b ≡ false)
  pub unfree : (b : ℕ) → 0 < naming b w → C.is_free b ≡ false
  pub unstaged : (b : ℕ) → 0 < raised b w + lowered b w → C.is_staged b ≡ false
  pub below : (b : ℕ) → 0 < raised b w → C.counted b < 32768
