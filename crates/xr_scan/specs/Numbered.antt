-- How works are numbered, which holds of each scan, also where the disk doesn't tell its image.
use Rattle.std.specs.Prelude.{ℕ, ◌<◌, ◌≤◌, List, All, AllPairs}
use Rattle.xr_items.specs.declared.item.Item.TheVariants.{Begin}
use Rattle.xr_items.specs.declared.layout.TheConstants.{IDS}
use Rattle.xr_items.specs.Valid.{IsItem}
use Rattle.xr_commit.specs.declared.pending.Pending.{Pending}

-- the intent of a pending work may be logged
abbrev pub IsLoggable : Pending → Type 0
IsLoggable p = IsItem (Begin p.id p.work)

-- Each work may be logged, ids rise, and the next id is above them all. It may be one that no item can have, where ids are used up.
pub record AreNumbered (next : ℕ) (pending : List Pending) : Type 0 where
  pub from : 1 ≤ next
  pub to : next ≤ IDS
  pub loggable : All IsLoggable pending
  pub rise : AllPairs (λ (one two : Pending). one.id < two.id) pending
  pub below : All (λ (p : Pending). p.id < next) pending
