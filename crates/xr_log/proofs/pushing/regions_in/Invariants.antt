use Rattle.std.proofs.Common.{◌≡◌, ◌≤◌, ◌*◌, List, length, take}
use Rattle.std.specs.List.{flat_map}
use Rattle.xr_items.specs.declared.trans.Logged.{Logged as Changed}
use Rattle.xr_commit.specs.LoggedItems.{logged_regions}
use Rattle.xr_log.specs.TransactionItems.{logged_in}
use Rattle.xr_log.proofs.pushing.regions_in.Given as goal

abbrev pub invariant-loop-planned : goal.invariant-loop-planned
invariant-loop-planned l = ((blocks : List Changed) → l.count ≡ length (flat_map logged_regions (logged_in blocks (take l.planned-index l.plan))))
    × (l.count ≤ 2 * l.planned-index)
