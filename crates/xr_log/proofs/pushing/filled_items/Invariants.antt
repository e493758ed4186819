use Rattle.std.proofs.Common.{◌≤◌, ◌+◌, ◌*◌}
use Rattle.xr_log.proofs.FillLemmas.{IsFilledTo}
use Rattle.xr_log.proofs.pushing.filled_items.Given as goal

abbrev pub invariant-loop-planned : goal.invariant-loop-planned
invariant-loop-planned l = IsFilledTo l.plan l.planned-index l.initial.fill l.fill × (l.fill.len ≤ 32768)
    × (l.fill.records ≤ l.initial.fill.records + 2 * l.planned-index)
