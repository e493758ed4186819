use Rattle.std.proofs.Common.{◌≡◌, ◌<◌, map, drop}
use Rattle.xr_block.specs.Rows.{greatest_key}
use Rattle.xr_block.specs.TreeBlock.{count_in, entries_in}
use Rattle.xr_block.specs.NodeEntries.{high_part}
use Rattle.xr_block.proofs.key.greatest_high.Given as goal

abbrev pub invariant-loop-k : goal.invariant-loop-k
invariant-loop-k g l =
    let form = g.R.Record.form in
    (l.k < count_in l.block) × (l.best ≡ greatest_key (map (high_part form) (drop l.k (entries_in form l.block))))

abbrev pub decreases-loop-k : goal.decreases-loop-k
decreases-loop-k g l = l.k
