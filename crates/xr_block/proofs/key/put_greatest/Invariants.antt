use Rattle.std.proofs.Common.{◌≡◌, ◌<◌, length, map, drop}
use Rattle.xr_block.specs.Rows.{greatest_key}
use Rattle.xr_block.specs.TreeBlock.{count_in, records_in}
use Rattle.xr_block.proofs.key.put_greatest.Given as goal

abbrev pub decreases-loop-k : goal.decreases-loop-k
decreases-loop-k g l = l.k

abbrev pub invariant-loop-k : goal.invariant-loop-k
invariant-loop-k g l =
    let form = g.R.Record.form in
    (l.k < count_in l.block) × (length l.next ≡ form.high) × (l.out ≡ greatest_key (map form.high_of (drop l.k (records_in form l.block))))
