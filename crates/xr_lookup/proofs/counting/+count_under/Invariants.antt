use Rattle.std.proofs.Common.{◌≡◌, ◌+◌, ◌-◌, length}
use Rattle.xr_block.specs.Tree.{tree_records}
use Rattle.xr_lookup.proofs.CountLemmas.{count_after}
use Rattle.xr_lookup.proofs.counting.+count_under.Given as goal

abbrev pub decreases-count_under : goal.decreases-count_under
decreases-count_under g l = l.level

abbrev pub invariant-loop-k : goal.invariant-loop-k
invariant-loop-k g l =
    l.records + count_after g.R.Record.form l.over (l.level - 1) l.n l.k ≡ length (tree_records g.R.Record.form l.over l.n l.level)
