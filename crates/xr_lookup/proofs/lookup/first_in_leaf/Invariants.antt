use Rattle.std.proofs.Common.{◌≡◌, drop}
use Rattle.std.specs.List.{find}
use Rattle.xr_lookup.specs.Lookup.{is_wanted}
use Rattle.xr_pool.specs.Overlay.{block_at}
use Rattle.xr_block.specs.Tree.{tree_records}
use Rattle.xr_block.specs.TreeBlock.{records_in}
use Rattle.xr_lookup.proofs.lookup.first_in_leaf.Given as goal

abbrev pub invariant-loop-k : goal.invariant-loop-k
invariant-loop-k g l =
    find (is_wanted g.R.Record.form l.wanted) (drop l.k (records_in g.R.Record.form (block_at l.over l.n)))
    ≡ find (is_wanted g.R.Record.form l.wanted) (tree_records g.R.Record.form l.over l.n 0)
