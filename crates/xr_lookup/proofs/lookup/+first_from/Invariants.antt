use Rattle.std.proofs.Common.{◌≡◌, ◌-◌, drop}
use Rattle.std.specs.List.{find, flat_map}
use Rattle.xr_lookup.specs.Lookup.{is_wanted}
use Rattle.xr_pool.specs.Overlay.{block_at}
use Rattle.xr_block.specs.Tree.{tree_records}
use Rattle.xr_block.specs.TreeBlock.{Entry, entries_in}
use Rattle.xr_lookup.proofs.lookup.+first_from.Given as goal

abbrev pub invariant-loop-k : goal.invariant-loop-k
invariant-loop-k g l =
    find (is_wanted g.R.Record.form l.wanted)
    (flat_map (λ (e : Entry). tree_records g.R.Record.form l.over e.child (l.level - 1)) (drop l.k (entries_in g.R.Record.form (block_at l.over l.n))))
    ≡ find (is_wanted g.R.Record.form l.wanted) (tree_records g.R.Record.form l.over l.n l.level)

abbrev pub decreases-first_from : goal.decreases-first_from
decreases-first_from g l = l.level
