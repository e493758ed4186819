use Rattle.std.proofs.Common.{rules}
use Rattle.xr_maps.proofs.CountLemmas.{counts_more}
use Rattle.xr_maps.proofs.counts.count_all_owners.Goals as goal

pub loop-table-preserved : goal.loop-table-preserved
loop-table-preserved c =
    let slots = (c.requires.tables.each c.loop-table.table-index c.table-item.result c.loop-table-test.true).slots in
    counts_more c.args.tables.now c.table-item.result c.args.first c.loop-table.table-index c.loop-table.counts c.count_owners.new.counts
    c.loop-table.invariant c.loop-table-test.true c.table-item.is (rw c.table-item.is slots) (search rules) (rw (← c.deref.ensures.value) (c.count_owners.ensures))
