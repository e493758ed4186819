use Rattle.std.proofs.Common.{[], ◌∷◌, sym, subst}
use Rattle.xr_pool.specs.Overlay.{Blocks}
use Rattle.xr_block.specs.Rows.{min_records}
use Rattle.xr_change.proofs.BlockInTreeLemmas.{one_more}
use Rattle.xr_change.proofs.WholeTreeLemmas.{root_grown, rows_taken}
use Rattle.xr_change.specs.Alters.{AreRowsIn}
use Rattle.xr_change.proofs.root.grow_root.Goals as goal

pub put_node_above-requires-clause-rows : goal.put_node_above-requires-clause-rows
put_node_above-requires-clause-rows g c =
    let form = g.R.Record.form in
    let level = c.args.root.level in
    let spot = c.take_free-block.ensures in
    subst (λ (t : Blocks). AreRowsIn form t (min_records form level) level (c.args.root.block ∷ [])) (sym spot.taken)
    (rows_taken form g.met.R.Record.is_form c.args.draft.now level c.args.root.block c.requires.tree c.requires.full c.take_free-block.result spot.was_free c.is_known.ensures.all spot.within)

pub returns-clause-grows : goal.returns-clause-grows
returns-clause-grows g c =
    let form = g.R.Record.form in
    let a = c.args.draft.now in
    let level = c.args.root.level in
    let root = c.args.root.block in
    let p = c.take_free-block.result in
    let spot = c.take_free-block.ensures in
    let b = c.put_node_above.new.draft in
    rw (one_more level) (root_grown form g.met.R.Record.is_form a level root c.requires.tree c.requires.full p spot.was_free c.is_known.ensures.all spot.within b
    (rw spot.taken at c.put_node_above.ensures.writes) (rw spot.taken at c.put_node_above.ensures.node) c.args.r.now)
