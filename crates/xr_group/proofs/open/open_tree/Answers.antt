-- What is found is marked, and what is refused is refused over the marks.
use Rattle.xr_group.proofs.OpenTreeLemmas.{opens_next}
use Rattle.xr_group.specs.Group.{root_at}
use Rattle.xr_group.proofs.open.open_tree.Goals as goal

pub returns-clause-next : goal.returns-clause-next
returns-clause-next g c before marks =
    let found = c.verify.ensures in
    opens_next g.R.Record.form c.args.over.now before (root_at c.args.head.now c.args.place) c.args.seen.now c.verify.new.seen marks c.verify.result
    found.right found.refused found.tree found.marked
