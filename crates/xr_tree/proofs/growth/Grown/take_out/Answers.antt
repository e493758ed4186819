-- A tree with a record less is one still.
use Rattle.xr_tree.proofs.GrowthLemmas.{removed_grown}
use Rattle.xr_tree.proofs.growth.Grown.take_out.Goals as goal

pub invariant_of-self : goal.invariant_of-self
invariant_of-self g c =
    let s = c.self.inside in
    let after = c.remove.new in
    removed_grown g.R.Record.form g.met.R.Record.is_form g.R.Family.family s.over s.tree.block s.tree.level s.count s.spare c.self.invariant
    after.over after.self.block after.self.level c.remove.ensures.step.tree c.remove.ensures.room c.in-Some.found c.remove.ensures.step.set
