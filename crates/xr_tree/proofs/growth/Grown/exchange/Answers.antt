-- A record of the family may stand in the place of another, and the tree stays one.
use Rattle.std.proofs.Common.{sym, arith}
use Rattle.xr_tree.proofs.GrowthLemmas.{may_replace, replaced_grown}
use Rattle.xr_tree.proofs.growth.Grown.exchange.Goals as goal

pub replace-requires-clause-rules : goal.replace-requires-clause-rules
replace-requires-clause-rules g c =
    let s = c.self.inside in
    may_replace g.R.Record.form g.met.R.Record.is_form g.R.Family.family s.over s.tree.block s.tree.level s.count s.spare c.self.invariant
    g.met.R.Family.agrees c.in-Some.found c.args.new c.in-Some.ensures (sym c.if-valid.ensures) (sym c.if-is_member.ensures)

pub invariant_of-self : goal.invariant_of-self
invariant_of-self g c =
    let s = c.self.inside in
    let after = c.replace.new in
    replaced_grown g.R.Record.form g.met.R.Record.is_form g.R.Family.family s.over s.tree.block s.tree.level s.count s.spare c.self.invariant
    after.over after.self.block after.self.level c.replace.ensures.step.tree (omega (arith, c.replace.ensures.room)) c.in-Some.found c.args.new (sym c.if-is_member.ensures)
    c.replace.ensures.step.set
