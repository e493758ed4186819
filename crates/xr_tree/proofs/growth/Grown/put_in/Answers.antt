-- A record of the family may come into the tree, which has room, and the tree stays one.
use Rattle.std.proofs.Common.{◌+◌, ◌-◌, refl, arith}
use Rattle.xr_tree.proofs.GrowthLemmas.{blocks_few, inserted_grown, may_insert}
use Rattle.xr_tree.proofs.growth.Grown.put_in.Goals as goal

pub insert-requires-clause-rules : goal.insert-requires-clause-rules
insert-requires-clause-rules g c =
    let s = c.self.inside in
    may_insert g.R.Record.form g.met.R.Record.is_form g.R.Family.family s.over s.tree.block s.tree.level s.count s.spare c.self.invariant
    g.met.R.Family.agrees c.args.r (c.if-comes.ensures refl) (omega (arith, g.met.R.Record.numbers.same_most, c.MOST.ensures, c.if-self-MOST.true))

pub insert-requires-clause-room : goal.insert-requires-clause-room
insert-requires-clause-room g c =
    let s = c.self.inside in
    omega (
      arith,
      blocks_few g.R.Record.form s.over c.args.r s.tree.level s.tree.block,
      c.spare-known.ensures,
      c.if-known-wanted.true,
      c.level.ensures,
      c.from-wanted.ensures,
    )

pub invariant_of-self : goal.invariant_of-self
invariant_of-self g c =
    let s = c.self.inside in
    let after = c.insert.new in
    inserted_grown g.R.Record.form g.met.R.Record.is_form g.R.Family.family s.over s.tree.block s.tree.level s.count s.spare c.self.invariant
    after.over after.self.block after.self.level c.insert.ensures.step.tree c.args.r (c.spare-known.result - (c.from-wanted.result + 2))
    (c.if-comes.ensures refl).member c.insert.ensures.step.set
    (omega (
      arith,
      blocks_few g.R.Record.form s.over c.args.r s.tree.level s.tree.block,
      c.insert.ensures.room,
      c.spare-known.ensures,
      c.if-known-wanted.true,
      c.level.ensures,
      c.from-wanted.ensures,
    ))
