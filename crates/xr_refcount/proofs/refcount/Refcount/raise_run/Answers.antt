-- The run is taken out of the record that holds it, if there is one, and comes back with a count more.
use Rattle.std.proofs.Common.{◌+◌, false, refl, arith}
use Rattle.xr_refcount.proofs.CallLemmas.{held_part, held_run, is_shared, plain_part, raised, same_part, shared_good}
use Rattle.xr_refcount.proofs.refcount.Refcount.raise_run.Goals as goal

pub recount-requires-clause-held : goal.recount-requires-clause-held
recount-requires-clause-held c =
    let found = c.in-Some.ensures in
    held_run _ c.requires.tree.records c.args.run c.in-Some.held found.some _ false c.requires.good c.requires.alike

pub overflow_add-held : goal.overflow_add-held
overflow_add-held c =
    let found = c.in-Some.ensures in
    let same = same_part _ c.requires.tree.records c.args.run c.in-Some.held found.some _ false c.requires.good c.requires.alike in
    omega (arith, same.0, c.requires.below)

pub returns-in-None-clause-raised : goal.returns-in-None-clause-raised
returns-in-None-clause-raised c =
    let found = c.in-None.ensures in
    raised _ _ c.args.run 1 _ (plain_part _ c.requires.tree.records c.args.run (found.none refl)) (rw c.shared.ensures at c.put.ensures.set) refl

pub returns-in-Some-clause-raised : goal.returns-in-Some-clause-raised
returns-in-Some-clause-raised c =
    let found = c.in-Some.ensures in
    raised _ _ c.args.run c.in-Some.held.count _
    (held_part _ c.requires.tree.records c.args.run c.in-Some.held found.some _ false c.requires.good c.requires.alike)
    c.recount.ensures.set refl

pub recount-requires-clause-good : goal.recount-requires-clause-good
recount-requires-clause-good c =
    let found = c.in-Some.ensures in
    let same = same_part _ c.requires.tree.records c.args.run c.in-Some.held found.some _ false c.requires.good c.requires.alike in
    let two = is_shared _ c.requires.tree.records c.args.run c.in-Some.held found.some _ c.requires.good c.requires.alike in
    shared_good c.args.run (c.in-Some.held.count + 1) c.requires.good (omega (arith, two)) (omega (arith, same.0, c.requires.below))
