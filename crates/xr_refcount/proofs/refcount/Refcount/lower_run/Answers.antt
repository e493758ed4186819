-- The run is taken out of the record that holds it, if there is one, and comes back where a count of 2 or more is left.
use Rattle.std.proofs.Common.{false, refl, arith}
use Rattle.std.proofs.lemmas.Bool.Decides.{nat_tests}
use Rattle.xr_refcount.proofs.CallLemmas.{first_block, held_part, held_run, is_shared, lowered, not_freed, plain_part}
use Rattle.xr_refcount.proofs.refcount.Refcount.lower_run.Goals as goal

pub carve-requires-clause-held : goal.carve-requires-clause-held
carve-requires-clause-held c =
    let found = c.in-Some.ensures in
    held_run _ c.requires.tree.records c.args.run c.in-Some.held found.some _ false c.requires.good c.requires.alike

pub recount-requires-clause-held : goal.recount-requires-clause-held
recount-requires-clause-held c =
    let found = c.in-Some.ensures in
    held_run _ c.requires.tree.records c.args.run c.in-Some.held found.some _ false c.requires.good c.requires.alike

pub returns-in-None-clause-freed : goal.returns-in-None-clause-freed
returns-in-None-clause-freed c =
    let found = c.in-None.ensures in
    let plain = plain_part _ c.requires.tree.records c.args.run (found.none refl) c.args.run.start (first_block c.args.run c.requires.good) in
    grind (arith, nat_tests, plain.owners)

pub returns-then-held-gt2-clause-freed : goal.returns-then-held-gt2-clause-freed
returns-then-held-gt2-clause-freed c =
    let found = c.in-Some.ensures in
    not_freed _ c.requires.tree.records c.args.run c.in-Some.held found.some _ c.requires.good c.requires.alike

pub returns-then-held-gt2-clause-lowered : goal.returns-then-held-gt2-clause-lowered
returns-then-held-gt2-clause-lowered c _ =
    let found = c.in-Some.ensures in
    lowered _ _ c.args.run c.in-Some.held.count _
    (held_part _ c.requires.tree.records c.args.run c.in-Some.held found.some _ false c.requires.good c.requires.alike)
    c.recount.ensures.set refl

pub returns-else-held-gt2-clause-freed : goal.returns-else-held-gt2-clause-freed
returns-else-held-gt2-clause-freed c =
    let found = c.in-Some.ensures in
    not_freed _ c.requires.tree.records c.args.run c.in-Some.held found.some _ c.requires.good c.requires.alike

pub returns-else-held-gt2-clause-lowered : goal.returns-else-held-gt2-clause-lowered
returns-else-held-gt2-clause-lowered c _ =
    let found = c.in-Some.ensures in
    let two = is_shared _ c.requires.tree.records c.args.run c.in-Some.held found.some _ c.requires.good c.requires.alike in
    lowered _ _ c.args.run c.in-Some.held.count _
    (held_part _ c.requires.tree.records c.args.run c.in-Some.held found.some _ false c.requires.good c.requires.alike)
    c.carve.ensures.set (omega (arith, two, c.if-held-gt2.false))
