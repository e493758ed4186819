-- The run lies in one record of staged blocks, and is taken out of it.
use Rattle.std.proofs.Common.{true, refl}
use Rattle.xr_refcount.proofs.CallLemmas.{first_block, held_run, plain_part, staged_part, unstaged}
use Rattle.xr_refcount.proofs.refcount.Refcount.unstage.Goals as goal

pub carve-requires-clause-held : goal.carve-requires-clause-held
carve-requires-clause-held c =
    let found = c.in-Some.ensures in
    held_run _ c.requires.tree.records c.args.run c.in-Some.held found.some 1 true c.requires.good
    (staged_part _ c.requires.tree.records c.args.run c.requires.staged)

pub returns-in-Some-clause-unstaged : goal.returns-in-Some-clause-unstaged
returns-in-Some-clause-unstaged c =
    unstaged _ _ c.args.run (staged_part _ c.requires.tree.records c.args.run c.requires.staged) c.carve.ensures.set

pub returns-in_default-clause-unstaged : goal.returns-in_default-clause-unstaged
returns-in_default-clause-unstaged c =
    let found = c.in_default.ensures in
    let within = first_block c.args.run c.requires.good in
    let plain = plain_part _ c.requires.tree.records c.args.run (found.none refl) c.args.run.start within in
    let lie = c.requires.staged c.args.run.start within in
    let other = plain.kind in
    absurd cc
