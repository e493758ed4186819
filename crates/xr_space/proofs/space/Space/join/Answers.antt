-- A run is given back by itself, or as one with the free run that touches it.
use Rattle.std.proofs.Common.{◌+◌}
use Rattle.xr_kinds.specs.Spans.{span}
use Rattle.xr_space.specs.Space.{IsFreeRun}
use Rattle.xr_space.proofs.FreeSetLemmas.{are_runs, gained, grown}
use Rattle.xr_space.proofs.JoinLemmas.{alone_fits, joined_each, joined_fits}
use Rattle.xr_space.proofs.space.Space.join.Goals as goal

pub add_run-requires-clause-fits : goal.add_run-requires-clause-fits
add_run-requires-clause-fits c = alone_fits _ c.args.run (are_runs _ _ c.requires.space) (rw c.in-None.is at c.requires.loose)

pub swap_run-requires-clause-fits : goal.swap_run-requires-clause-fits
swap_run-requires-clause-fits c =
    joined_fits _ c.args.run c.in-Some.other c.min.result c.min.ensures (are_runs _ _ c.requires.space) (rw c.in-Some.is at c.requires.loose)

pub returns-in-None-clause-given : goal.returns-in-None-clause-given
returns-in-None-clause-given c =
    gained (IsFreeRun c.args.over.now c.args.self.now) (IsFreeRun c.add_run.new.over c.add_run.new.self) c.args.run c.add_run.ensures.set

pub returns-in-Some-clause-given : goal.returns-in-Some-clause-given
returns-in-Some-clause-given c n =
    let run = c.args.run in
    let other = c.in-Some.other in
    let loose = rw c.in-Some.is at c.requires.loose in
    let beside = loose.held in
    grown _ (IsFreeRun c.swap_run.new.over c.swap_run.new.self) other (span c.min.result (run.len + other.len)) (are_runs _ _ c.requires.space)
    beside.0 c.swap_run.ensures.set n run (joined_each run other c.min.result c.min.ensures beside.1 n)
