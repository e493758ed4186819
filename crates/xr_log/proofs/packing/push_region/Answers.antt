use Rattle.std.proofs.Common.{length, take, arith}
use Rattle.xr_record.specs.Rules.{AtPart, AtRegion}
use Rattle.xr_log.specs.Held.{cycle_of}
use Rattle.xr_log.proofs.RegionLemmas.{cut_fills, cut_limit, cut_space_for, front_limit, front_space, on_ok, whole_fills}
use Rattle.xr_log.proofs.StepLemmas.{runs_then, step_then}
use Rattle.xr_log.proofs.packing.push_region.Goals as goal

pub push_front-requires-clause-space : goal.push_front-requires-clause-space
push_front-requires-clause-space g c = front_space c.args.held.now (length c.args.region.now) c.requires.space

pub push_rest-requires-clause-space : goal.push_rest-requires-clause-space
push_rest-requires-clause-space g c =
    cut_space_for c.args.held.now c.push_front.new.held (length c.args.region.now) c.in_ok-stop.stop c.in_ok-stop.ensures.fills c.if-stop-region.true c.requires.space

pub returns-in_err-stop-clause-runs : goal.returns-in_err-stop-clause-runs
returns-in_err-stop-clause-runs g c = λ count regions. c.push_front.ensures.runs (AtRegion c.args.tid count regions)

pub returns-in_err-stop-clause-limit : goal.returns-in_err-stop-clause-limit
returns-in_err-stop-clause-limit g c = front_limit c.args.held.now c.push_front.new.held (length c.args.region.now) c.push_front.ensures.limit

pub returns-then-stop-region-clause-runs : goal.returns-then-stop-region-clause-runs
returns-then-stop-region-clause-runs g c = λ count regions now said next states k.
    runs_then (g.D.Disk.view c.args.disk.now) (g.D.Disk.view c.push_front.new.disk) (g.D.Disk.view c.push_rest.new.disk) states (cycle_of c.push_front.new.held)
    (cycle_of c.push_rest.new.held) next c.push_rest.ensures.step.cycle (c.push_front.ensures.runs (AtRegion c.args.tid count regions) now said next states k)
    (c.push_rest.ensures.runs (AtPart c.args.tid count regions (take c.in_ok-stop.stop c.args.region.now)) now said next states
    (c.in_ok-stop.ensures.cut c.if-stop-region.true count regions now said next states k))

pub returns-then-stop-region-clause-kept : goal.returns-then-stop-region-clause-kept
returns-then-stop-region-clause-kept g c =
    on_ok c.push_rest.result (λ kept count regions now said next states k.
    kept count regions now said next states (c.in_ok-stop.ensures.cut c.if-stop-region.true count regions now said next states k)) c.push_rest.ensures.kept

pub returns-then-stop-region-clause-fills : goal.returns-then-stop-region-clause-fills
returns-then-stop-region-clause-fills g c =
    on_ok c.push_rest.result
    (cut_fills c.args.held.now c.push_front.new.held c.push_rest.new.held (length c.args.region.now) c.in_ok-stop.stop c.in_ok-stop.ensures.fills
    c.if-stop-region.true) c.push_rest.ensures.fills

pub returns-then-stop-region-clause-limit : goal.returns-then-stop-region-clause-limit
returns-then-stop-region-clause-limit g c =
    cut_limit c.args.held.now c.push_front.new.held c.push_rest.new.held (length c.args.region.now) c.in_ok-stop.stop c.in_ok-stop.ensures.fills
    c.if-stop-region.true c.push_rest.ensures.limit

pub returns-then-stop-region-clause-step : goal.returns-then-stop-region-clause-step
returns-then-stop-region-clause-step g c =
    step_then (g.D.Disk.view c.args.disk.now) (g.D.Disk.view c.push_front.new.disk) (g.D.Disk.view c.push_rest.new.disk) c.args.held.now c.push_front.new.held
    c.push_rest.new.held c.push_front.result c.push_rest.result c.push_front.ensures.step c.push_rest.ensures.step

pub returns-else-stop-region-clause-runs : goal.returns-else-stop-region-clause-runs
returns-else-stop-region-clause-runs g c = λ count regions. c.push_front.ensures.runs (AtRegion c.args.tid count regions)

pub returns-else-stop-region-clause-kept : goal.returns-else-stop-region-clause-kept
returns-else-stop-region-clause-kept g c =
    c.in_ok-stop.ensures.whole (omega (arith, c.in_ok-stop.ensures.within, c.if-stop-region.false))

pub returns-else-stop-region-clause-fills : goal.returns-else-stop-region-clause-fills
returns-else-stop-region-clause-fills g c =
    whole_fills c.args.held.now c.push_front.new.held (length c.args.region.now) c.in_ok-stop.stop c.in_ok-stop.ensures.fills
    (omega (arith, c.in_ok-stop.ensures.within, c.if-stop-region.false))

pub returns-else-stop-region-clause-limit : goal.returns-else-stop-region-clause-limit
returns-else-stop-region-clause-limit g c = front_limit c.args.held.now c.push_front.new.held (length c.args.region.now) c.push_front.ensures.limit
