use Rattle.std.proofs.Common.{◌∷◌, [], ◌++◌, ◌-◌, ◌∙◌, ap, length, take, drop, arith}
use Rattle.xr_record.specs.declared.operation.Sort.TheVariants.{Last}
use Rattle.xr_record.specs.Rules.{AtPart, AtRegion}
use Rattle.xr_log.specs.declared.packing.Fill.{Fill}
use Rattle.xr_log.specs.Filling.{fill_of, with_room}
use Rattle.xr_log.proofs.OpenLemmas.{last_follows, last_more, one_more_open, operation}
use Rattle.xr_log.proofs.RegionLemmas.{full_limit, full_room, rest_fills, rest_limit, rest_space}
use Rattle.xr_log.proofs.SpaceLemmas.{fills_grow}
use Rattle.xr_log.proofs.StepLemmas.{push_runs}
use Rattle.xr_log.proofs.packing.push_rest.Goals as goal

pub make_room-requires-clause-space : goal.make_room-requires-clause-space
make_room-requires-clause-space g c = rest_space c.args.held.now (length c.args.region.now - c.args.from) c.requires.full c.requires.space

pub push_from-requires-clause-sectors : goal.push_from-requires-clause-sectors
push_from-requires-clause-sectors g c =
    fills_grow c.args.held.now c.make_room.new.held (with_room 13 (fill_of c.args.held.now)) c.in_ok-make_room.ensures.fills
    (rest_space c.args.held.now (length c.args.region.now - c.args.from) c.requires.full c.requires.space)

pub returns-clause-runs : goal.returns-clause-runs
returns-clause-runs g c = λ phase.
    push_runs (g.D.Disk.view c.args.disk.now) (g.D.Disk.view c.make_room.new.disk) c.args.held.now c.make_room.new.held c.push_from.new.held phase
    (c.make_room.ensures.runs phase) c.push_from.ensures.only

pub returns-clause-kept : goal.returns-clause-kept
returns-clause-kept g c = λ count regions now said next states k.
    one_more_open (g.D.Disk.view c.make_room.new.disk) c.make_room.new.held c.push_from.new.held now said next states
    (AtPart c.args.tid count regions (take c.args.from c.args.region.now)) (AtRegion c.args.tid count (regions ++ c.args.region.now ∷ []))
    (operation c.args.tid Last (drop c.args.from c.args.region.now))
    (c.in_ok-make_room.ensures.kept (AtPart c.args.tid count regions (take c.args.from c.args.region.now)) now said next states k)
    (last_more c.make_room.new.held c.push_from.new.held c.args.tid c.args.region.now c.args.from c.push_from.result c.push_from.ensures.pushes
    c.push_from.ensures.only (c.in_ok-make_room.ensures.fills.len ∙ ap (λ (f : Fill). f.len) (full_room c.args.held.now c.requires.full))
    c.requires.within.0 c.requires.within.1 c.requires.most)
    (last_follows c.args.tid count regions c.args.region.now c.args.from c.ranges.tid.fits c.requires.within.1 c.requires.most
    (λ i. omega (arith, c.type_inv.region i)))

pub returns-clause-fills : goal.returns-clause-fills
returns-clause-fills g c =
    rest_fills c.args.held.now c.make_room.new.held c.push_from.new.held c.args.tid c.args.region.now c.args.from c.push_from.result c.requires.full
    c.in_ok-make_room.ensures.fills c.push_from.ensures.pushes c.push_from.ensures.only c.requires.within.0 c.requires.within.1 c.requires.most

pub returns-clause-limit : goal.returns-clause-limit
returns-clause-limit g c =
    rest_limit c.args.held.now c.make_room.new.held c.push_from.new.held (length c.args.region.now - c.args.from) c.requires.full c.make_room.ensures.limit
    c.push_from.ensures.only

pub returns-in_err-make_room-clause-limit : goal.returns-in_err-make_room-clause-limit
returns-in_err-make_room-clause-limit g c =
    full_limit c.args.held.now c.make_room.new.held (length c.args.region.now - c.args.from) c.requires.full c.make_room.ensures.limit
