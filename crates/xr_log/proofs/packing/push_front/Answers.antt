use Rattle.std.proofs.Common.{refl, ◌∷◌, [], ◌++◌, length, take, arith}
use Rattle.xr_record.specs.declared.operation.Sort.TheVariants.{First, Whole}
use Rattle.xr_record.specs.Rules.{AtPart, AtRegion}
use Rattle.xr_log.specs.Filling.{fill_of, with_room}
use Rattle.xr_log.proofs.OpenLemmas.{first_follows, first_more, one_more_open, operation, whole_follows, whole_more}
use Rattle.xr_log.proofs.RegionLemmas.{fills_front, stop_within, whole_fits}
use Rattle.xr_log.proofs.SpaceLemmas.{fills_grow}
use Rattle.xr_log.proofs.StepLemmas.{push_limit, push_runs}
use Rattle.xr_log.proofs.packing.push_front.Goals as goal

pub push_from-requires-clause-sectors : goal.push_from-requires-clause-sectors
push_from-requires-clause-sectors g c =
    fills_grow c.args.held.now c.make_room.new.held (with_room 13 (fill_of c.args.held.now)) c.in_ok-make_room.ensures.fills c.requires.space

pub returns-clause-runs : goal.returns-clause-runs
returns-clause-runs g c = λ phase.
    push_runs (g.D.Disk.view c.args.disk.now) (g.D.Disk.view c.make_room.new.disk) c.args.held.now c.make_room.new.held c.push_from.new.held phase
    (c.make_room.ensures.runs phase) c.push_from.ensures.only

pub returns-clause-within : goal.returns-clause-within
returns-clause-within g c =
    stop_within c.make_room.new.held.growing.packer.body (length c.args.region.now) c.push_from.result c.push_from.ensures.pushes.stop_is
    c.in_ok-make_room.ensures.room c.requires.some

pub returns-clause-whole : goal.returns-clause-whole
returns-clause-whole g c = λ whole count regions now said next states k.
    one_more_open (g.D.Disk.view c.make_room.new.disk) c.make_room.new.held c.push_from.new.held now said next states (AtRegion c.args.tid count regions)
    (AtRegion c.args.tid count (regions ++ c.args.region.now ∷ [])) (operation c.args.tid Whole c.args.region.now)
    (c.in_ok-make_room.ensures.kept (AtRegion c.args.tid count regions) now said next states k)
    (whole_more c.make_room.new.held c.push_from.new.held c.args.tid c.args.region.now c.push_from.result c.push_from.ensures.pushes c.push_from.ensures.only
    (whole_fits c.make_room.new.held.growing.packer.body (length c.args.region.now) c.push_from.result c.push_from.ensures.pushes.stop_is
    c.in_ok-make_room.ensures.room whole))
    (whole_follows c.args.tid count regions c.args.region.now c.ranges.tid.fits c.requires.some c.requires.most (λ i. omega (arith, c.type_inv.region i)))

pub returns-clause-cut : goal.returns-clause-cut
returns-clause-cut g c = λ less count regions now said next states k.
    one_more_open (g.D.Disk.view c.make_room.new.disk) c.make_room.new.held c.push_from.new.held now said next states (AtRegion c.args.tid count regions)
    (AtPart c.args.tid count regions (take c.push_from.result c.args.region.now)) (operation c.args.tid First (take c.push_from.result c.args.region.now))
    (c.in_ok-make_room.ensures.kept (AtRegion c.args.tid count regions) now said next states k)
    (first_more c.make_room.new.held c.push_from.new.held c.args.tid c.args.region.now c.push_from.result c.push_from.ensures.pushes c.push_from.ensures.only less)
    (let within = stop_within c.make_room.new.held.growing.packer.body (length c.args.region.now) c.push_from.result c.push_from.ensures.pushes.stop_is
    c.in_ok-make_room.ensures.room c.requires.some in
    first_follows c.args.tid count regions c.args.region.now c.push_from.result c.ranges.tid.fits within.0 within.1 c.requires.most
    (λ i. omega (arith, c.type_inv.region i)))

pub returns-clause-fills : goal.returns-clause-fills
returns-clause-fills g c =
    fills_front c.args.held.now c.make_room.new.held c.push_from.new.held c.args.tid c.args.region.now c.push_from.result c.in_ok-make_room.ensures.fills
    c.in_ok-make_room.ensures.room c.requires.some c.push_from.ensures.pushes c.push_from.ensures.only

pub returns-clause-limit : goal.returns-clause-limit
returns-clause-limit g c =
    push_limit c.args.held.now c.make_room.new.held c.push_from.new.held (with_room 13 (fill_of c.args.held.now)) (with_room 13 (fill_of c.args.held.now))
    c.make_room.ensures.limit c.push_from.ensures.only refl
