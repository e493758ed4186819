use Rattle.std.proofs.Common.{refl, []}
use Rattle.xr_record.specs.Rules.{AtHeader, AtRegion}
use Rattle.xr_record.specs.Stream.{transaction_header}
use Rattle.xr_log.specs.Filling.{fill_of, filled_whole, with_room}
use Rattle.xr_log.proofs.OpenLemmas.{one_longer, one_more_open, header_more, header_small, heads}
use Rattle.xr_log.proofs.SpaceLemmas.{fills_grow, length_filled}
use Rattle.xr_log.proofs.StepLemmas.{push_fills, push_limit, push_runs}
use Rattle.xr_log.proofs.packing.push_header.Goals as goal

pub push_from-requires-clause-sectors : goal.push_from-requires-clause-sectors
push_from-requires-clause-sectors g c =
    fills_grow c.args.held.now c.make_room.new.held (with_room 28 (fill_of c.args.held.now)) c.in_ok-make_room.ensures.fills c.requires.space

pub returns-clause-runs : goal.returns-clause-runs
returns-clause-runs g c = λ phase.
    push_runs (g.D.Disk.view c.args.disk.now) (g.D.Disk.view c.make_room.new.disk) c.args.held.now c.make_room.new.held c.push_from.new.held phase
    (c.make_room.ensures.runs phase) c.push_from.ensures.only

pub returns-clause-kept : goal.returns-clause-kept
returns-clause-kept g c = λ now said next states k.
    one_more_open (g.D.Disk.view c.make_room.new.disk) c.make_room.new.held c.push_from.new.held now said next states (AtHeader c.args.tid)
    (AtRegion c.args.tid c.args.count []) (transaction_header c.args.tid c.args.count) (c.in_ok-make_room.ensures.kept (AtHeader c.args.tid) now said next states k)
    (header_more c.make_room.new.held c.push_from.new.held c.args.tid c.args.count c.header_body.result c.push_from.result c.header_body.ensures c.push_from.ensures.pushes
    c.push_from.ensures.only c.in_ok-make_room.ensures.room)
    (heads c.args.tid c.args.count c.ranges.tid.fits c.ranges.count.fits (header_small c.args.tid c.args.count))

pub returns-clause-fills : goal.returns-clause-fills
returns-clause-fills g c =
    push_fills c.args.held.now c.make_room.new.held c.push_from.new.held (with_room 28 (fill_of c.args.held.now)) (filled_whole 16 (fill_of c.args.held.now))
    c.in_ok-make_room.ensures.fills c.push_from.ensures.only refl
    (length_filled c.make_room.new.held c.push_from.new.held (with_room 28 (fill_of c.args.held.now)) 28 c.in_ok-make_room.ensures.fills.len
    (one_longer c.make_room.new.held c.push_from.new.held (transaction_header c.args.tid c.args.count)
    (header_more c.make_room.new.held c.push_from.new.held c.args.tid c.args.count c.header_body.result c.push_from.result c.header_body.ensures c.push_from.ensures.pushes
    c.push_from.ensures.only c.in_ok-make_room.ensures.room)))

pub returns-clause-limit : goal.returns-clause-limit
returns-clause-limit g c =
    push_limit c.args.held.now c.make_room.new.held c.push_from.new.held (with_room 28 (fill_of c.args.held.now)) (filled_whole 16 (fill_of c.args.held.now))
    c.make_room.ensures.limit c.push_from.ensures.only refl
