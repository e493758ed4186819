use Rattle.std.proofs.Common.{refl}
use Rattle.xr_record.specs.Rules.{AtEntry, AtHeader}
use Rattle.xr_record.specs.Stream.{start}
use Rattle.xr_log.specs.Filling.{fill_of, filled_whole, with_room}
use Rattle.xr_log.proofs.OpenLemmas.{nothing_more, one_longer, one_more_open, starts}
use Rattle.xr_log.proofs.SpaceLemmas.{fills_grow, length_filled}
use Rattle.xr_log.proofs.StepLemmas.{push_fills, push_limit, push_runs}
use Rattle.xr_log.proofs.packing.push_start.Goals as goal

pub push_from-requires-clause-sectors : goal.push_from-requires-clause-sectors
push_from-requires-clause-sectors g c =
    fills_grow c.args.held.now c.make_room.new.held (with_room 12 (fill_of c.args.held.now)) c.in_ok-make_room.ensures.fills c.requires.space

pub returns-clause-runs : goal.returns-clause-runs
returns-clause-runs g c = λ phase.
    push_runs (g.D.Disk.view c.args.disk.now) (g.D.Disk.view c.make_room.new.disk) c.args.held.now c.make_room.new.held c.push_from.new.held phase
    (c.make_room.ensures.runs phase) c.push_from.ensures.only

pub returns-clause-kept : goal.returns-clause-kept
returns-clause-kept g c = λ now said next states k.
    one_more_open (g.D.Disk.view c.make_room.new.disk) c.make_room.new.held c.push_from.new.held now said next states AtEntry (AtHeader c.args.tid) (start c.args.tid)
    (c.in_ok-make_room.ensures.kept AtEntry now said next states k)
    (nothing_more c.make_room.new.held c.push_from.new.held (start c.args.tid) 1 c.push_from.result c.push_from.ensures.pushes c.push_from.ensures.only refl refl refl)
    (starts c.args.tid c.ranges.tid.fits)

pub returns-clause-fills : goal.returns-clause-fills
returns-clause-fills g c =
    push_fills c.args.held.now c.make_room.new.held c.push_from.new.held (with_room 12 (fill_of c.args.held.now)) (filled_whole 0 (fill_of c.args.held.now))
    c.in_ok-make_room.ensures.fills c.push_from.ensures.only refl
    (length_filled c.make_room.new.held c.push_from.new.held (with_room 12 (fill_of c.args.held.now)) 12 c.in_ok-make_room.ensures.fills.len
    (one_longer c.make_room.new.held c.push_from.new.held (start c.args.tid)
    (nothing_more c.make_room.new.held c.push_from.new.held (start c.args.tid) 1 c.push_from.result c.push_from.ensures.pushes c.push_from.ensures.only refl refl refl)))

pub returns-clause-limit : goal.returns-clause-limit
returns-clause-limit g c =
    push_limit c.args.held.now c.make_room.new.held c.push_from.new.held (with_room 12 (fill_of c.args.held.now)) (filled_whole 0 (fill_of c.args.held.now))
    c.make_room.ensures.limit c.push_from.ensures.only refl
