use Rattle.std.proofs.Common.{[]}
use Rattle.std.proofs.lemmas.Result.{err_from_is_err_and}
use Rattle.xr_record.specs.Rules.{AtEntry, AtHeader, AtRegion}
use Rattle.xr_log.specs.Filling.{fill_of, filled_whole}
use Rattle.xr_log.proofs.FillLemmas.{whole_filling}
use Rattle.xr_log.proofs.TransactionPushLemmas.{push_fails, push_then, space_front, space_then}
use Rattle.xr_log.proofs.pushing.push_front_of.Goals as goal

pub push_start-requires-clause-space : goal.push_start-requires-clause-space
push_start-requires-clause-space g c = space_front (filled_whole 16) (whole_filling 16) c.args.held.now (filled_whole 0 (fill_of c.args.held.now)) c.requires.space

pub push_header-requires-clause-space : goal.push_header-requires-clause-space
push_header-requires-clause-space g c =
    space_then (filled_whole 16) (whole_filling 16) c.args.held.now c.push_start.new.held (filled_whole 0 (fill_of c.args.held.now)) c.in_ok-push_start.ensures.fills c.requires.space

pub returns-in_err-push_start : goal.returns-in_err-push_start
returns-in_err-push_start g c =
    let p = err_from_is_err_and c.from_residual.result c.from_residual.ensures.1 in
    let begun = filled_whole 0 (fill_of c.args.held.now) in
    rw (p.1, p.2) (push_fails (g.D.Disk.view c.args.disk.now) (g.D.Disk.view c.push_start.new.disk) c.args.held.now c.push_start.new.held AtEntry
    (AtHeader c.args.tid) (AtRegion c.args.tid c.args.count []) begun (filled_whole 16 begun) c.in_err-push_start.field-0.0 ((whole_filling 16).rises begun)
    record { runs = c.push_start.ensures.runs AtEntry; kept = tt; fills = tt; limit = c.push_start.ensures.limit; step = c.in_err-push_start.ensures.step })

pub returns : goal.returns
returns g c =
    push_then (filled_whole 16) (whole_filling 16) (g.D.Disk.view c.args.disk.now) (g.D.Disk.view c.push_start.new.disk) (g.D.Disk.view c.push_header.new.disk)
    c.args.held.now c.push_start.new.held c.push_header.new.held AtEntry (AtHeader c.args.tid) (AtRegion c.args.tid c.args.count [])
    (filled_whole 0 (fill_of c.args.held.now)) c.in_ok-push_start.field-0 c.push_start.result c.push_header.result c.in_ok-push_start.was
    record {
      runs = c.push_start.ensures.runs AtEntry;
      kept = c.push_start.ensures.kept;
      fills = c.push_start.ensures.fills;
      limit = c.push_start.ensures.limit;
      step = c.push_start.ensures.step;
    }
    record {
      runs = c.push_header.ensures.runs (AtHeader c.args.tid);
      kept = c.push_header.ensures.kept;
      fills = c.push_header.ensures.fills;
      limit = c.push_header.ensures.limit;
      step = c.push_header.ensures.step;
    }
