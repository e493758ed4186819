use Rattle.std.proofs.lemmas.Result.{err_from_is_err_and}
use Rattle.xr_cmd.proofs.FailureLemmas.{live_shows_none}
use Rattle.xr_cmd.proofs.show_log.show_log.Goals as goal

pub returns-in_err-live-clause-failure : goal.returns-in_err-live-clause-failure
returns-in_err-live-clause-failure g c =
    let p = err_from_is_err_and c.from_residual.result c.from_residual.ensures.1 in
    let refused = c.in_err-live.ensures in
    rw (p.1, p.2) (live_shows_none (g.D.Disk.view c.args.disk.now).seen _ _ c.in_err-live.field-0.0 refused.refused refused.readable refused.cause)
