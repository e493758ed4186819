use Rattle.std.proofs.lemmas.Result.{err_from_is_err_and}
use Rattle.xr_cmd.proofs.FailureLemmas.{check_calls_none}
use Rattle.xr_cmd.proofs.check.check_image.Goals as goal

pub returns-in_err-check-clause-failure : goal.returns-in_err-check-clause-failure
returns-in_err-check-clause-failure g c =
    let p = err_from_is_err_and c.from_residual.result c.from_residual.ensures.1 in
    let refused = c.in_err-check.ensures in
    rw (p.1, p.2) (check_calls_none (g.D.Disk.view c.args.disk.now).seen _ _ c.in_err-check.field-0.0 refused.refused refused.refusable refused.cause)
