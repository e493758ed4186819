use Rattle.std.proofs.lemmas.Result.{err_from_is_err_and}
use Rattle.xr_check.proofs.LogLemmas.{log_clean, log_refused}
use Rattle.xr_check.proofs.ToldLemmas.{told_counted}
use Rattle.xr_commit.specs.DiskFaultLaws.{uncounted}
use Rattle.xr_check.proofs.loading.check_log.Goals as goal

pub returns-in_err-live_in : goal.returns-in_err-live_in
returns-in_err-live_in c =
    let p = err_from_is_err_and c.from_residual-in_err-live_in.result c.from_residual-in_err-live_in.ensures.1 in
    let uuid = c.args.uuid in
    let log = c.args.log.now in
    let cause = c.in_err-live_in.field-0.0 in
    let refused = c.in_err-live_in.ensures.refused in
    rw (p.1, p.2) (record {
      clean = tt;
      refused = log_refused uuid log c.in_ok-lsn.field-0 c.in_default.not-InUse c.in_ok-lsn.ensures cause refused;
      cause = λ before after. told_counted before after cause (uncounted uuid log before after cause refused);
    })

pub returns : goal.returns
returns c = record {
  clean = log_clean c.args.uuid c.args.log.now c.in_ok-lsn.field-0 _ _ c.in_default.not-InUse c.in_ok-lsn.ensures c.in_ok-live_in.ensures.live;
  refused = tt;
  cause = λ before after. tt;
}
