use Rattle.xr_log.proofs.ResumedLemmas.{resumed_has, resumes}
use Rattle.xr_log.proofs.held.Log.resume.Goals as goal

pub returns-in-Ok-clause-resumed : goal.returns-in-Ok-clause-resumed
returns-in-Ok-clause-resumed g c = resumes c.args.scanned c.in-Ok.held c.in-Ok.ensures

pub returns-in-Ok-clause-states : goal.returns-in-Ok-clause-states
returns-in-Ok-clause-states g c = λ image rest is.
    let stays = g.met.D.Disk.seen_may_stay c.args.disk image rest.seen in
    resumed_has (g.D.Disk.view c.args.disk) image c.args.scanned c.in-Ok.held c.in-Ok.ensures rest (stays.0, stays.1, g.met.D.Disk.sized c.args.disk stays.0 stays.2) is
