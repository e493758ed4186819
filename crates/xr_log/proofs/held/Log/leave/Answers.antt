use Rattle.xr_log.specs.Held.{disk_of, held_of}
use Rattle.xr_log.proofs.LeaveLemmas.{leaves_forced}
use Rattle.xr_log.proofs.held.Log.leave.Goals as goal

pub returns-clause-leaves : goal.returns-clause-leaves
returns-clause-leaves g c =
    leaves_forced (g.D.Disk.view (disk_of c.args.self)) (g.D.Disk.view c.force_held-left.new.disk) (held_of c.args.self) c.force_held-left.new.held c.force_held-left.result
    c.force_held-left.ensures.forces (λ none. (c.force_held-left.ensures.nothing none).0)
