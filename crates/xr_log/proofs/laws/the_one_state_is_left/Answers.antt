use Rattle.xr_log.specs.Held.{disk_of, held_of}
use Rattle.xr_log.proofs.StateLemmas.{one_is_left}
use Rattle.xr_log.proofs.laws.the_one_state_is_left.Goals as goal

pub returns : goal.returns
returns g c = λ has up. one_is_left (g.D.Disk.view (disk_of c.args.log.now)) (held_of c.args.log.now) has up (g.met.D.Disk.seen_may_stay (disk_of c.args.log.now))
