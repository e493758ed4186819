use Rattle.xr_cmd.proofs.MkfsLemmas.{IsMaking}
use Rattle.xr_cmd.proofs.make_fresh.write_body.Given as goal

abbrev pub invariant-loop-block : goal.invariant-loop-block
invariant-loop-block g l = IsMaking l.uuid l.cycle l.block (g.D.Disk.view l.initial.disk) (g.D.Disk.view l.disk)
