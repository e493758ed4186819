use Rattle.std.proofs.Common.{arith}
use Rattle.std.proofs.lemmas.Grind.{common_steps}
use Rattle.xr_disk.proofs.StreamLemmas.{takes_on}
use Rattle.xr_disk.proofs.file.read_all.Goals as goal

pub loop-filled-preserved : goal.loop-filled-preserved
loop-filled-preserved g c = record {
  within = let before = c.loop-filled.invariant.within in let fits = c.in_ok-n.ensures.fits in grind (arith, common_steps);
  taken = takes_on _ _ _ c.loop-filled.out c.read_retrying.new.out _ c.loop-filled.filled c.in_ok-n.n c.loop-filled.invariant.within c.in_ok-n.ensures.fits
      c.loop-filled.invariant.taken c.in_ok-n.ensures.read;
}
