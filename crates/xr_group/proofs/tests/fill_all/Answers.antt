-- The owner from whom on nobody has anything is the next one.
use Rattle.std.proofs.Common.{◌∙◌, arith}
use Rattle.xr_group.proofs.tests.fill_all.Goals as goal

pub loop-owner-init : goal.loop-owner-init
loop-owner-init g c = record { number = c.requires.number; later = λ w o a above. c.requires.none w o a }

pub loop-owner-preserved : goal.loop-owner-preserved
loop-owner-preserved g c = record {
  number = c.fill.ensures.number;
  later = λ w o a above. c.fill.ensures.others w o a (omega (arith, above)) ∙ c.loop-owner.invariant.later w o a (omega (arith, above));
}
