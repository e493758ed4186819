use Rattle.std.proofs.Common.{arith}
use Rattle.std.proofs.lemmas.Grind.{common_steps}
use Rattle.xr_cmd.proofs.PutLemmas.{puts_more}
use Rattle.xr_cmd.proofs.streams.put_all.Goals as goal

pub loop-done-preserved : goal.loop-done-preserved
loop-done-preserved g c = record {
  front = puts_more _ _ _ _ _ _ _ c.loop-done.invariant.front c.in_ok-done.ensures.front (grind (arith, common_steps));
  counted = omega (arith, c.in_ok-done.ensures.cause.uncounted);
  none = λ none. absurd (omega (arith, c.in_ok-done.ensures.front.some));
}
