-- What a source in memory gives stands at the front of what it had left.
use Rattle.std.proofs.Common.{arith}
use Rattle.std.proofs.lemmas.Grind.{common_steps}
use Rattle.xr_disk.proofs.StreamLemmas.{takes_front}
use Rattle.xr_disk.proofs.source.MemSourceSource.take.Goals as goal

pub returns-clause-front : goal.returns-clause-front
returns-clause-front c =
    takes_front _ _ c.args.out.now _ _ c.requires
    (grind (arith, common_steps))
    (grind (arith, common_steps))
    (grind (arith, common_steps))
