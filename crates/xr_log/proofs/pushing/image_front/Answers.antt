use Rattle.std.proofs.Common.{List, ℕ, ap, sym, take}
use Rattle.xr_log.proofs.FillLemmas.{image_is}
use Rattle.xr_log.proofs.pushing.image_front.Goals as goal

pub returns : goal.returns
returns c = ap (λ (bytes : List ℕ). take c.args.len bytes) (sym (image_is c.args.blocks.now c.args.block _ c.requires.within))
