use Rattle.std.proofs.Common.{length, arith}
use Rattle.xr_log.proofs.LayingLemmas.{zeros_after}
use Rattle.xr_log.proofs.laying.lay_body.Goals as goal

pub returns : goal.returns
returns c =
    zeros_after c.args.body.now c.copy_from_slice.new.self c.fill.new.self (length c.args.out.now) (length c.split_at_mut-front.result.1.now)
    c.copy_from_slice.ensures.after (c.fill.ensures.after (λ y same. same))
    (omega (arith, c.requires, c.split_at_mut-front.ensures.front_len, c.split_at_mut-front.ensures.back_len))
