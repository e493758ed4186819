use Rattle.std.proofs.Common.{◌<◌, ◌≤◌, arith, inl, inr, ⊎_elim}
use Rattle.xr_verify.proofs.RunBitLemmas.{one_more}
use Rattle.xr_verify.proofs.run_bits.set_bits.Goals as goal

pub loop-n-preserved : goal.loop-n-preserved
loop-n-preserved c =
    one_more c.args.bits.now c.loop-n.bits c.set_bit.new.bits c.args.from c.loop-n.n (omega (arith, c.loop-n-test.true, c.requires.room, c.loop-n.auto.bits))
    c.loop-n.auto.n c.set_bit.ensures c.loop-n.invariant

pub returns-clause-others : goal.returns-clause-others
returns-clause-others c = λ n apart. c.loop-n.invariant.1 n (⊎_elim
    (λ (below : n < c.args.from). inl below)
    (λ (above : c.args.to ≤ n). inr (omega (arith, above, c.loop-n.auto.n-end, c.requires.range)))
    apart)
