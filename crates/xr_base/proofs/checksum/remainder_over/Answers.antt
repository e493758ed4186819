use Rattle.std.proofs.Common.{arith, ◌∙◌}
use Rattle.xr_base.proofs.RemainderLemmas.{word_taken}
use Rattle.xr_base.proofs.checksum.remainder_over.Goals as goal

pub loop-at-preserved : goal.loop-at-preserved
loop-at-preserved c = record {
  within = omega arith;
  same =
      word_taken c.loop-at.remainder c.take_word-remainder.result c.word_at.result c.loop-at.at c.args.bytes.now (omega arith)
      (λ i. (c.type_inv.bytes i).fits) c.word_at.ensures c.take_word-remainder.ensures
      ∙ c.loop-at.invariant.same;
}
