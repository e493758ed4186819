use Rattle.std.proofs.Common.{ℕ, arith, ap, ◌∙◌, bit_xor}
use Rattle.std.specs.Int.Bits.{xor_comm, xor_lt}
use Rattle.xr_base.specs.Checksum.{after_bits}
use Rattle.xr_base.proofs.RemainderLemmas.{byte_taken, all_taken}
use Rattle.xr_base.proofs.checksum.take_word.Goals as goal

pub loop-table-init : goal.loop-table-init
loop-table-init c = record {
  fewer = xor_lt 64 c.args.word c.from.result (omega arith) (omega arith);
  same = ap (after_bits 64) (xor_comm c.args.word c.from.result ∙ ap (λ (x : ℕ). bit_xor x c.args.word) c.from.ensures);
}

pub loop-table-preserved : goal.loop-table-preserved
loop-table-preserved c =
    byte_taken c.loop-table.after c.loop-table.left c.loop-table.table _ _ c.entry-after.result c.loop-table-test.true (omega arith) c.entry-after.ensures c.loop-table.invariant

pub returns : goal.returns
returns c = all_taken c.loop-table.after c.loop-table.left c.loop-table.table _ c.loop-table-test.false c.loop-table.invariant
