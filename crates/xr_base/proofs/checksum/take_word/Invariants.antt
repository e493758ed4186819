use Rattle.std.proofs.Common.{bit_xor}
use Rattle.xr_base.specs.Checksum.{after_bits}
use Rattle.xr_base.proofs.RemainderLemmas.{IsTaken}
use Rattle.xr_base.proofs.checksum.take_word.Given as goal

abbrev pub invariant-loop-table : goal.invariant-loop-table
invariant-loop-table l = IsTaken l.after l.left l.table (after_bits 64 (bit_xor l.remainder l.word))
