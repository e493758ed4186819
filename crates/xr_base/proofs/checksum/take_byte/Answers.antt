use Rattle.std.proofs.Common.{bit_xor, refl, sym, ap, ◌∙◌}
use Rattle.xr_base.specs.ChecksumLaws.{after_bits-zero}
use Rattle.xr_base.specs.Checksum.{after_bits}
use Rattle.xr_base.proofs.RemainderLemmas.{after_bits-byte}
use Rattle.xr_base.proofs.checksum.take_byte.Goals as goal

pub returns : goal.returns
returns c =
    rw (c.entry.ensures, c.from-2.ensures, c.from.ensures) (
    ap (bit_xor (after_bits 8 _)) (sym (after_bits-zero _)) ∙ sym (after_bits-byte 8 0 _ refl))
