use Rattle.std.proofs.Common.{◌∙◌, arith, add-one, sym, ap}
use Rattle.std.proofs.lemmas.List.{drop_all}
use Rattle.xr_base.specs.ChecksumLaws.{after_bytes-drop, after_bytes-none}
use Rattle.xr_base.specs.Checksum.{after_bytes}
use Rattle.xr_base.proofs.checksum.remainder_by_bytes.Goals as goal

pub loop-byte-preserved : goal.loop-byte-preserved
loop-byte-preserved c =
    rw add-one (rw c.take_byte-remainder.ensures (sym (after_bytes-drop c.loop-byte.remainder c.loop-byte.byte-index c.args.bytes.now (omega arith)) ∙ c.loop-byte.invariant))

pub returns : goal.returns
returns c =
    sym (after_bytes-none c.loop-byte.remainder)
    ∙ ap (after_bytes c.loop-byte.remainder) (sym (drop_all c.loop-byte.byte-index c.args.bytes.now c.loop-byte-test.false))
    ∙ c.loop-byte.invariant
