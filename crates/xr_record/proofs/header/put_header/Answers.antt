use Rattle.xr_record.specs.OverlayLaws.{take-overlaid}
use Rattle.std.proofs.Common.{arith, refl}
use Rattle.xr_record.proofs.header.put_header.Goals as goal

pub returns : goal.returns
returns c =
    rw (c.put_fields_after.ensures, c.put.ensures, take-overlaid 44 300 c.put_fields_before.new.header c.args.words.now (omega arith) (omega arith), c.put_fields_before.ensures.front) refl
