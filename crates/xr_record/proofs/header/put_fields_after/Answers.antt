use Rattle.std.proofs.Common.{◌≡◌, arith, length}
use Rattle.xr_record.specs.OverlayLaws.{fields_written}
use Rattle.xr_record.specs.Record.{zeros}
use Rattle.xr_record.proofs.header.put_fields_after.Goals as goal

pub returns : goal.returns
unfolding zeros
returns c =
    let uuid : length c.as_bytes.result.now ≡ 16 = omega arith in
    let one : length c.put_word.new.out ≡ 512 = omega arith in
    let three : length c.put_word-2.new.out ≡ 512 = omega arith in
    rw (← c.as_bytes.ensures)
    (fields_written _ _ _ _ _ _ _ _ _ (c.put_word.ensures.front) (c.put.ensures) (c.put_word-2.ensures.front) (c.put-2.ensures) one three uuid (omega arith))
