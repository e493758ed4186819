use Rattle.std.proofs.Common.{◌+◌, ◌-◌, ◌*◌, ◌≡◌, arith}
use Rattle.xr_record.specs.OverlayLaws.{restored_more}
use Rattle.xr_record.proofs.words.restore.Goals as goal

pub loop-i-preserved : goal.loop-i-preserved
loop-i-preserved c =
    let four : 4 * c.loop-i.i + 4 - 4 * c.loop-i.i ≡ 4 = omega arith in
    restored_more _ _ _ _ c.loop-i.body _ _ c.loop-i-test.true c.requires.words (omega arith) four c.put.ensures c.loop-i.invariant
