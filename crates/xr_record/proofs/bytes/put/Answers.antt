use Rattle.std.proofs.Common.{◌≡◌, ◌+◌, ◌-◌, length, arith}
use Rattle.xr_record.specs.OverlayLaws.{put_mid-overlaid}
use Rattle.xr_record.proofs.bytes.put.Goals as goal

pub returns : goal.returns
returns c =
    let e : length c.args.bytes.now ≡ c.args.at + length c.args.bytes.now - c.args.at = omega arith in
    rw c.copy_from_slice.ensures.after (put_mid-overlaid _ _ _ _ e)
