use Rattle.std.proofs.Common.{◌≡◌, ℕ, ◌∙◌, ap, length, sym}
use Rattle.byteorder.specs.Endian.{little_bytes}
use Rattle.xr_base.specs.Image.{part}
use Rattle.xr_base.specs.ChecksumLaws.{sum_from_with_crc, with_crc_from_sum}
use Rattle.xr_block.proofs.check.has_crc.Goals as goal

pub returns : goal.returns
returns c =
    let sum = c.write_u32.ensures ∙ ap (little_bytes 4) c.crc32c_without.ensures in
    let four : length c.write_u32.new.buf ≡ 4 = ap length c.write_u32.ensures in
    let found = ap (λ (n : ℕ). part c.args.at n c.args.bytes.now) four in (
      λ yes. with_crc_from_sum c.args.at c.args.bytes.now c.requires (sym found ∙ c.holds.ensures.0 yes ∙ sum),
      λ right. c.holds.ensures.1 (found ∙ sum_from_with_crc c.args.at c.args.bytes.now c.requires right ∙ sym sum),
    )
