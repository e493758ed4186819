use Rattle.std.proofs.Common.{ℕ, ◌∙◌, ap}
use Rattle.byteorder.specs.Endian.{little_bytes}
use Rattle.xr_base.specs.Checksum.{with_crc}
use Rattle.xr_base.specs.Image.{overlaid}
use Rattle.xr_block.proofs.header.seal.Goals as goal

pub returns : goal.returns
unfolding with_crc
returns g c =
    c.put_crc.ensures ∙ ap (λ (sum : ℕ). overlaid c.crc_place-at.result (little_bytes 4 sum) c.args.block.now) c.crc32c_without-sum.ensures
    ∙ ap (λ (at : ℕ). with_crc at c.args.block.now) c.crc_place-at.ensures
