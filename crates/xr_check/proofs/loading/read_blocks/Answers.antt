use Rattle.std.proofs.Common.{◌∙◌, refl}
use Rattle.xr_check.proofs.ReadLemmas.{blocks_read}
use Rattle.xr_check.proofs.loading.read_blocks.Goals as goal

pub returns-in-Ok-clause-bytes : goal.returns-in-Ok-clause-bytes
returns-in-Ok-clause-bytes g c image at =
    let long = c.deref_mut.ensures.len in
    let size = c.in_ok-blocks.ensures in
    blocks_read c.in_ok-blocks.blocks.items c.read.new.out image c.in_ok-blocks.blocks.len c.args.first c.args.count _ _ (c.read.auto.out ∙ long) refl (long ∙ size)
    (c.in-Ok.ensures.bytes image at)
