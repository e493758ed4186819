use Rattle.xr_bmap.specs.MappedBlockLaws as laws
use Rattle.xr_bmap.proofs.laws.mapped_blocks_are_data.Goals as goal

pub returns : goal.returns
returns c = laws.mapped_blocks_are_data
