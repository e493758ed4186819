use Rattle.std.proofs.Common.{◌∙◌}
use Rattle.xr_record.proofs.SectorLemmas.{sectors_written}
use Rattle.xr_record.proofs.sealing.write_sectors.Goals as goal

pub returns : goal.returns
returns c =
    sectors_written _ _ _ _ _ _ _ (c.split_at_mut-header.ensures.back ∙ c.requires.padding) c.sectors_of.ensures c.put_header.ensures c.stamp.ensures.words c.stamp.ensures.body
