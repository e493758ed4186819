use Rattle.xr_record.proofs.SectorLemmas.{sectors_sealed}
use Rattle.xr_record.proofs.sealing.seal.Goals as goal

pub returns : goal.returns
returns c =
    sectors_sealed _ _ _ _ _ _ c.write_sectors.ensures c.crc32c.ensures c.write_u32.ensures c.put.ensures
