use Rattle.xr_base.proofs.TableLemmas.{entry_is}
use Rattle.xr_base.proofs.checksum.entry.Goals as goal

pub returns : goal.returns
returns c = entry_is c.args.table c.requires.table c.args.byte c.requires.byte
