use Rattle.xr_scan.proofs.PlacedLemmas.{live_is_placed}
use Rattle.xr_scan.proofs.laws.live_records_are_placed.Goals as goal

pub returns : goal.returns
returns c = live_is_placed
