use Rattle.xr_pool.specs.OverlayLaws.{changed_are_marked}
use Rattle.xr_pool.proofs.laws.changed_are_marked.Goals as goal

pub returns : goal.returns
returns c = changed_are_marked
