use Rattle.xr_open.specs.PoolStateLaws.{marked_are_below, unmarked_are_kept}
use Rattle.xr_open.proofs.laws.unmarked_are_kept.Goals as goal

pub returns : goal.returns
returns c = record { kept = unmarked_are_kept; below = marked_are_below }
