use Rattle.xr_bmap.specs.PieceLaws as laws
use Rattle.xr_bmap.proofs.laws.pieces_say_what_is_there.Goals as goal

pub returns : goal.returns
returns c = laws.pieces_say_what_is_there
