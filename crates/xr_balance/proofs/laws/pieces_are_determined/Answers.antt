use Rattle.xr_balance.proofs.PieceOnce.{pieces_are_determined}
use Rattle.xr_balance.proofs.PieceThere.{pieces_are_there}
use Rattle.xr_balance.proofs.laws.pieces_are_determined.Goals as goal

pub returns : goal.returns
returns c = record { there = pieces_are_there; one = pieces_are_determined }
