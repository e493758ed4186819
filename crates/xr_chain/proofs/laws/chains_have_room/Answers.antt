use Rattle.xr_chain.proofs.RoomLemmas as room
use Rattle.xr_chain.proofs.laws.chains_have_room.Goals as goal

pub returns : goal.returns
returns c = room.chains_have_room
