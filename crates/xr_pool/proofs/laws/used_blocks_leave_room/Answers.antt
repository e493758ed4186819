use Rattle.xr_pool.specs.RoomLaws.{leaves_room}
use Rattle.xr_pool.proofs.laws.used_blocks_leave_room.Goals as goal

pub returns : goal.returns
returns c = leaves_room
