use Rattle.xr_tree.specs.RoomLaws.{groups_have_room}
use Rattle.xr_tree.proofs.bounds.group_trees_leave_room.Goals as goal

pub returns : goal.returns
returns c = groups_have_room
