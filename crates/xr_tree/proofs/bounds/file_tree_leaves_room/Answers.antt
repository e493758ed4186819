use Rattle.xr_tree.specs.RoomLaws.{files_have_room}
use Rattle.xr_tree.proofs.bounds.file_tree_leaves_room.Goals as goal

pub returns : goal.returns
returns c = files_have_room
