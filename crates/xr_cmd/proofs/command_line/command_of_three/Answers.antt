use Rattle.xr_cmd.proofs.CommandLineLemmas.{mkfs_command, show_command}
use Rattle.xr_cmd.proofs.command_line.command_of_three.Goals as goal

pub returns-in-mkfs : goal.returns-in-mkfs
returns-in-mkfs c = mkfs_command _ _ _ _ c.in-mkfs.is c.mkfs_of.ensures

pub returns-in-show : goal.returns-in-show
returns-in-show c = show_command _ _ _ _ c.in-show.is c.show_of.ensures
