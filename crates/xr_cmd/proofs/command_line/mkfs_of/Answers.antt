use Rattle.xr_cmd.proofs.command_line.mkfs_of.Goals as goal

pub returns-in-Err : goal.returns-in-Err
returns-in-Err c = λ id is. let parses = c.in-Err.ensures.ok.1 (id, is.parses) in cc
