use Rattle.std.proofs.Common.{◌+◌, ◌*◌, refl, arith}
use Rattle.std.proofs.lemmas.List.{length-drop, length-take-le}
use Rattle.xr_scan.proofs.HomeLemmas.{group_read, seen_more}
use Rattle.xr_scan.proofs.homes.read_group.Goals as goal

pub returns-clause-homes : goal.returns-clause-homes
returns-clause-homes g c =
    seen_more c.read_run.result _ _ _ (λ image read. group_read image c.args.blocks.now c.read_run.new.out c.args.group _ _ _ c.requires.group refl (omega arith) c.requires.blocks c.read_run.auto.out
    (length-take-le _ _ (omega (arith, length-drop (1048576 + 2097152 * c.args.group) c.args.blocks.now, c.requires.blocks, c.requires.group))) read) c.read_run.ensures.bytes
