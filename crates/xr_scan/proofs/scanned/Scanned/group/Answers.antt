use Rattle.xr_scan.proofs.BlockRunLemmas.{group_bytes, group_run}
use Rattle.xr_scan.proofs.scanned.Scanned.group.Goals as goal

pub returns-clause-bytes : goal.returns-clause-bytes
returns-clause-bytes c = group_bytes c.args.self.now c.args.group.0 c.deref.result.now c.deref.ensures.value

pub returns-clause-long : goal.returns-clause-long
returns-clause-long c = (group_run c.args.self.now c.args.group.0 _ c.requires (returns-clause-bytes c)).long

pub returns-clause-each : goal.returns-clause-each
returns-clause-each c = (group_run c.args.self.now c.args.group.0 _ c.requires (returns-clause-bytes c)).each
