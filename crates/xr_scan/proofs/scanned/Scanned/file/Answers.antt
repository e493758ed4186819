use Rattle.xr_scan.proofs.BlockRunLemmas.{file_bytes, file_run}
use Rattle.xr_scan.proofs.scanned.Scanned.file.Goals as goal

pub returns-clause-bytes : goal.returns-clause-bytes
returns-clause-bytes c = file_bytes c.args.self.now c.args.file.0 c.deref.result.now c.requires c.deref.ensures.value

pub returns-clause-long : goal.returns-clause-long
returns-clause-long c = (file_run c.args.self.now c.args.file.0 _ c.requires (returns-clause-bytes c)).long

pub returns-clause-each : goal.returns-clause-each
returns-clause-each c = (file_run c.args.self.now c.args.file.0 _ c.requires (returns-clause-bytes c)).each
