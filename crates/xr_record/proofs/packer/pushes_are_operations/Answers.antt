use Rattle.xr_record.proofs.PushLemmas.{pushes_are_operations_proof}
use Rattle.xr_record.proofs.packer.pushes_are_operations.Goals as goal

pub returns : goal.returns
returns c = pushes_are_operations_proof
