use Rattle.xr_chain.proofs.OwnerRecordLemmas as records
use Rattle.xr_chain.proofs.laws.owner_records_are_few.Goals as goal

pub returns : goal.returns
returns c = records.owner_records_are_few c.groups_tell_records.ensures.told c.groups_tell_records.ensures.few
