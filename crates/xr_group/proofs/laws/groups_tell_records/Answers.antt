use Rattle.xr_group.proofs.ToldRecordLemmas.{groups_tell_records, no_more_owners_than_pairs, sizes_are_free}
use Rattle.xr_group.proofs.laws.groups_tell_records.Goals as goal

pub returns-clause-told : goal.returns-clause-told
returns-clause-told c = groups_tell_records

pub returns-clause-sizes : goal.returns-clause-sizes
returns-clause-sizes c = sizes_are_free

pub returns-clause-few : goal.returns-clause-few
returns-clause-few c = no_more_owners_than_pairs
