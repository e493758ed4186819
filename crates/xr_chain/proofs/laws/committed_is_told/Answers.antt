use Rattle.xr_chain.proofs.CommittedLemmas as committed
use Rattle.xr_chain.proofs.laws.committed_is_told.Goals as goal

pub returns-clause-blocks : goal.returns-clause-blocks
returns-clause-blocks c = committed.committed_is_of_blocks

pub returns-clause-lookups : goal.returns-clause-lookups
returns-clause-lookups c = committed.lookups_are_found

pub returns-clause-files : goal.returns-clause-files
returns-clause-files c = committed.listed_files_are_mapped

pub returns-clause-groups : goal.returns-clause-groups
returns-clause-groups c = committed.listed_groups_tell

pub returns-clause-put : goal.returns-clause-put
returns-clause-put c = committed.put_is_listed
