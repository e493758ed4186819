use Rattle.xr_refcount.specs.CountLaws.{counts_of_records}
use Rattle.xr_refcount.proofs.laws.counts_are_of_records.Goals as goal

pub returns : goal.returns
returns c = counts_of_records
