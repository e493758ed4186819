use Rattle.xr_refcount.specs.CountLaws.{records_follow}
use Rattle.xr_refcount.proofs.laws.counts_determine_records.Goals as goal

pub returns : goal.returns
returns c = records_follow
