use Rattle.xr_rmap.specs.PairLaws.{are_determined, are_maximal, have_one_record, no_more_than_pairs}
use Rattle.xr_rmap.proofs.laws.records_follow_from_pairs.Goals as goal

pub returns : goal.returns
returns c = record { maximal = are_maximal; single = have_one_record; determined = are_determined; few = no_more_than_pairs }
