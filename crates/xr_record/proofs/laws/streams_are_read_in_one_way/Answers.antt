use Rattle.xr_record.specs.OneWayLaws.{bad_in_one_way, good_or_bad, one_reading}
use Rattle.xr_record.proofs.laws.streams_are_read_in_one_way.Goals as goal

pub returns : goal.returns
returns c = record { reading = one_reading; good_or_bad = good_or_bad; bad = bad_in_one_way }
