use Rattle.std.proofs.Common.{refl}
use Rattle.xr_record.proofs.StreamLemmas.{reads_nothing}
use Rattle.xr_record.proofs.reader.Reader.new.Goals as goal

pub returns : goal.returns
returns c = reads_nothing _ refl refl refl (rw (c.in_ok-with_capacity.ensures.items, c.new-2.ensures.items) refl)
