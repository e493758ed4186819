-- None of the pairs is there, as was tested.
use Rattle.xr_rmap.proofs.checked.add.Goals as goal

pub add-requires-clause-alone : goal.add-requires-clause-alone
add-requires-clause-alone c = c.has_none_of.ensures.0 c.if-has_none_of.true
