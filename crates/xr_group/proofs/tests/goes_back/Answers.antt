use Rattle.xr_group.proofs.tests.goes_back.Goals as goal

pub add-requires-clause-alone : goal.add-requires-clause-alone
add-requires-clause-alone g c w o a is = c.has_no_owner-2.ensures w o a
