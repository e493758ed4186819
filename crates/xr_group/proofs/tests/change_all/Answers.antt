use Rattle.xr_group.proofs.tests.change_all.Goals as goal

pub fill-requires-clause-none : goal.fill-requires-clause-none
fill-requires-clause-none g c = c.requires.none 128
