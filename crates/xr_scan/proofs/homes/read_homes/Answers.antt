use Rattle.std.proofs.Common.{◌∙◌, sym, subst}
use Rattle.xr_scan.specs.Homes.{AreHomes}
use Rattle.xr_scan.proofs.HomeLemmas.{written_back}
use Rattle.xr_scan.proofs.homes.read_homes.Goals as goal

pub returns-clause-homes : goal.returns-clause-homes
returns-clause-homes g c image seen =
    subst (AreHomes image) (sym (written_back c.in_ok-blocks.blocks.items c.fill_homes.new.blocks c.in_ok-blocks.blocks.len (c.fill_homes.auto.blocks ∙ c.deref_mut.ensures.len))) (c.in_ok-fill_homes.ensures.homes image seen)
