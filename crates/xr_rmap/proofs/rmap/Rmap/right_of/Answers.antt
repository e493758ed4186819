-- The first record from the place behind the new one on isn't led to, so none is.
use Rattle.std.proofs.Common.{sym, ◌∙◌}
use Rattle.xr_rmap.proofs.BesideLemmas.{none_led}
use Rattle.xr_rmap.proofs.rmap.Rmap.right_of.Goals as goal

pub returns-else-leads_to-clause-none : goal.returns-else-leads_to-clause-none
returns-else-leads_to-clause-none c none x held =
    none_led _ c.requires.tree.records c.args.new.now c.in_ok-found.found (rw c.offset_after.ensures at c.in_ok-found.ensures)
    (sym c.leads_to.ensures ∙ c.if-leads_to.false) x held
