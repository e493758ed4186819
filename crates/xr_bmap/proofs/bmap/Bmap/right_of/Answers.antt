-- What goes on the new extent has the offset behind it.
use Rattle.std.proofs.Common.{refl, sym, ◌∙◌}
use Rattle.xr_bmap.proofs.BesideLemmas.{none_behind, one_behind}
use Rattle.xr_bmap.proofs.bmap.Bmap.right_of.Goals as goal

pub returns-in_err-found-clause-none : goal.returns-in_err-found-clause-none
returns-in_err-found-clause-none c none = none_behind _ c.requires.tree.records c.args.new.now (c.in_err-found.ensures.none refl)

pub returns-else-runs_on-clause-none : goal.returns-else-runs_on-clause-none
returns-else-runs_on-clause-none c none =
    let found = c.in_ok-found.ensures.some in
    one_behind _ c.requires.tree.records c.args.new.now c.in_ok-found.found found.0 found.1 (sym c.runs_on.ensures ∙ c.if-runs_on.false)
