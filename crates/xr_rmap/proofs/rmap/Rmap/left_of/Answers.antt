-- The record that says the pair in front of the new one leads to it, and no other does.
use Rattle.std.proofs.Common.{sym, ◌∙◌}
use Rattle.xr_rmap.proofs.BesideLemmas.{none_leads, one_leads}
use Rattle.xr_rmap.proofs.rmap.Rmap.left_of.Goals as goal

pub returns-clause-none : goal.returns-clause-none
returns-clause-none c none =
    none_leads _ c.requires.tree.records c.args.new.now c.in_ok-off.off (sym c.offset_in_front.ensures ∙ c.in_ok-off.was) (c.holder_of.ensures.none none)

pub returns-clause-some : goal.returns-clause-some
returns-clause-some c =
    one_leads _ c.requires.tree.records c.args.new.now c.in_ok-off.off (sym c.offset_in_front.ensures ∙ c.in_ok-off.was) c.requires.good
    c.requires.alone c.holder_of.result c.holder_of.ensures.some
