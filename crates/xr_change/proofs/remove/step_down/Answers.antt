use Rattle.std.proofs.Common.{ℕ, sym, subst, arith}
use Rattle.xr_change.proofs.BlockInTreeLemmas.{one_more}
use Rattle.xr_change.proofs.WholeTreeLemmas.{root_less, two_if}
use Rattle.xr_change.specs.Paths.{IsInTree}
use Rattle.xr_change.proofs.remove.step_down.Goals as goal

pub child_block-child-requires-clause-here : goal.child_block-child-requires-clause-here
child_block-child-requires-clause-here g c =
    subst (λ (l : ℕ). IsInTree g.R.Record.form c.path_with_surplus-place.new.draft l c.args.n) (sym (one_more c.args.level)) c.path_with_surplus-place.ensures.path.here

pub returns-clause-two : goal.returns-clause-two
returns-clause-two g c =
    rw c.child_block-child.ensures.kth.is (two_if g.R.Record.form c.path_with_surplus-place.new.draft c.args.level _
    (omega (arith, root_less g.R.Record.form g.met.R.Record.is_form c.args.level, c.path_with_surplus-place.ensures.path.least)))
