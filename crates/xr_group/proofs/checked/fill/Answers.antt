-- A block comes to the owner, and the ones behind it are still none's.
use Rattle.std.proofs.Common.{◌≡◌, ℕ, false, refl, subst, ◌∙◌}
use Rattle.xr_group.proofs.TestLemmas.{at_block, later_none, others_same}
use Rattle.xr_group.specs.Sets.{has_pair}
use Rattle.xr_group.proofs.checked.fill.Goals as goal

pub loop-i-init : goal.loop-i-init
loop-i-init g c = record { number = c.requires.number; mine = λ o a later. c.requires.none o a; others = λ w o a above. refl }

pub add-requires-clause-alone : goal.add-requires-clause-alone
add-requires-clause-alone g c =
    rw c.run_of-run.ensures.parts
    (λ w o a is.
    let at = at_block c.args.owner c.from.result c.loop-i.i w o a is in
    subst (λ (v : ℕ). has_pair c.loop-i.group v o a ≡ false) at.0 (c.loop-i.invariant.mine o a at.1))

pub loop-i-preserved : goal.loop-i-preserved
loop-i-preserved g c =
    let added = rw c.run_of-run.ensures.parts at c.add.ensures.added in
    record {
      number = c.add.ensures.change.number ∙ c.loop-i.invariant.number;
      mine = later_none c.args.owner c.from.result c.loop-i.i c.loop-i.group c.add.new.self added c.loop-i.invariant.mine;
      others = λ w o a above.
          others_same c.args.owner c.from.result c.loop-i.i c.loop-i.group c.add.new.self added w o a above ∙ c.loop-i.invariant.others w o a above;
    }
