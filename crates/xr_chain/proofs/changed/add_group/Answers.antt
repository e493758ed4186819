use Rattle.std.proofs.Common.{◌≡◌, ℕ, [], length, take, ◌∙◌, ap, subst, sym, arith}
use Rattle.std.specs.Prelude.{slice_index}
use Rattle.xr_group.specs.Group.{first_of_group}
use Rattle.xr_chain.proofs.ChangedLemmas.{absent, added, all_taken}
use Rattle.xr_chain.proofs.LoggedLemmas.{group_logged}
use Rattle.xr_chain.specs.Events.{logged_from, trans_with}
use Rattle.xr_chain.proofs.changed.add_group.Goals as goal
use Rattle.xr_items.specs.Transactions.{IsLogged, logged}

pub add_block-requires-clause-absent : goal.add_block-requires-clause-absent
add_block-requires-clause-absent c =
    absent (first_of_group c.args.group.now.number) c.args.group.now c.loop-i.i (omega arith) c.loop-i.trans c.change-block.result.0 c.loop-i.invariant c.change-block.ensures.place
    c.is_group.ensures.rising

pub add_block-requires-clause-logged : goal.add_block-requires-clause-logged
add_block-requires-clause-logged c =
    let n : ℕ = slice_index c.args.group.now.changed c.loop-i.i in
    subst (λ (b : ℕ). IsLogged (logged b c.change-block.result.1.now)) (sym c.change-block.ensures.place)
    (group_logged c.args.group.now n c.change-block.result.1.now c.is_group.ensures (c.is_group.ensures.below c.loop-i.i 0 (omega arith)))

pub loop-i-preserved : goal.loop-i-preserved
loop-i-preserved c =
    added (first_of_group c.args.group.now.number) c.args.group.now c.loop-i.i (omega arith) c.loop-i.trans c.change-block.result.0 c.loop-i.invariant c.change-block.ensures.place
    c.add_block.new.self c.change-block.result.1.now c.change-block.ensures.bytes c.add_block.ensures

pub returns : goal.returns
returns c =
    let end : c.loop-i.i ≡ length c.args.group.now.changed = omega arith in
    c.loop-i.invariant ∙ ap (λ i. trans_with (take i (logged_from (first_of_group c.args.group.now.number) c.args.group.now)) [] []) end
    ∙ ap (λ x. trans_with x [] []) (all_taken (first_of_group c.args.group.now.number) c.args.group.now)
