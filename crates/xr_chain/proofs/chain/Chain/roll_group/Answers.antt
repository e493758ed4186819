use Rattle.std.proofs.Common.{◌≡◌, List, [], ◌∷◌, ◌++◌, drop, sym, ◌∙◌, ap, subst}
use Rattle.xr_chain.proofs.DropLemmas.{group_back}
use Rattle.xr_chain.proofs.GroupRolls.{rolls_group}
use Rattle.xr_chain.proofs.HeadLemmas.{at_head, head_need, of_head, rolls_with}
use Rattle.xr_chain.specs.ChainView.{group_at}
use Rattle.xr_chain.specs.Events.{RollsGroup, logged_group}
use Rattle.xr_chain.specs.GroupWorks.{ChangesItsPart, DoesGroupWork, left_works, part_of_work}
use Rattle.xr_chain.specs.Readiness.{IsGroupReady}
use Rattle.xr_chain.specs.declared.chain.Need.TheVariants as need
use Rattle.xr_items.specs.Transactions.{TransView}
use Rattle.xr_items.specs.declared.work.Work.{Work}
use Rattle.xr_chain.proofs.chain.Chain.roll_group.Goals as goal

pub returns-clause-rolled : goal.returns-clause-rolled
returns-clause-rolled c =
    let work = c.head-work.result.0 in
    let slot = c.head-work.result.1 in
    let first = c.head-work.ensures.first in
    let old = c.args.group.now in
    let new = c.do_group_work-left.new.group in
    let change = c.do_group_work-left.ensures.change in
    let left = left_works c.do_group_work-left.result in
    rolls_with c.args.self work slot first (RollsGroup old new) (logged_group new) left c.behind_head.result c.add_done.new.self
    (rolls_group old new work left c.head-work.ensures.valid change.number
    (head_need c.args.self work slot first (need.Group (group_at old.number)) c.requires.need)
    (of_head c.args.self work slot first (IsGroupReady old) c.requires.ready)
    change c.do_group_work-left.ensures.does)
    (c.behind_head.ensures ∙ ap (λ (works : List Work). record { works = drop 1 c.args.self.works ++ works; slots = drop 1 c.args.self.slots }) c.works-2.ensures)
    (c.add_done.ensures
    ∙ ap (λ (t : TransView). record t { done = t.done ++ slot ∷ [] }) c.ask_for.ensures
    ∙ ap (λ (t : TransView). record { blocks = t.blocks; works = c.works.result.now; done = t.done ++ slot ∷ [] }) c.add_group.ensures
    ∙ ap (λ (works : List Work). record { blocks = logged_group new; works = works; done = slot ∷ [] }) c.works.ensures)

pub returns-clause-kept : goal.returns-clause-kept
returns-clause-kept c =
    group_back c.args.group.now c.do_group_work-left.new.group c.is_group.ensures c.requires.unchanged (part_of_work c.head-work.result.0) 36
    c.do_group_work-left.ensures.change

pub returns-clause-does : goal.returns-clause-does
returns-clause-does c =
    let old = c.args.group.now in
    let new = c.do_group_work-left.new.group in
    let asked = ap (λ (t : TransView). t.works) (c.add_done.ensures ∙ ap (λ (t : TransView). record t { done = t.done ++ c.head-work.result.1 ∷ [] }) c.ask_for.ensures) in
    at_head c.args.self c.head-work.result.0 c.head-work.result.1 c.head-work.ensures.first
    (λ work. DoesGroupWork old new work c.add_done.new.self.works)
    (subst (DoesGroupWork old new c.head-work.result.0) (sym (asked ∙ c.works.ensures)) c.do_group_work-left.ensures.does)

pub returns-clause-change : goal.returns-clause-change
returns-clause-change c =
    at_head c.args.self c.head-work.result.0 c.head-work.result.1 c.head-work.ensures.first
    (ChangesItsPart c.args.group.now c.do_group_work-left.new.group) c.do_group_work-left.ensures.change
