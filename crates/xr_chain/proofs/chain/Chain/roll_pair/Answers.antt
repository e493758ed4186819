use Rattle.std.proofs.Common.{◌∙◌, List, ap, [], ◌∷◌, ◌++◌, drop}
use Rattle.xr_chain.proofs.HeadLemmas.{rolls_with}
use Rattle.xr_chain.specs.ChainView.{ChainView}
use Rattle.xr_chain.specs.Events.{RollsPair}
use Rattle.xr_items.specs.Transactions.{TransView}
use Rattle.xr_items.specs.declared.work.Work.{Work}
use Rattle.xr_chain.proofs.chain.Chain.roll_pair.Goals as goal

pub returns : goal.returns
returns c =
    let work = c.head-work.result.0 in
    let slot = c.head-work.result.1 in
    let left = c.ask_left.new.trans.works in
    let with : List Work → ChainView = λ works. record { works = drop 1 c.args.self.works ++ works; slots = drop 1 c.args.self.slots } in
    rolls_with c.args.self work slot c.head-work.ensures.first (RollsPair c.args.one.now c.args.two.now) [] left c.behind_head.result c.add_done.new.self c.ask_left.ensures.rolls
    (c.behind_head.ensures ∙ ap with (c.works.ensures.list ∙ ap (λ (t : TransView). t.works) c.add_done.ensures))
    (c.add_done.ensures ∙ ap (λ (t : TransView). record t { done = t.done ++ slot ∷ [] }) c.ask_left.ensures.only)
