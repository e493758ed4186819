use Rattle.std.proofs.Common.{[], ◌∷◌, ◌++◌, ◌∙◌, ap}
use Rattle.xr_chain.proofs.DropLemmas.{file_back}
use Rattle.xr_chain.proofs.FileRolls.{rolls_file}
use Rattle.xr_chain.proofs.HeadLemmas.{head_need, of_head, rolls_with}
use Rattle.xr_chain.specs.ChainView.{file_at}
use Rattle.xr_chain.specs.Events.{RollsFile, logged_file}
use Rattle.xr_chain.specs.Readiness.{IsFileReady}
use Rattle.xr_chain.specs.declared.chain.Need.TheVariants as need
use Rattle.xr_items.specs.Transactions.{TransView}
use Rattle.xr_chain.proofs.chain.Chain.roll_map.Goals as goal

pub returns-clause-rolled : goal.returns-clause-rolled
returns-clause-rolled c =
    let work = c.head-work.result.0 in
    let slot = c.head-work.result.1 in
    let first = c.head-work.ensures.first in
    let old = c.args.file.now in
    let new = c.do_file_work.new.file in
    let change = c.do_file_work.ensures.change in
    rolls_with c.args.self work slot first (RollsFile old new) (logged_file new) [] c.behind_head.result c.add_done.new.self
    (rolls_file old new work c.is_file.ensures c.is_file-2.ensures change.number
    (head_need c.args.self work slot first (need.File (file_at old.number)) c.requires.need)
    (of_head c.args.self work slot first (IsFileReady old) c.requires.ready)
    c.do_file_work.ensures.does)
    c.behind_head.ensures
    (c.add_done.ensures ∙ ap (λ (t : TransView). record t { done = t.done ++ slot ∷ [] }) c.add_file.ensures)

pub returns-clause-kept : goal.returns-clause-kept
returns-clause-kept c = file_back c.args.file.now c.do_file_work.new.file c.is_file.ensures c.requires.unchanged c.do_file_work.ensures.change
