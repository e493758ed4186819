use Rattle.xr_chain.proofs.DropLemmas.{group_back}
use Rattle.xr_chain.proofs.StagingLemmas.{stages_in}
use Rattle.xr_group.specs.Trees.{free_part}
use Rattle.xr_chain.proofs.chain.Chain.stage.Goals as goal

pub returns-in_err-run-clause-kept : goal.returns-in_err-run-clause-kept
returns-in_err-run-clause-kept c = group_back c.args.group.now c.take_first.new.self c.is_group.ensures c.requires.unchanged free_part 22 c.take_first.ensures.change

pub returns-clause-event : goal.returns-clause-event
returns-clause-event c =
    stages_in c.args.group.now c.take_first.new.self c.args.need 22 c.in_ok-run.run' c.in_ok-run.ensures.first c.in_ok-run.ensures.taken c.take_first.ensures.change

pub returns-clause-kept : goal.returns-clause-kept
returns-clause-kept c = group_back c.args.group.now c.take_first.new.self c.is_group.ensures c.requires.unchanged free_part 22 c.take_first.ensures.change
