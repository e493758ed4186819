use Rattle.std.proofs.Common.{arith}
use Rattle.xr_chain.proofs.LowerLemmas.{paired_stays}
use Rattle.xr_chain.proofs.group_work.do_group_work.Goals as goal

pub returns-in-Own-clause-paired : goal.returns-in-Own-clause-paired
returns-in-Own-clause-paired c =
    paired_stays c.args.group.now c.do_owner_work.new.group (c.do_owner_work.ensures.change.others 0 (omega arith)) c.requires.paired

pub returns-in-Count-clause-paired : goal.returns-in-Count-clause-paired
returns-in-Count-clause-paired c =
    paired_stays c.args.group.now c.do_count_work.new.group (c.do_count_work.ensures.change.others 0 (omega arith)) c.requires.paired
