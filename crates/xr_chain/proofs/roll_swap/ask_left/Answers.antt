use Rattle.xr_chain.proofs.ExchangeRolls.{rolls_pair}
use Rattle.xr_chain.specs.declared.exchange.Ranges.{Ranges}
use Rattle.xr_chain.proofs.roll_swap.ask_left.Goals as goal

pub returns-in-Swap-clause-rolls : goal.returns-in-Swap-clause-rolls
returns-in-Swap-clause-rolls c =
    let it = c.in-Swap in
    let r : Ranges = record { file = it.file; off = it.off; other = it.other; other_off = it.other_off; len = it.len } in
    rolls_pair c.args.one.now c.args.two.now c.args.work.now r c.ask_exchange.new.trans.works c.is_file.ensures c.is_file-2.ensures it.is c.requires.need c.ask_exchange.ensures.leaves
