use Rattle.std.proofs.Common.{List, None}
use Rattle.std.specs.List.{last_or}
use Rattle.xr_verify.proofs.PassLemmas.{AreMerged}
use Rattle.xr_verify.specs.Ledger.{ArePassed, Climb}
use Rattle.xr_block.specs.TreeBlock.{records_in}
use Rattle.xr_verify.proofs.passed.merge.Given as goal

abbrev pub invariant-loop-k : goal.invariant-loop-k
invariant-loop-k g l =
    let form = g.R.Record.form in
    (noted : List _) → g.L.Ledger.notes l.fn.ledger noted → ArePassed form noted → Climb form (last_or None noted) (records_in form l.block)
    → AreMerged form g.L.Ledger.notes l.ledger noted (records_in form l.block) l.k
