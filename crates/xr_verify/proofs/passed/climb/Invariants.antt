use Rattle.std.proofs.Common.{drop}
use Rattle.xr_verify.specs.Ledger.{Climb}
use Rattle.xr_block.specs.TreeBlock.{records_in}
use Rattle.xr_verify.proofs.passed.climb.Given as goal

abbrev pub invariant-loop-k : goal.invariant-loop-k
invariant-loop-k g l =
    let form = g.R.Record.form in
    let records = records_in form l.block in
    (Climb form l.fn.last records → Climb form l.before (drop l.k records)) × (Climb form l.before (drop l.k records) → Climb form l.fn.last records)
