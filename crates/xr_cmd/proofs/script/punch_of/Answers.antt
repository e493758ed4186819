use Rattle.xr_cmd.proofs.NumberLemmas.{AreNumbers-front, AreNumbers-rest, AreNumbers-last}
use Rattle.xr_cmd.proofs.StepLineLemmas.{IsStepAfter-punch}
use Rattle.xr_cmd.proofs.script.punch_of.Goals as goal

pub returns-in_err-off : goal.returns-in_err-off
returns-in_err-off c =
    rw c.from_residual-in_err-off.ensures (λ step is.
    let numbers = IsStepAfter-punch c.args.words.now step is in
    let off = AreNumbers-rest _ _ _ _ _ _ c.in_ok-file.ensures numbers.4 in
    c.in_err-off.ensures _ _ (AreNumbers-front _ _ _ _ off))

pub returns-in_err-len : goal.returns-in_err-len
returns-in_err-len c =
    rw c.from_residual-in_err-len.ensures (λ step is.
    let numbers = IsStepAfter-punch c.args.words.now step is in
    let off = AreNumbers-rest _ _ _ _ _ _ c.in_ok-file.ensures numbers.4 in
    let len = AreNumbers-rest _ _ _ _ _ _ c.in_ok-off.ensures off in
    c.in_err-len.ensures _ (AreNumbers-last _ _ len))
