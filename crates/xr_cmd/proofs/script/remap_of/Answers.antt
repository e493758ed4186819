use Rattle.xr_cmd.proofs.NumberLemmas.{AreNumbers-front, AreNumbers-rest, AreNumbers-last}
use Rattle.xr_cmd.proofs.StepLineLemmas.{IsStepAfter-remap}
use Rattle.xr_cmd.proofs.script.remap_of.Goals as goal

pub returns-in_err-off : goal.returns-in_err-off
returns-in_err-off c =
    rw c.from_residual-in_err-off.ensures (λ step is.
    let numbers = IsStepAfter-remap c.args.words.now step is in
    let off = AreNumbers-rest _ _ _ _ _ _ c.in_ok-file.ensures numbers.5 in
    c.in_err-off.ensures _ _ (AreNumbers-front _ _ _ _ off))

pub returns-in_err-len : goal.returns-in_err-len
returns-in_err-len c =
    rw c.from_residual-in_err-len.ensures (λ step is.
    let numbers = IsStepAfter-remap c.args.words.now step is in
    let off = AreNumbers-rest _ _ _ _ _ _ c.in_ok-file.ensures numbers.5 in
    let len = AreNumbers-rest _ _ _ _ _ _ c.in_ok-off.ensures off in
    c.in_err-len.ensures _ _ (AreNumbers-front _ _ _ _ len))

pub returns-in_err-at : goal.returns-in_err-at
returns-in_err-at c =
    rw c.from_residual-in_err-at.ensures (λ step is.
    let numbers = IsStepAfter-remap c.args.words.now step is in
    let off = AreNumbers-rest _ _ _ _ _ _ c.in_ok-file.ensures numbers.5 in
    let len = AreNumbers-rest _ _ _ _ _ _ c.in_ok-off.ensures off in
    let at = AreNumbers-rest _ _ _ _ _ _ c.in_ok-len.ensures len in
    c.in_err-at.ensures _ (AreNumbers-last _ _ at))
