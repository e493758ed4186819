use Rattle.xr_cmd.proofs.NumberLemmas.{AreNumbers-front, AreNumbers-rest, AreNumbers-last}
use Rattle.xr_cmd.proofs.StepLineLemmas.{IsStepAfter-exchange}
use Rattle.xr_cmd.proofs.script.exchange_of.Goals as goal

pub returns-in_err-off : goal.returns-in_err-off
returns-in_err-off c =
    rw c.from_residual-in_err-off.ensures (λ step is.
    let numbers = IsStepAfter-exchange c.args.words.now step is in
    let off = AreNumbers-rest _ _ _ _ _ _ c.in_ok-file.ensures numbers.6 in
    c.in_err-off.ensures _ _ (AreNumbers-front _ _ _ _ off))

pub returns-in_err-other : goal.returns-in_err-other
returns-in_err-other c =
    rw c.from_residual-in_err-other.ensures (λ step is.
    let numbers = IsStepAfter-exchange c.args.words.now step is in
    let off = AreNumbers-rest _ _ _ _ _ _ c.in_ok-file.ensures numbers.6 in
    let other = AreNumbers-rest _ _ _ _ _ _ c.in_ok-off.ensures off in
    c.in_err-other.ensures _ _ (AreNumbers-front _ _ _ _ other))

pub returns-in_err-other_off : goal.returns-in_err-other_off
returns-in_err-other_off c =
    rw c.from_residual-in_err-other_off.ensures (λ step is.
    let numbers = IsStepAfter-exchange c.args.words.now step is in
    let off = AreNumbers-rest _ _ _ _ _ _ c.in_ok-file.ensures numbers.6 in
    let other = AreNumbers-rest _ _ _ _ _ _ c.in_ok-off.ensures off in
    let other_off = AreNumbers-rest _ _ _ _ _ _ c.in_ok-other.ensures other in
    c.in_err-other_off.ensures _ _ (AreNumbers-front _ _ _ _ other_off))

pub returns-in_err-len : goal.returns-in_err-len
returns-in_err-len c =
    rw c.from_residual-in_err-len.ensures (λ step is.
    let numbers = IsStepAfter-exchange c.args.words.now step is in
    let off = AreNumbers-rest _ _ _ _ _ _ c.in_ok-file.ensures numbers.6 in
    let other = AreNumbers-rest _ _ _ _ _ _ c.in_ok-off.ensures off in
    let other_off = AreNumbers-rest _ _ _ _ _ _ c.in_ok-other.ensures other in
    let len = AreNumbers-rest _ _ _ _ _ _ c.in_ok-other_off.ensures other_off in
    c.in_err-len.ensures _ (AreNumbers-last _ _ len))
