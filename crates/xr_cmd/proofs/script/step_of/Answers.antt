use Rattle.std.proofs.Common.{Some, subst}
use Rattle.std.proofs.lemmas.Bool.{false≢true}
use Rattle.xr_maps.specs.Steps.{Fits}
use Rattle.xr_cmd.proofs.StepLineLemmas.{LineGives-IsUtf8, LineGives-split, IsStepAfter-same}
use Rattle.xr_cmd.proofs.script.step_of.Goals as goal

pub returns-in_default : goal.returns-in_default
returns-in_default c = λ step gives. c.in_default.ensures.cases.0 (LineGives-IsUtf8 _ step gives)

pub returns-in_err-step : goal.returns-in_err-step
returns-in_err-step c =
    rw c.from_residual-in_err-step.ensures (λ step gives.
    c.in_err-step.ensures step (LineGives-split _ step (Some (c.in_ok-kind.kind, c.in_ok-kind.words)) c.in_ok-kind.ensures.cases (rw c.in-Ok.ensures.cases.0 gives)))

pub returns-else-fits : goal.returns-else-fits
returns-else-fits c = λ step gives.
    let after = LineGives-split _ step (Some (c.in_ok-kind.kind, c.in_ok-kind.words)) c.in_ok-kind.ensures.cases (rw c.in-Ok.ensures.cases.0 gives) in
    let same = IsStepAfter-same c.in_ok-kind.kind.now c.in_ok-kind.words.now step c.in_ok-step.step after c.in_ok-step.ensures in
    false≢true (c.if-fits.ensures.1 (subst (λ s. Fits s) same gives.fits))
