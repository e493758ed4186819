-- No run stands between the place and the next one.
use Rattle.std.proofs.Common.{◌≡◌, ◌+◌, true, false, sym, subst, ⊎_elim, arith}
use Rattle.std.proofs.lemmas.Bool.{cases_Bool}
use Rattle.std.proofs.lemmas.Bool.Decides.{nat_tests}
use Rattle.std.specs.Ordering.{is_lt}
use Rattle.xr_kinds.specs.declared.span.Span.{Span}
use Rattle.xr_kinds.specs.FreeRuns.{size_order}
use Rattle.xr_kinds.specs.Spans.{span}
use Rattle.xr_space.specs.Space.{IsFreeRun}
use Rattle.xr_space.proofs.FreeSetLemmas.{same_span}
use Rattle.xr_space.proofs.space.Space.are_free.Goals as goal

-- what is below the place after a run, and not below the run, is the run
last : (x run : Span) → is_lt (size_order x (span (run.start + 1) run.len)) ≡ true → is_lt (size_order x run) ≡ false → x ≡ run
last x run below from = same_span x run (grind (arith, nat_tests)) (grind (arith, nat_tests))

pub loop-run-preserved : goal.loop-run-preserved
loop-run-preserved c x held below =
    let run = c.in-Some.run' in
    let found = c.in-Some.ensures in
    let free = c.holds_by_block.ensures.0 c.if-not-holds_by_block.false in
    ⊎_elim
    (λ (before : is_lt (size_order x c.loop-run.from) ≡ true). c.loop-run.invariant x held before)
    (λ (from : is_lt (size_order x c.loop-run.from) ≡ false).
    let first = found.next.first x held from in
    subst (IsFreeRun c.args.over.now c.args.self.now) (sym (last x run below first)) free)
    (cases_Bool (is_lt (size_order x c.loop-run.from)))
