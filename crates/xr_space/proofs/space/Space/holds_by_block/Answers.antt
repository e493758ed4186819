-- The run that begins at the same block is the run itself, or else that one isn't free.
use Rattle.std.proofs.Common.{ap, subst}
use Rattle.std.proofs.lemmas.Bool.{eq-eqb, eqb-true}
use Rattle.xr_kinds.specs.declared.span.Span.{Span}
use Rattle.xr_kinds.specs.FreeRuns.{block_span}
use Rattle.xr_space.specs.Space.{IsFreeRun}
use Rattle.xr_space.proofs.FreeSetLemmas.{are_runs, same_span}
use Rattle.xr_space.proofs.JoinLemmas.{same_start}
use Rattle.xr_space.proofs.space.Space.holds_by_block.Goals as goal

pub returns-then-found-run : goal.returns-then-found-run
returns-then-found-run c =
    let found = c.in-Some.found in
    let run = c.args.run in
    let free = IsFreeRun c.args.over.now c.args.self.now in
    let greatest = c.in-Some.ensures in
    let same_begin = c.if-found-run.true in (
      (λ long. subst free (same_span (block_span found) run same_begin (eqb-true found.len run.len long)) greatest.held),
      (λ held.
          let same = same_start free (block_span found) run (are_runs _ _ c.requires) greatest.held held same_begin in
          eq-eqb found.len run.len (ap (λ (s : Span). s.len) same)),
    )
