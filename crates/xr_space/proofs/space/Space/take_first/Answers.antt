-- There is no first run exactly where no block is free.
use Rattle.std.proofs.Common.{refl, arith}
use Rattle.xr_kinds.specs.SpanLaws.{group_run}
use Rattle.xr_space.proofs.FreeSetLemmas.{are_runs}
use Rattle.xr_space.proofs.FrameLemmas.{no_change}
use Rattle.xr_space.proofs.space.Space.take_first.Goals as goal

pub returns-in-None-clause-none : goal.returns-in-None-clause-none
returns-in-None-clause-none c =
    let found = c.in-None.ensures in
    ((λ none n free. found.none refl free.0 free.1), (λ none. refl))

pub returns-in-None-clause-frame : goal.returns-in-None-clause-frame
returns-in-None-clause-frame c = no_change c.args.over.now c.args.self.now c.requires.space

pub returns-in-Some-clause-none : goal.returns-in-Some-clause-none
returns-in-Some-clause-none c =
    let whole = c.in-Some.whole in
    let found = c.in-Some.ensures in
    let runs = are_runs _ _ c.requires.space in
    let good = group_run whole (runs.good whole found.first.held) in (
      (λ lie. absurd cc),
      (λ none. absurd (none whole.start (whole, found.first.held, record { from = omega arith; below = omega (arith, good.1) }))),
    )
