-- The front of the first free run is taken: all of it, or the rest stays.
use Rattle.std.proofs.Common.{◌≡◌, ℕ, ◌+◌, ◌-◌, ◌≤◌, min, refl, ⊎_elim, arith}
use Rattle.std.proofs.lemmas.Bool.Decides.{nat_tests}
use Rattle.xr_kinds.specs.Spans.{span}
use Rattle.xr_space.specs.Space.{IsFreeRun}
use Rattle.xr_space.proofs.FreeSetLemmas.{are_runs, bound, lost}
use Rattle.xr_space.proofs.JoinLemmas.{part_fits}
use Rattle.xr_space.proofs.space.Space.take_front.Goals as goal

at_most : (m n least : ℕ) → least ≡ min m n → least ≤ n
at_most m n least is = grind (arith, nat_tests)

pub swap_run-requires-clause-fits : goal.swap_run-requires-clause-fits
swap_run-requires-clause-fits c other held differs =
    let whole = c.args.whole in
    let few = at_most c.args.need whole.len c.min-len.result c.min-len.ensures in
    let runs = are_runs _ _ c.requires.space in
    ⊎_elim (λ same. absurd (differs same))
    (λ away. part_fits other whole (span (whole.start + c.min-len.result) (whole.len - c.min-len.result)) away (omega arith) (omega (arith, few)))
    (runs.away other whole held c.requires.first.held)

pub returns-then-len-whole-clause-taken : goal.returns-then-len-whole-clause-taken
returns-then-len-whole-clause-taken c n =
    rw c.if-len-whole.true
    (lost _ (IsFreeRun c.drop_run.new.over c.drop_run.new.self) c.args.whole (are_runs _ _ c.requires.space) c.requires.first.held
    c.drop_run.ensures.set n)

pub returns-else-len-whole-clause-taken : goal.returns-else-len-whole-clause-taken
returns-else-len-whole-clause-taken c n =
    let whole = c.args.whole in
    let few = at_most c.args.need whole.len c.min-len.result c.min-len.ensures in
    bound _ (IsFreeRun c.swap_run.new.over c.swap_run.new.self) whole (span (whole.start + c.min-len.result) (whole.len - c.min-len.result))
    (are_runs _ _ c.requires.space) c.requires.first.held c.swap_run.ensures.set n (span whole.start c.min-len.result) refl refl (omega (arith, few))
