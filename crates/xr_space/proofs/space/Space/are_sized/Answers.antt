-- No run begins between the place and the next one.
use Rattle.std.proofs.Common.{◌≡◌, ◌<◌, ◌≤◌, refl, sym, subst, ⊎_elim, arith}
use Rattle.std.proofs.lemmas.Bool.{cases_lt}
use Rattle.xr_space.specs.Space.{IsFreeRun, IsRunBySize}
use Rattle.xr_space.proofs.FreeSetLemmas.{are_runs}
use Rattle.xr_space.proofs.JoinLemmas.{same_start}
use Rattle.xr_space.proofs.space.Space.are_sized.Goals as goal

pub loop-run-preserved : goal.loop-run-preserved
loop-run-preserved c x held below =
    let run = c.in-Some.run' in
    let found = c.in-Some.ensures in
    let sized = c.holds_by_size.ensures.0 c.if-not-holds_by_size.false in
    ⊎_elim
    (λ (before : x.start < c.loop-run.place). c.loop-run.invariant x held before)
    (λ (from : c.loop-run.place ≤ x.start).
    let first = found.next.first x held from in
    let start : x.start ≡ run.start = omega (arith, first, below) in
    let same : x ≡ run =
    same_start (IsFreeRun c.args.over.now c.args.self.now) x run (are_runs _ _ c.requires) held found.next.held start in
    subst (IsRunBySize c.args.over.now c.args.self.now) (sym same) sized)
    (cases_lt x.start c.loop-run.place)

pub returns : goal.returns
returns c =
    let found = c.in_default.ensures in ((λ _ run held. c.loop-run.invariant run held (found.none refl run held)), (λ _. refl))
