-- A record that meets the run is looked up among the shared ones and among the staged ones.
use Rattle.std.proofs.Common.{⊎_elim, arith}
use Rattle.xr_refcount.proofs.LookupLemmas.{before_staged, holds_front, next_staged, staged_before, staged_first}
use Rattle.xr_refcount.proofs.refcount.Refcount.first_meeting.Goals as goal

pub returns-then-first-clause-some : goal.returns-then-first-clause-some
returns-then-first-clause-some c =
    let first = c.in_ok-first.first in
    ⊎_elim
    (λ kind. staged_first _ c.requires.tree.records c.args.run first c.in_ok-first.ensures kind)
    (λ front. holds_front _ c.requires.tree.records c.args.run first c.in_ok-first.ensures front.1)
    c.then-first.either

pub returns-in-Some-clause-some : goal.returns-in-Some-clause-some
returns-in-Some-clause-some c =
    staged_before _ c.requires.tree.records c.args.run c.in_ok-first.first c.in_ok-first.ensures c.if-first.false c.in-Some.staged c.in-Some.ensures
    c.if-staged-first.true

pub returns-in_default-clause-some : goal.returns-in_default-clause-some
returns-in_default-clause-some c =
    let first = c.in_ok-first.first in
    let staged = c.in-Some.staged in
    before_staged _ c.requires.tree.records c.args.run first c.in_ok-first.ensures c.if-first.false (λ x held meets kind.
    omega (arith, next_staged _ c.requires.tree.records c.args.run first c.in_ok-first.ensures c.if-first.false staged c.in-Some.ensures x held meets kind))
