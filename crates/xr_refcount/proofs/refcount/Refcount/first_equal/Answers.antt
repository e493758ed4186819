-- The part ends where the first record does, or in front of it.
use Rattle.std.proofs.Common.{arith, refl}
use Rattle.xr_kinds.specs.SpanLaws.{group_run}
use Rattle.xr_refcount.proofs.CallLemmas.{held_front, plain_front, plain_part}
use Rattle.xr_refcount.proofs.refcount.Refcount.first_equal.Goals as goal

pub returns-in_default : goal.returns-in_default
returns-in_default c =
    let found = c.in_default.ensures in
    let some = group_run c.args.run c.requires.good in
    record {
      start = refl;
      some = omega (arith, some.1);
      within = omega arith;
      alike = plain_part _ c.requires.tree.records c.args.run (found.none refl);
      longest = λ less. absurd (omega (arith, less));
    }

pub returns-then-first-start : goal.returns-then-first-start
returns-then-first-start c =
    let found = c.in-Some.ensures in
    plain_front _ c.requires.tree.records c.args.run c.in-Some.first found.some c.if-first-start.true

pub returns : goal.returns
returns c =
    let found = c.in-Some.ensures in
    held_front _ c.requires.tree.records c.args.run c.in-Some.first found.some c.requires.good c.if-first-start.false c.min-len.result c.min-len.ensures
