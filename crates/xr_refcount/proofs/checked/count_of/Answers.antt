-- The first equal part is all of the run.
use Rattle.std.proofs.Common.{◌≡◌, true, false, rules, arith}
use Rattle.xr_kinds.specs.Spans.{IsIn, is_group_run}
use Rattle.xr_kinds.specs.SpanLaws.{group_run}
use Rattle.xr_refcount.proofs.TestLemmas.{whole_part}
use Rattle.xr_refcount.proofs.checked.count_of.Goals as goal

pub returns-clause-alike : goal.returns-clause-alike
returns-clause-alike g c =
    let part = c.first_equal-part.result in
    let len : part.run.len ≡ c.args.run.len = omega arith in
    let kind : part.staged ≡ false = search rules in
    rw kind at (whole_part _ c.args.run part c.first_equal-part.ensures len)

pub returns-clause-count : goal.returns-clause-count
returns-clause-count g c =
    let part = c.first_equal-part.result in
    let len : part.run.len ≡ c.args.run.len = omega arith in
    let good : is_group_run c.args.run ≡ true = search rules in
    let first : IsIn c.args.run c.args.run.start = record { from = omega arith; below = omega (arith, (group_run c.args.run good).1) } in
    let is = whole_part _ c.args.run part c.first_equal-part.ensures len c.args.run.start first in
    is.owners
