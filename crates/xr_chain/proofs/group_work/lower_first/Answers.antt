use Rattle.std.proofs.Common.{not, ◌∙◌, ap}
use Rattle.xr_chain.proofs.LowerLemmas.{alike, counted_some, lowers_last, lowers_more}
use Rattle.xr_chain.specs.GroupWorks.{left_works}
use Rattle.xr_chain.proofs.group_work.lower_first.Goals as goal

pub lower_run-requires-clause-alike : goal.lower_run-requires-clause-alike
lower_run-requires-clause-alike c = alike c.args.group.now c.args.run.now c.requires.ready c.first_equal-part.result c.first_equal-part.ensures

pub returns-then-lower_run-clause-does : goal.returns-then-lower_run-clause-does
returns-then-lower_run-clause-does c =
    let g = c.args.group.now in
    let part = c.first_equal-part.result in
    let first = c.first_equal-part.ensures in
    lowers_last g c.args.run.now c.requires.ready part first c.lower_run.new.self (left_works c.freed_of.result) c.lower_run.result.freed
    (counted_some g c.args.run.now c.requires.ready part first c.groups_tell_records.ensures.told c.is_group.ensures.group)
    c.lower_run.ensures.freed c.if-lower_run.true (c.lower_run.ensures.same c.if-lower_run.true) c.freed_of.ensures.is

pub returns-else-lower_run-clause-does : goal.returns-else-lower_run-clause-does
returns-else-lower_run-clause-does c =
    let g = c.args.group.now in
    let part = c.first_equal-part.result in
    let first = c.first_equal-part.ensures in
    lowers_more g c.args.run.now c.requires.ready part first c.lower_run.new.self (left_works c.rest_of.result) c.lower_run.result.freed
    (counted_some g c.args.run.now c.requires.ready part first c.groups_tell_records.ensures.told c.is_group.ensures.group)
    c.lower_run.ensures.freed c.if-lower_run.false (c.lower_run.ensures.lowered (c.lower_run.ensures.changed ∙ ap not c.if-lower_run.false)) c.rest_of.ensures.is
