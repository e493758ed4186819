-- The header is that of the trees, and it is written or it was there.
use Rattle.std.proofs.Common.{ap, sym, ◌∙◌}
use Rattle.xr_group.proofs.HeadLemmas.{bytes_differ, differ_head, head_known, head_stays, head_written, put_valid, same_head, zero_written}
use Rattle.xr_group.proofs.head.write_head.Goals as goal
use Rattle.xr_headers.specs.Headers.{group_block}

pub put_group-requires-clause-valid : goal.put_group-requires-clause-valid
put_group-requires-clause-valid c = put_valid _ _ _ _ c.requires.group c.head_of-head.ensures.is c.head_of-head.ensures.levels

pub returns-then-ne-clause-group : goal.returns-then-ne-clause-group
returns-then-ne-clause-group c =
    let made = c.head_of-head.ensures in
    head_written _ _ _ c.requires.group (head_known _ _ _ _ c.requires.group made.is made.levels) _ (c.put_group.ensures ∙ ap group_block made.is)

pub returns-then-ne-clause-written : goal.returns-then-ne-clause-written
returns-then-ne-clause-written c =
    let made = c.head_of-head.ensures in
    let valid = head_known _ _ _ _ c.requires.group made.is made.levels in
    let is = c.put_group.ensures ∙ ap group_block made.is in
    zero_written _ _ _ c.requires.group valid _ is (bytes_differ _ _ _ c.requires.group valid _ _ made.is (sym c.ne.ensures ∙ c.if-ne.true) is)

pub returns-else-ne-clause-group : goal.returns-else-ne-clause-group
returns-else-ne-clause-group c =
    let made = c.head_of-head.ensures in
    head_stays _ _ _ c.requires.group (head_known _ _ _ _ c.requires.group made.is made.levels)
    (sym made.is ∙ same_head c.head_of-head.result c.args.before.now (sym c.ne.ensures ∙ c.if-ne.false))

pub returns-then-ne-clause-same : goal.returns-then-ne-clause-same
returns-then-ne-clause-same c same =
    absurd (differ_head c.head_of-head.result c.args.before.now (c.head_of-head.ensures.is ∙ same) (sym c.ne.ensures ∙ c.if-ne.true))
