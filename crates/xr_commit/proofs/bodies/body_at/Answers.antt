use Rattle.std.proofs.Common.{◌≡◌, sym, ap, ◌∙◌}
use Rattle.xr_base.specs.Image.{part}
use Rattle.xr_record.specs.declared.head.Head.{Head}
use Rattle.xr_commit.proofs.BodyLemmas.{body_taken, one_in}
use Rattle.xr_commit.proofs.bodies.body_at.Goals as goal

pub unreachable-requires : goal.unreachable-requires
unreachable-requires c =
    let found = c.open_at.ensures.every c.requires.stands.0 c.requires.stands.1.stands in
    let is = c.in-Err.is in
    cc

pub returns : goal.returns
returns c r is =
    let found = c.open_at.ensures.every r is.stands in
    let here = c.in-Ok.is in
    let same : c.in-Ok.field-0 ≡ r.head = cc in
    body_taken c.args.head.now.len c.open_at.new.scratch
    ∙ ap (λ (h : Head). part 512 h.len c.open_at.new.scratch) (sym is.head_is ∙ sym same)
    ∙ one_in c.args.log.now c.args.head.now c.in-Ok.field-0 _ r c.in-Ok.ensures.stands same is
