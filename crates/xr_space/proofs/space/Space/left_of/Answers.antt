-- The last run that begins up to the place ends elsewhere, so none ends there.
use Rattle.std.proofs.Common.{sym, ap, ◌∙◌}
use Rattle.xr_kinds.specs.Spans.{end_of}
use Rattle.xr_space.proofs.BesideLemmas.{none_left}
use Rattle.xr_space.proofs.space.Space.left_of.Goals as goal

pub returns-else-end-from-clause-none : goal.returns-else-end-from-clause-none
returns-else-end-from-clause-none c none =
    none_left c.args.over.now c.args.self.now c.args.run.start c.in_ok-last.last c.requires c.in_ok-last.ensures
    (λ same. c.if-end-from.false (c.end.ensures ∙ ap end_of c.span-found.ensures ∙ same ∙ sym c.from.ensures))
