use Rattle.std.proofs.Common.{sym, ap, ◌∙◌}
use Rattle.std.proofs.lemmas.Bool.{eqb-true}
use Rattle.xr_commit.specs.declared.fault.ScanFault.TheVariants.{Place}
use Rattle.xr_commit.proofs.ChainLemmas.{lsn_differs, lsn_same, not_false}
use Rattle.xr_commit.proofs.BodyLemmas.{body_fits}
use Rattle.xr_commit.proofs.UnmountLemmas.{holds_none, in_company, other_tail, stands_alone}
use Rattle.xr_commit.proofs.bodies.check_unmount.Goals as goal
use Rattle.xr_commit.proofs.bodies.check_unmount.Goals.{else-summary-via-then-summary+else-ne, then-summary-ne1, else-summary-ne1, else-summary-via-else-summary}

pub sum_up-summary-requires : goal.sum_up-summary-requires
sum_up-summary-requires c =
    let r = c.requires.stands in
    body_fits c.args.log.now c.args.head.now r.0 c.body_at.result.now r.1 (c.body_at.ensures r.0 r.1)

pub returns-then-ne : goal.returns-then-ne
returns-then-ne c r is =
    let sum = c.sum_up-summary.ensures in
    let same = c.body_at.ensures r is in (
      elim c.if-summary-ne1.branch [
        | then-summary-ne1 w ↦ in_company _ _ _ r _ _ is same sum.unmounts c.if-summary.true sum.operations w.if-summary-ne1.true
        | else-summary-ne1 w ↦ other_tail _ _ _ r _ is same sum.unmounts c.if-summary.true (lsn_differs _ _ _ w.ne.ensures (sym w.value-is ∙ c.if-ne.true))
      ],
      ap Place c.log_block_of.ensures,
    )

pub returns : goal.returns
returns c r is =
    let sum = c.sum_up-summary.ensures in
    let same = c.body_at.ensures r is in
    elim c.else-summary.branch [
      | else-summary-via-then-summary+else-ne w ↦ λ holds. (elim w.if-summary-ne1.branch [
        | then-summary-ne1 v ↦ absurd (v.if-summary-ne1.true (eqb-true _ _ (not_false _ (sym v.value-is ∙ w.if-ne.false))))
        | else-summary-ne1 v ↦ stands_alone _ _ _ r _ is same sum.operations v.if-summary-ne1.false (lsn_same _ _ _ v.ne.ensures (sym v.value-is ∙ w.if-ne.false))
      ])
      | else-summary-via-else-summary w ↦ holds_none _ r _ same sum.unmounts w.if-summary.false
    ]
