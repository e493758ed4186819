use Rattle.std.proofs.Common.{◌∙◌, sym}
use Rattle.xr_verify.proofs.SharedRunLemmas.{shared_agrees}
use Rattle.xr_verify.proofs.ledger_reference.ReferenceLedgerLedgerReference.admits.Goals as goal

pub returns-then-agrees_after : goal.returns-then-agrees_after
returns-then-agrees_after c = λ noted holds next.
    let both = shared_agrees noted c.args.self.now.held c.args.self.now.last c.args.r.now holds.0 holds.1 next in (
      λ good. both.0 (c.agrees_after.ensures.0 c.if-agrees_after.true, c.are_clear-clear.ensures.0 good),
      λ all. c.are_clear-clear.ensures.1 (both.1 all).1,
    )

pub returns-else-agrees_after : goal.returns-else-agrees_after
returns-else-agrees_after c = λ noted holds next.
    let both = shared_agrees noted c.args.self.now.held c.args.self.now.last c.args.r.now holds.0 holds.1 next in
    (λ good. absurd (let lie = sym good ∙ c.if-agrees_after.false in cc), λ all. c.agrees_after.ensures.1 (both.1 all).0)
