use Rattle.std.proofs.Common.{◌≡◌, ◌∙◌, ℕ, ap, arith, get_or}
use Rattle.std.proofs.lemmas.Bool.{lt-ltb, ltb-true}
use Rattle.xr_verify.proofs.OwnedLineLemmas.{owned_agrees}
use Rattle.xr_verify.specs.OwnedRuns.{ledger_line}
use Rattle.xr_verify.proofs.ledger_reverse.ReverseLedgerLedgerReverse.admits.Goals as goal

pub returns : goal.returns
returns c = λ noted holds next.
    let r = c.args.r.now in
    let ends = c.args.self.now.ends in
    let both = owned_agrees noted ends r holds next in
    let same : c.from.result ≡ get_or ends (ledger_line r) 0 = c.from.ensures ∙ ap (λ (i : ℕ). get_or ends i 0) c.ledger_line.ensures.value in (
      λ good. both.0 (omega (arith, same, ltb-true c.from.result r.start good)),
      λ all. lt-ltb c.from.result r.start (omega (arith, same, both.1 all)),
    )
