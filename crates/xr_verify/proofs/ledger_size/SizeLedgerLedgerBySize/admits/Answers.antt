use Rattle.xr_verify.proofs.RunBitLemmas.{size_agrees}
use Rattle.xr_verify.proofs.ledger_size.SizeLedgerLedgerBySize.admits.Goals as goal

pub returns : goal.returns
returns c = λ noted holds next.
    let both = size_agrees noted c.args.self.now.held c.args.r.now holds next in
    (λ good. both.0 (c.are_clear.ensures.0 good), λ all. c.are_clear.ensures.1 (both.1 all))
