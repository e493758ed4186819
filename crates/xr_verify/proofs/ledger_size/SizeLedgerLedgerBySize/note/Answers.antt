use Rattle.xr_verify.proofs.RunBitLemmas.{holds_more}
use Rattle.xr_kinds.specs.FreeRuns.{size_span}
use Rattle.xr_verify.proofs.ledger_size.SizeLedgerLedgerBySize.note.Goals as goal

pub returns : goal.returns
returns c = λ noted holds next agrees.
    let now = c.set_bits.ensures in
    holds_more size_span c.args.self.now.held c.set_bits.new.bits noted c.args.r.now holds now.long now.set now.others
