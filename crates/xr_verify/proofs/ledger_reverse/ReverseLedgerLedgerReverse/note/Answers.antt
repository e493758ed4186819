use Rattle.std.proofs.Common.{refl}
use Rattle.xr_verify.proofs.OwnedLineLemmas.{ends_more}
use Rattle.xr_verify.proofs.ledger_reverse.ReverseLedgerLedgerReverse.note.Goals as goal

pub returns : goal.returns
returns c = λ noted holds next agrees.
    ends_more noted c.args.self.now.ends _ c.args.r.now c.ledger_line.result _ holds next agrees c.ledger_line.ensures.value refl c.ledger_line.ensures.within refl
