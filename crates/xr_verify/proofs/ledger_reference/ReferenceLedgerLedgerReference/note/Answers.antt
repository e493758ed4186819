use Rattle.std.proofs.Common.{[], ◌∷◌, None, sym}
use Rattle.xr_verify.proofs.LastLemmas.{last_or-append}
use Rattle.xr_verify.proofs.RunBitLemmas.{holds_more}
use Rattle.xr_kinds.specs.Reference.{reference_span}
use Rattle.xr_verify.proofs.ledger_reference.ReferenceLedgerLedgerReference.note.Goals as goal

pub returns : goal.returns
returns c = λ noted holds next agrees.
    let now = c.set_bits.ensures in (
      holds_more reference_span c.args.self.now.held c.set_bits.new.bits noted c.args.r.now holds.0 now.long now.set now.others,
      sym (last_or-append None noted (c.args.r.now ∷ [])),
    )
