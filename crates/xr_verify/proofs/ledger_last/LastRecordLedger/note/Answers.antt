use Rattle.std.proofs.Common.{None, sym, ◌∷◌, []}
use Rattle.xr_verify.proofs.LastLemmas.{last_or-append}
use Rattle.xr_verify.proofs.ledger_last.LastRecordLedger.note.Goals as goal

pub returns : goal.returns
returns g c = λ noted notes next agrees. sym (last_or-append None noted (c.args.r.now ∷ []))
