use Rattle.xr_verify.proofs.OwnedLineLemmas.{ends_none}
use Rattle.xr_verify.proofs.ledger_reverse.ReverseLedgerLedgerReverse.new.Goals as goal

pub returns : goal.returns
returns c = ends_none c.no_ends.result c.no_ends.ensures
