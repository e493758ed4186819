use Rattle.std.proofs.Common.{[], List, ℕ, subst, sym}
use Rattle.xr_verify.proofs.RunBitLemmas.{holds_none}
use Rattle.xr_kinds.specs.FreeRuns.{size_span}
use Rattle.xr_verify.specs.RunBits.{HoldsRuns}
use Rattle.xr_verify.proofs.ledger_size.SizeLedgerLedgerBySize.new.Goals as goal

pub returns : goal.returns
returns c = subst (λ (bits : List ℕ). HoldsRuns size_span bits []) (sym c.empty_map.ensures) (holds_none size_span)
