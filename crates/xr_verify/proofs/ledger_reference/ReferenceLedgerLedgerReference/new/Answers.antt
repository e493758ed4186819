use Rattle.std.proofs.Common.{[], List, ℕ, refl, subst, sym}
use Rattle.xr_verify.proofs.RunBitLemmas.{holds_none}
use Rattle.xr_kinds.specs.Reference.{reference_span}
use Rattle.xr_verify.specs.RunBits.{HoldsRuns}
use Rattle.xr_verify.proofs.ledger_reference.ReferenceLedgerLedgerReference.new.Goals as goal

pub returns : goal.returns
returns c = (subst (λ (bits : List ℕ). HoldsRuns reference_span bits []) (sym c.empty_map.ensures) (holds_none reference_span), refl)
