pub mod Ledger
pub mod LedgerLaws
pub mod OwnedRuns
pub mod Passed
pub mod Refusals
pub mod RunBits
pub mod Visits
