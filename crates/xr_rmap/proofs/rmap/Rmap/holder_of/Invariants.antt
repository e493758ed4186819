-- The record that says the pair is behind those that were passed, and each found record is behind the one before.
use Rattle.xr_rmap.proofs.SearchLemmas.{IsPassed, rank}
use Rattle.xr_rmap.specs.Rmap.{owner_records}
use Rattle.xr_rmap.proofs.rmap.Rmap.holder_of.Given as goal

abbrev pub invariant-loop-found : goal.invariant-loop-found
invariant-loop-found l = IsPassed (owner_records l.over l.self) l.owner l.off l.block l.after

abbrev pub decreases-loop-found : goal.decreases-loop-found
decreases-loop-found l = rank l.after
