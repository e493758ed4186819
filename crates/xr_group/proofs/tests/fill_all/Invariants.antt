-- The owners from the next one on have nothing yet.
use Rattle.std.proofs.Common.{◌≡◌, ℕ, ◌≤◌, false}
use Rattle.xr_group.specs.Sets.{has_pair}
use Rattle.xr_group.proofs.tests.fill_all.Given as goal

abbrev pub invariant-loop-owner : goal.invariant-loop-owner
invariant-loop-owner g l = record {
  number : l.group.number ≡ 0;
  later : (w o a : ℕ) → l.owner ≤ w → has_pair l.group w o a ≡ false;
}
