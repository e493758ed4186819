-- The blocks from the next one on aren't the owner's yet, and other owners have what they had.
use Rattle.std.proofs.Common.{◌≡◌, ℕ, ◌+◌, ◌<◌, ◌≤◌, false}
use Rattle.xr_group.specs.Sets.{has_pair}
use Rattle.xr_group.proofs.checked.fill.Given as goal

abbrev pub invariant-loop-i : goal.invariant-loop-i
invariant-loop-i g l = record {
  number : l.group.number ≡ 0;
  mine : (o a : ℕ) → 512 + l.i ≤ a → has_pair l.group l.owner o a ≡ false;
  others : (w o a : ℕ) → l.owner < w → has_pair l.group w o a ≡ has_pair l.initial.group w o a;
}
