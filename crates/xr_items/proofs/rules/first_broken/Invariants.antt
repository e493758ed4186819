use Rattle.std.proofs.Common.{ℕ, ◌<◌, Bool, true, get_or, ◌≡◌}
use Rattle.xr_items.proofs.rules.first_broken.Given as goal

abbrev pub invariant-loop-place : goal.invariant-loop-place
invariant-loop-place l = (k : ℕ) (d : ℕ × Bool) → k < l.place-index → (get_or l.rows k d).1 ≡ true
