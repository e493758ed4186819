use Rattle.std.proofs.Common.{ℕ, Bool, false, arith}
use Rattle.xr_items.proofs.FirstBrokenLemmas.{all_kept, first_broken_at}
use Rattle.xr_items.proofs.rules.first_broken.Goals as goal

pub returns-then-not-kept-clause-first : goal.returns-then-not-kept-clause-first
returns-then-not-kept-clause-first c =
    first_broken_at c.args.rows.now c.loop-place.place-index (0, false) c.loop-place.invariant (omega arith) (λ kept. cc)

pub returns-clause-ok : goal.returns-clause-ok
returns-clause-ok c = all_kept c.args.rows.now (λ (k : ℕ) (d : ℕ × Bool) below. c.loop-place.invariant k d (omega arith))
