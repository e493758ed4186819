use Rattle.std.proofs.Common.{inl, inr, arith}
use Rattle.xr_lookup.specs.Reach.{next_key}
use Rattle.xr_lookup.proofs.ReachLemmas.{reference_inside}
use Rattle.xr_lookup.proofs.reach.ReferenceReach.reach.Goals as goal
use Rattle.xr_lookup.proofs.reach.ReferenceReach.reach.Goals.{else-first-lt-STAGED-via-then-first-lt-STAGED+else-end-ge-STAGED, else-first-lt-STAGED-via-else-first-lt-STAGED}

pub returns-else-first-lt-STAGED : goal.returns-else-first-lt-STAGED
returns-else-first-lt-STAGED c = λ x under.
    rw (c.between-else-first-lt-STAGED.ensures, c.read_u32-first.ensures, c.next_start-end.ensures)
    (reference_inside c.args.low.now c.args._high.now (next_key c.args.next) x under
    (elim c.else-first-lt-STAGED.branch [
      | else-first-lt-STAGED-via-then-first-lt-STAGED+else-end-ge-STAGED w ↦ inr (omega (arith, w.if-end-ge-STAGED.false, c.next_start-end.ensures))
      | else-first-lt-STAGED-via-else-first-lt-STAGED w ↦ inl (omega (arith, w.if-first-lt-STAGED.false, c.read_u32-first.ensures))
    ]))
