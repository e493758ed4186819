-- A block more is counted where it is free and not the first.
use Rattle.std.proofs.Common.{◌≡◌, ℕ, suc, ◌+◌, ◌&&◌, if◌then◌else◌, refl, arith}
use Rattle.std.proofs.lemmas.Bool.Decides.{nat_tests}
use Rattle.std.specs.Prelude.{nat_lt}
use Rattle.xr_pool.specs.Overlay.{Blocks, free_below, is_free}
use Rattle.xr_refcount.proofs.checked.free_blocks.Goals as goal
use Rattle.xr_refcount.proofs.checked.free_blocks.Goals.{then-n-gt0+then-is_free, else-n-gt0, else-n-gt0-via-then-n-gt0+else-is_free, else-n-gt0-via-else-n-gt0}

one_more : (b : Blocks) (n : ℕ) → free_below b (n + 1) ≡ (if nat_lt 0 n && is_free b n then 1 else 0) + free_below b n
unfolding free_below
one_more b n = let next : n + 1 ≡ suc n = omega arith in rw next refl

pub loop-n-init : goal.loop-n-init
unfolding free_below
loop-n-init c = record { counted = refl; few = omega arith }

pub loop-n-preserved : goal.loop-n-preserved
loop-n-preserved c =
    let next = one_more c.args.over.now c.loop-n.n in
    let counted = c.loop-n.invariant.counted in
    elim c.if-n-gt0.branch [
      | then-n-gt0+then-is_free w ↦ record { counted = grind (arith, nat_tests, next); few = omega arith }
      | else-n-gt0 w ↦ elim w.else-n-gt0.branch [
        | else-n-gt0-via-then-n-gt0+else-is_free v ↦ record { counted = grind (arith, nat_tests, next); few = omega arith }
        | else-n-gt0-via-else-n-gt0 v ↦ record { counted = grind (arith, nat_tests, next); few = omega arith }
      ]
    ]
