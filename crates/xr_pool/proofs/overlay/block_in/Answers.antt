use Rattle.std.proofs.Common.{◌≡◌, ◌∙◌, ◌+◌, ◌-◌, ◌*◌, ℕ, take, drop, ap, arith}
use Rattle.xr_pool.proofs.overlay.block_in.Goals as goal

pub returns : goal.returns
returns c =
    let n = c.args.n in
    let size : 4096 * (n + 1) - 4096 * n ≡ 4096 = omega arith in
    c.copy_from_slice.ensures.after ∙ ap (λ (m : ℕ). take m (drop (4096 * n) c.args.bytes.now)) size
