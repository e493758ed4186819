use Rattle.std.proofs.Common.{ℕ, ◌-◌, ◌/◌, ◌%◌, ap, arith, slice_index_or, slice_set, bit_and}
use Rattle.xr_pool.specs.Bits.{without_bit}
use Rattle.xr_pool.proofs.BitLemmas.{one_bit}
use Rattle.xr_pool.proofs.bits.clear_bit.Goals as goal

pub returns : goal.returns
unfolding without_bit
returns c =
    let bits = c.args.bits.now in
    let n = c.args.n in
    ap (λ (m : ℕ). slice_set bits (n / 8) (bit_and (slice_index_or bits (n / 8) 0) (255 - m))) (one_bit (n % 8) (omega arith))
