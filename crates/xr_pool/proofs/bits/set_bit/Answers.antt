use Rattle.std.proofs.Common.{ℕ, ◌/◌, ◌%◌, ap, arith, slice_index_or, slice_set, bit_or}
use Rattle.xr_pool.specs.Bits.{with_bit}
use Rattle.xr_pool.proofs.BitLemmas.{one_bit}
use Rattle.xr_pool.proofs.bits.set_bit.Goals as goal

pub returns : goal.returns
unfolding with_bit
returns c =
    let bits = c.args.bits.now in
    let n = c.args.n in
    ap (λ (m : ℕ). slice_set bits (n / 8) (bit_or (slice_index_or bits (n / 8) 0) m)) (one_bit (n % 8) (omega arith))
