-- Maps of bits: bit n % 8 of byte n / 8, the lowest first, stands for the number n.
use Rattle.std.specs.Prelude.{ℕ, ◌/◌, ◌%◌, ◌^◌, ◌==◌, Bool, List, slice_index, slice_set, bit_and, bit_or}
use Rattle.std.specs.Int.{bit_at, bit_not, w8}

abbrev pub has_bit : List ℕ → ℕ → Bool
has_bit bits n = bit_at (slice_index bits (n / 8)) (n % 8) == 1

-- the map with the bit of a number set, and with it clear
unfoldable pub with_bit : List ℕ → ℕ → List ℕ
with_bit bits n = slice_set bits (n / 8) (bit_or (slice_index bits (n / 8)) (2 ^ (n % 8)))

unfoldable pub without_bit : List ℕ → ℕ → List ℕ
without_bit bits n = slice_set bits (n / 8) (bit_and (slice_index bits (n / 8)) (bit_not w8 (2 ^ (n % 8))))
