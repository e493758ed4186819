-- CRC32C, a bit at a time: the remainder of a division of polynomials over two elements, with the lowest bit as the
-- coefficient of the highest power.
use Rattle.std.specs.Prelude.{ℕ, zero, suc, ◌+◌, ◌-◌, ◌*◌, ◌/◌, ◌%◌, ◌^◌, ◌==◌, if◌then◌else◌, List, [], ◌∷◌, ◌++◌, take, drop, bit_xor, replicate}
use Rattle.byteorder.specs.Endian.{little_bytes}
use Rattle.xr_base.specs.Image.{overlaid}

-- the divisor without its highest power
abbrev pub polynomial : ℕ
polynomial = 0x82F63B78

-- the remainder after one more bit
abbrev pub after_bit : ℕ → ℕ
after_bit r = if r % 2 == 1 then bit_xor (r / 2) polynomial else r / 2

-- after so many bits
unfoldable pub after_bits : ℕ → ℕ → ℕ
after_bits zero r = r
after_bits (suc n) r = after_bits n (after_bit r)

-- after one more byte
abbrev pub after_byte : ℕ → ℕ → ℕ
after_byte r byte = after_bits 8 (bit_xor r byte)

-- after some bytes
unfoldable pub after_bytes : ℕ → List ℕ → ℕ
after_bytes r [] = r
after_bytes r (byte ∷ bytes) = after_bytes (after_byte r byte) bytes

-- all bits of 32 set: where the remainder begins, and what the last one is combined with
abbrev pub all_ones : ℕ
all_ones = 2 ^ 32 - 1

-- the checksum of some bytes
abbrev pub checksum_of : List ℕ → ℕ
checksum_of bytes = bit_xor (after_bytes all_ones bytes) all_ones

-- the bytes with the four from a place on taken as zero
abbrev pub without_four : ℕ → List ℕ → List ℕ
without_four at bytes = take at bytes ++ replicate 4 0 ++ drop (at + 4) bytes

-- the four bytes of the checksum of all others, its lowest byte first
abbrev pub sum_bytes : ℕ → List ℕ → List ℕ
sum_bytes at bytes = little_bytes 4 (checksum_of (without_four at bytes))

-- the bytes with their checksum among them
unfoldable pub with_crc : ℕ → List ℕ → List ℕ
with_crc at bytes = overlaid at (sum_bytes at bytes) bytes

-- the number whose digits to the base 256 are the bytes, the lowest first
abbrev pub le_number : List ℕ → ℕ
le_number [] = 0
le_number (byte ∷ bytes) = byte + 256 * le_number bytes
