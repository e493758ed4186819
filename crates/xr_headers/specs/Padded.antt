-- Bytes with zeros after them, and numbers one after the other.
use Rattle.std.specs.Prelude.{◌≡◌, ℕ, zero, suc, List, [], ◌∷◌, length, drop}
use Rattle.std.specs.List.{flat_map}
use Rattle.byteorder.specs.Endian.{big_bytes, big_number}

-- the first n of the bytes, with zeros after them where they are fewer
unfoldable pub zero_padded : ℕ → List ℕ → List ℕ
zero_padded zero bytes = []
zero_padded (suc n) [] = 0 ∷ zero_padded n []
zero_padded (suc n) (byte ∷ bytes) = byte ∷ zero_padded n bytes

-- so many bytes stand in front of zeros, n bytes in all
pub record IsZeroPadded (n size : ℕ) (bytes out : List ℕ) : Type 0 where
  pub is : out ≡ zero_padded n bytes
  pub long : length bytes ≡ size

-- numbers of 32 bits, one after the other, the highest byte of each first
abbrev pub words : List ℕ → List ℕ
words numbers = flat_map (big_bytes 4) numbers

-- the first n numbers of 32 bits
unfoldable pub numbers_in : ℕ → List ℕ → List ℕ
numbers_in zero bytes = []
numbers_in (suc n) bytes = big_number 4 bytes ∷ numbers_in n (drop 4 bytes)
