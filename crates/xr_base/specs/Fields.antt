-- Bytes as numbers, and the numbers that stand in fields of some bytes.
use Rattle.std.specs.Prelude.{ℕ, ◌<◌, List, drop, slice_index}
use Rattle.byteorder.specs.Endian.{big_number, little_number}

abbrev pub AreBytes : List ℕ → Type 0
AreBytes bytes = (i : ℕ) → slice_index bytes i < 256

-- the number in so many bytes at a place, the highest byte first
abbrev pub be_at : ℕ → List ℕ → ℕ → ℕ
be_at size bytes place = big_number size (drop place bytes)

abbrev pub be16_at : List ℕ → ℕ → ℕ
be16_at bytes place = be_at 2 bytes place

abbrev pub be32_at : List ℕ → ℕ → ℕ
be32_at bytes place = be_at 4 bytes place

abbrev pub be64_at : List ℕ → ℕ → ℕ
be64_at bytes place = be_at 8 bytes place

-- the same with the lowest byte first
unfoldable pub le_at : ℕ → List ℕ → ℕ → ℕ
le_at size bytes place = little_number size (drop place bytes)

abbrev pub le16_at : List ℕ → ℕ → ℕ
le16_at bytes place = le_at 2 bytes place

abbrev pub le32_at : List ℕ → ℕ → ℕ
le32_at bytes place = le_at 4 bytes place

abbrev pub le64_at : List ℕ → ℕ → ℕ
le64_at bytes place = le_at 8 bytes place
