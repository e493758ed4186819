-- Numbers of two, four and eight bytes, one after the other, the lowest byte of each first.
use Rattle.std.specs.Prelude.{◌≡◌, ℕ, ◌+◌, List, [], ◌∷◌, ◌++◌, ⊤}
use Rattle.byteorder.specs.Endian.{little_bytes}
use Rattle.xr_base.specs.Fields.{le_at}
use Rattle.xr_items.specs.declared.fields.Field.{Field}
use Rattle.xr_items.specs.declared.fields.Field.TheVariants.{Half, Word, Long}

abbrev pub width : Field → ℕ
width (Half n) = 2
width (Word n) = 4
width (Long n) = 8

abbrev pub number : Field → ℕ
number (Half n) = n
number (Word n) = n
number (Long n) = n

abbrev pub field_bytes : Field → List ℕ
field_bytes field = little_bytes (width field) (number field)

-- the bytes of the fields, and how many they are
unfoldable pub bytes_of_fields : List Field → List ℕ
bytes_of_fields [] = []
bytes_of_fields (field ∷ fields) = field_bytes field ++ bytes_of_fields fields

abbrev pub widths : List Field → ℕ
widths [] = 0
widths (field ∷ fields) = width field + widths fields

-- from a place on the bytes hold these fields
abbrev pub AreFields : List Field → ℕ → List ℕ → Type 0
AreFields [] place bytes = ⊤
AreFields (field ∷ fields) place bytes =
    (le_at (width field) bytes place ≡ number field) × AreFields fields (place + width field) bytes
