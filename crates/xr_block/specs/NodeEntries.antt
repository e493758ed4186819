-- The keys and children of a node, read where they stand. Any block's bytes have them, a whole node or not.
use Rattle.std.specs.Prelude.{ℕ, ◌+◌, ◌*◌, nat_lt, if◌then◌else◌, Option, Some, None, List, take, drop}
use Rattle.byteorder.specs.Endian.{big_number}
use Rattle.xr_base.specs.Image.{part}
use Rattle.xr_kinds.specs.Form.{Form, header_size, key_size, pointer_size}
use Rattle.xr_block.specs.TreeBlock.{Entry, count_in}

abbrev pub key_in : {X : Type 0} → Form X → ℕ → List ℕ → List ℕ
key_in form k bytes = part (header_size form + key_size form * k) (key_size form) bytes

abbrev pub low_key_in : {X : Type 0} → Form X → ℕ → List ℕ → List ℕ
low_key_in form k bytes = take form.low (key_in form k bytes)

abbrev pub high_key_in : {X : Type 0} → Form X → ℕ → List ℕ → List ℕ
high_key_in form k bytes = drop form.low (key_in form k bytes)

-- the pointers stand after the room for the keys
abbrev pub child_in : {X : Type 0} → Form X → ℕ → List ℕ → ℕ
child_in form k bytes = big_number (pointer_size form) (drop (header_size form + form.node_max * key_size form + pointer_size form * k) bytes)

-- the low key of a child, if the node has so many
abbrev pub low_key_from : {X : Type 0} → Form X → ℕ → List ℕ → Option (List ℕ)
low_key_from form k bytes = if nat_lt k (count_in bytes) then Some (low_key_in form k bytes) else None

-- the high key of a child
abbrev pub high_part : {X : Type 0} → Form X → Entry → List ℕ
high_part form e = drop form.low e.key
