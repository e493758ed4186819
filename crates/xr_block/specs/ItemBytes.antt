-- Of no public contract.
-- Bytes in which items of one size stand one after the other, after one more or one less.
use Rattle.std.specs.Prelude.{ℕ, ◌+◌, ◌-◌, List, ◌++◌, length, take, drop, replicate}
use Rattle.xr_base.specs.Image.{overlaid, part}

-- what stands from a place to an end stands a size after it too
abbrev pub with_gap : ℕ → ℕ → ℕ → List ℕ → List ℕ
with_gap at end size bytes = overlaid (at + size) (part at (end - at) bytes) bytes

-- an item more at a place: those after it, up to an end, move back
abbrev pub with_item : ℕ → ℕ → List ℕ → List ℕ → List ℕ
with_item at end item bytes = take at bytes ++ (item ++ (part at (end - at) bytes ++ drop (end + length item) bytes))

-- an item less: those after it, up to an end, move up, and zeros follow
abbrev pub without_item : ℕ → ℕ → ℕ → List ℕ → List ℕ
without_item at end size bytes =
    take at bytes ++ (part (at + size) (end - (at + size)) bytes ++ (replicate size 0 ++ drop end bytes))
