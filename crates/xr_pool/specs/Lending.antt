-- A block of an overlay that is lent.
use Rattle.std.specs.Prelude.{ℕ, List}
use Rattle.std.specs.Borrow.{Lends, MutBor, Fml, Array, u8}
use Rattle.xr_pool.specs.Overlay.{Blocks, with_block}
use Rattle.xr_pool.specs.contracts.overlay.Overlay.{the_row}

-- the overlay ends with the block as it was last written
abbrev pub LendsBlock : MutBor Blocks → ℕ → MutBor (List ℕ) → Fml
LendsBlock s n r = Lends the_row (Array u8 4096) s r (with_block s.now n)
