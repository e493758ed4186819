-- Of no public contract.
-- A block of a draft that is lent.
use Rattle.std.specs.Prelude.{ℕ, List}
use Rattle.std.specs.Borrow.{Lends, MutBor, Fml, Array, RattleType, u8}
use Rattle.xr_pool.specs.Overlay.{Blocks, with_block}
use Rattle.xr_kinds.specs.declared.record.Record.{Ghosts}
use Rattle.xr_block.specs.Edits.{sealed}
use Rattle.xr_change.specs.contracts.draft.Draft.{the_row}

-- the draft ends with the block as it was last written, with its checksum
abbrev pub lends_block : (R : RattleType) → Ghosts R.Denot → MutBor Blocks → ℕ → MutBor (List ℕ) → Fml
lends_block R kind s n r = Lends (the_row R kind) (Array u8 4096) s r (λ w. with_block s.now n (sealed kind.form w))
