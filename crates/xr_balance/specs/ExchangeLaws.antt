-- What an exchange of two ranges does to what maps hold, as a balance of numbers.
use Rattle.std.specs.Prelude.{◌≡◌, ℕ, ◌+◌}
use Rattle.xr_base.specs.declared.address.FileNo.{FileNo}
use Rattle.xr_maps.specs.FileMaps.{FileMaps, AreGoodMaps}
use Rattle.xr_maps.specs.declared.steps.Step.TheVariants.{Exchange}
use Rattle.xr_maps.specs.Steps.{Fits, applied}
use Rattle.xr_maps.specs.Holdings.{holds, owners}
use Rattle.xr_items.specs.declared.work.Work.TheVariants.{Swap}
use Rattle.xr_balance.specs.Settled.{bringing, taking}

-- an exchange takes out what each range held, and brings what the other one held
abbrev pub ExchangeMoves : Type 0
ExchangeMoves = (maps : FileMaps) (file : FileNo) (off : ℕ) (other : FileNo) (other_off len : ℕ) → AreGoodMaps maps
    → Fits (Exchange file off other other_off len)
    → (f o b : ℕ) → holds (applied (Exchange file off other other_off len) maps) f o b + taking maps f o b (Swap file off other other_off len)
    ≡ holds maps f o b + bringing maps f o b (Swap file off other other_off len)

-- and leaves each block as many owners
abbrev pub ExchangeKeepsOwners : Type 0
ExchangeKeepsOwners = (maps : FileMaps) (file : FileNo) (off : ℕ) (other : FileNo) (other_off len : ℕ) → AreGoodMaps maps
    → Fits (Exchange file off other other_off len) → (b : ℕ) → owners (applied (Exchange file off other other_off len) maps) b ≡ owners maps b
