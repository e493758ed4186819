-- What the maps hold, as numbers that are 0 or 1, and sums of these: the form in which changes of maps are balanced.
use Rattle.std.specs.Prelude.{ℕ, ◌+◌, ◌==◌, ◌&&◌, zero, suc, Bool, if◌then◌else◌, is_some}
use Rattle.xr_base.specs.Address.{address_of}
use Rattle.xr_base.specs.declared.address.Run.{Run}
use Rattle.xr_base.specs.declared.geometry.TheConstants.{FILES, OFFSETS}
use Rattle.xr_maps.specs.FileMaps.{FileMaps, address_at}
use Rattle.xr_maps.specs.Records.{maps_to}
use Rattle.xr_maps.specs.Steps.{is_within}

-- 1 for a test that holds
abbrev pub one_if : Bool → ℕ
one_if b = if b then 1 else 0

-- 1 where the block is one of the run's
abbrev pub in_run : ℕ → Run → ℕ
in_run b run = one_if (is_within run.start.0 run.len b)

-- 1 where the run, laid out from offset off on, has the block at offset o
abbrev pub in_layout : ℕ → ℕ → ℕ → Run → ℕ
in_layout b o off run = one_if (is_within off run.len o && (b + off == run.start.0 + o))

-- 1 where the maps have the block at the file's offset
abbrev pub holds : FileMaps → ℕ → ℕ → ℕ → ℕ
holds maps f o b = one_if (maps_to (address_of b) (address_at maps f o))

-- 1 where the maps have a block at the file's offset
abbrev pub is_mapped : FileMaps → ℕ → ℕ → ℕ
is_mapped maps f o = one_if (is_some (address_at maps f o))

-- the sum of f over the numbers below n
unfoldable pub sum_below : ℕ → (ℕ → ℕ) → ℕ
sum_below zero f = 0
sum_below (suc n) f = f n + sum_below n f

-- at how many offsets a file has the block, and at how many of all files
abbrev pub owners_of_file : FileMaps → ℕ → ℕ → ℕ
owners_of_file maps b f = sum_below OFFSETS (λ o. holds maps f o b)

abbrev pub owners : FileMaps → ℕ → ℕ
owners maps b = sum_below FILES (owners_of_file maps b)
