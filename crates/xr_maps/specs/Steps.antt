-- Which mapping steps there are, and what each does to the file maps.
use Rattle.std.specs.Prelude.{ℕ, ◌+◌, ◌-◌, ◌<◌, ◌≤◌, ◌≢◌, ◌⊎◌, Bool, ◌&&◌, ◌==◌, nat_le, nat_lt, if◌then◌else◌, Option, None, Some, List, [], ◌∷◌, slice_set}
use Rattle.xr_base.specs.declared.address.Addr.{Addr}
use Rattle.xr_base.specs.declared.address.FileNo.{FileNo}
use Rattle.xr_base.specs.declared.geometry.TheConstants.{FILES, OFFSETS}
use Rattle.xr_base.specs.Address.{IsGoodRun, address_after}
use Rattle.xr_maps.specs.declared.steps.Step.{Step}
use Rattle.xr_maps.specs.declared.steps.Step.TheVariants.{Remap, Punch, Exchange}
use Rattle.xr_maps.specs.FileMaps.{FileMaps, address_at, tabulated}

-- the range has an offset, and all its offsets are those of a file that there is
pub record IsFileRange (file : FileNo) (off len : ℕ) : Type 0 where
  pub file_there : file.0 < FILES
  pub some : 0 < len
  pub within : off + len ≤ OFFSETS

-- two ranges of len offsets have none of one file in common
abbrev pub AreApart : FileNo → ℕ → FileNo → ℕ → ℕ → Type 0
AreApart file off other other_off len = (file ≢ other) ⊎ (off + len ≤ other_off) ⊎ (other_off + len ≤ off)

-- the step's ranges are ranges of files, the blocks that it maps are a good run, and what it exchanges is apart
abbrev pub Fits : Step → Type 0
Fits (Remap file off len at) = IsFileRange file off len × IsGoodRun (record { start = at; len = len })
Fits (Punch file off len) = IsFileRange file off len
Fits (Exchange file off other other_off len) =
    IsFileRange file off len × IsFileRange other other_off len × AreApart file off other other_off len

-- whether a range of len offsets from off on has the offset o
abbrev pub is_within : ℕ → ℕ → ℕ → Bool
is_within off len o = nat_le off o && nat_lt o (off + len)

-- what stands at the offset o after each kind of step, where `slot` stood there before
abbrev pub remapped_slot : ℕ → ℕ → Addr → ℕ → Option Addr → Option Addr
remapped_slot off len at o slot = if is_within off len o then Some (address_after at (o - off)) else slot

abbrev pub punched_slot : ℕ → ℕ → ℕ → Option Addr → Option Addr
punched_slot off len o slot = if is_within off len o then None else slot

-- what stands at the offset o of the file f after two ranges of len offsets have swapped what they hold
abbrev pub exchanged_address : FileMaps → ℕ → ℕ → ℕ → ℕ → ℕ → ℕ → ℕ → Option Addr
exchanged_address maps file off other other_off len f o =
    if f == file && is_within off len o then address_at maps other (other_off + (o - off))
    else if f == other && is_within other_off len o then address_at maps file (off + (o - other_off))
    else address_at maps f o

-- the maps with one file's map replaced by what a function says of its offsets
abbrev pub with_file : FileMaps → ℕ → (ℕ → Option Addr) → FileMaps
with_file maps file slots = slice_set maps file (tabulated OFFSETS slots)

-- the maps with each offset of one file changed so
abbrev pub with_file_changed : FileMaps → ℕ → (ℕ → Option Addr → Option Addr) → FileMaps
with_file_changed maps file changed = with_file maps file (λ o. changed o (address_at maps file o))

-- the maps after a step: a remap puts one block after another at its offsets, a punch leaves holes there, an exchange
-- swaps what its two ranges hold, and all else stays
abbrev pub applied : Step → FileMaps → FileMaps
applied (Remap file off len at) maps = with_file_changed maps file.0 (remapped_slot off len at)
applied (Punch file off len) maps = with_file_changed maps file.0 (punched_slot off len)
applied (Exchange file off other other_off len) maps =
    let at = exchanged_address maps file.0 off other.0 other_off len in
    with_file (with_file maps file.0 (at file.0)) other.0 (at other.0)

-- the maps after some steps, in their order
abbrev pub maps_after : List Step → FileMaps → FileMaps
maps_after [] maps = maps
maps_after (step ∷ steps) maps = maps_after steps (applied step maps)
