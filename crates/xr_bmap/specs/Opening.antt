-- Of no public contract.
-- What is known of a file's blocks while it is opened.
use Rattle.std.specs.Prelude.{◌≡◌, ℕ, List, [], ◌∷◌, length}
use Rattle.xr_base.specs.declared.geometry.TheConstants.{FILE_BLOCKS, UUID_BYTES}
use Rattle.xr_block.specs.Trees.{IsTree, blocks_of_tree}
use Rattle.xr_bmap.specs.File.{HasCore, core_of_blocks, pool_of_blocks, root_of_core}
use Rattle.xr_headers.specs.declared.file_core.Core.{Core}
use Rattle.xr_headers.specs.declared.layout.TheConstants.{CORE_FREE_PLACE}
use Rattle.xr_kinds.specs.Mapping.{mapping_form}
use Rattle.xr_open.specs.declared.fault.OpenFault.{OpenFault}
use Rattle.xr_open.specs.declared.fault.OpenFault.TheVariants.{Header, NoMemory, Tree}
use Rattle.xr_pool.specs.Overlay.{Blocks, blocks_in}
use Rattle.xr_pool.specs.Room.{HoldAllUsed}
use Rattle.xr_verify.specs.Refusals.{RefusesTree}

-- the overlay of some blocks, of which the first is a core
pub record IsOpened (file : ℕ) (uuid bytes : List ℕ) (b : Blocks) (core : Core) : Type 0 where
  pub over : b ≡ pool_of_blocks file uuid (blocks_in FILE_BLOCKS bytes)
  pub core_is : core ≡ core_of_blocks file uuid (blocks_in FILE_BLOCKS bytes)
  pub has_core : HasCore file uuid (blocks_in FILE_BLOCKS bytes)
  pub long : length uuid ≡ UUID_BYTES

-- why an overlay with a core isn't a file's
abbrev pub RefusesOpened : Blocks → Core → OpenFault → Type 0
RefusesOpened b core NoMemory = ⊥
RefusesOpened b core (Tree fault) = ¬ (IsTree mapping_form b (root_of_core core)) × RefusesTree mapping_form b (root_of_core core) (0 ∷ []) fault
RefusesOpened b core (Header fault) =
    (fault.block ≡ b.first) × IsTree mapping_form b (root_of_core core) × ¬ (HoldAllUsed b (blocks_of_tree mapping_form b (root_of_core core)))
    × (fault.field ≡ CORE_FREE_PLACE)
