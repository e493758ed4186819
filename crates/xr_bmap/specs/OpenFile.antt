-- How a file is opened, and why some blocks are none.
use Rattle.std.specs.Prelude.{◌≡◌, ◌≢◌, ◌⊎◌, ⊤, ℕ, List, slice_index_or, [], ◌∷◌}
use Rattle.xr_base.specs.declared.geometry.TheConstants.{FILE_BLOCKS}
use Rattle.xr_block.specs.Trees.{IsTree, blocks_of_tree}
use Rattle.xr_block.specs.declared.fault.TreeFault.{TreeFault}
use Rattle.xr_bmap.specs.File.{FileState, HasCore, IsFile, core_of_blocks, first_of_file, pool_of_blocks, root_of_blocks}
use Rattle.xr_headers.specs.FirstWrong.{NamesCoreBlockField}
use Rattle.xr_headers.specs.declared.layout.TheConstants.{CORE_FREE_PLACE}
use Rattle.xr_kinds.specs.Mapping.{mapping_form}
use Rattle.xr_open.specs.declared.fault.OpenFault.{OpenFault}
use Rattle.xr_open.specs.declared.fault.OpenFault.TheVariants.{Header, NoMemory, Tree}
use Rattle.xr_pool.specs.Overlay.{blocks_in}
use Rattle.xr_pool.specs.Room.{HoldAllUsed}
use Rattle.xr_verify.specs.Refusals.{RefusesTree}

abbrev pub opened_file : ℕ → List ℕ → List ℕ → FileState
opened_file file uuid bytes = record {
  number = file;
  uuid = uuid;
  kept = blocks_in FILE_BLOCKS bytes;
  blocks = blocks_in FILE_BLOCKS bytes;
  changed = [];
}

abbrev pub HasFileTree : ℕ → List ℕ → List (List ℕ) → Type 0
HasFileTree file uuid blocks = IsTree mapping_form (pool_of_blocks file uuid blocks) (root_of_blocks file uuid blocks)

-- the core and the tree part the pool: what isn't free is the tree's
abbrev pub PartsFilePool : ℕ → List ℕ → List (List ℕ) → Type 0
PartsFilePool file uuid blocks =
    HoldAllUsed (pool_of_blocks file uuid blocks) (blocks_of_tree mapping_form (pool_of_blocks file uuid blocks) (root_of_blocks file uuid blocks))

-- the first block is no core of this file: its first wrong field is named
pub record RefusesCore (file : ℕ) (uuid : List ℕ) (blocks : List (List ℕ)) (field : ℕ) : Type 0 where
  pub none : ¬ (HasCore file uuid blocks)
  pub named : NamesCoreBlockField (slice_index_or blocks 0 []) (core_of_blocks file uuid blocks) field

-- the core is right, and no tree stands below the root that it names: the first block that breaks a rule is named, with the rule
pub record RefusesFileTree (file : ℕ) (uuid : List ℕ) (blocks : List (List ℕ)) (fault : TreeFault) : Type 0 where
  pub core : HasCore file uuid blocks
  pub none : ¬ (HasFileTree file uuid blocks)
  pub named : RefusesTree mapping_form (pool_of_blocks file uuid blocks) (root_of_blocks file uuid blocks) (0 ∷ []) fault

-- both are right, and a block that isn't free is none of the tree's: the core's free mask is named
pub record RefusesParting (file : ℕ) (uuid : List ℕ) (blocks : List (List ℕ)) (field : ℕ) : Type 0 where
  pub core : HasCore file uuid blocks
  pub tree : HasFileTree file uuid blocks
  pub none : ¬ (PartsFilePool file uuid blocks)
  pub named : field ≡ CORE_FREE_PLACE

-- the first rule that is broken: of the core, of the tree, or that they part the pool
abbrev pub RefusesFile : ℕ → List ℕ → List (List ℕ) → OpenFault → Type 0
RefusesFile file uuid blocks NoMemory = ⊤
RefusesFile file uuid blocks (Tree fault) = RefusesFileTree file uuid blocks fault
RefusesFile file uuid blocks (Header fault) =
    (fault.block ≡ first_of_file file) × (RefusesCore file uuid blocks fault.field ⊎ RefusesParting file uuid blocks fault.field)

-- what is refused for its blocks is no file
abbrev pub RefusedAreNoFiles : Type 0
RefusedAreNoFiles =
    (file : ℕ) (uuid : List ℕ) (blocks : List (List ℕ)) (fault : OpenFault) → fault ≢ NoMemory → RefusesFile file uuid blocks fault
    → ¬ (IsFile file uuid blocks)
