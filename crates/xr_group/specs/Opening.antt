-- Of no public contract.
-- What is known of a group's blocks while it is opened.
use Rattle.std.specs.Prelude.{◌≡◌, ℕ, List, ◌++◌, Result, MatchResult, length}
use Rattle.xr_base.specs.declared.geometry.TheConstants.{FIRST_DATA_BLOCK, UUID_BYTES}
use Rattle.xr_block.specs.Trees.{blocks_of_tree}
use Rattle.xr_block.specs.declared.fault.TreeFault.{TreeFault}
use Rattle.xr_block.specs.declared.root.Root.{Root}
use Rattle.xr_group.specs.Group.{HasGroupHead, group_pool, head_of_blocks}
use Rattle.xr_group.specs.OpenGroup.{IsNextTree, RefusesFreeMap, RefusesNext, RefusesTrees}
use Rattle.xr_group.specs.declared.trees.Trees.{Trees}
use Rattle.xr_headers.specs.declared.group_head.GroupHead.{GroupHead}
use Rattle.xr_kinds.specs.Form.{Form}
use Rattle.xr_open.specs.Marked.{AreMarkedBlocks}
use Rattle.xr_open.specs.declared.fault.OpenFault.{OpenFault}
use Rattle.xr_open.specs.declared.fault.OpenFault.TheVariants.{Header, NoMemory, Tree}
use Rattle.xr_pool.specs.Overlay.{Blocks, blocks_in}

-- the overlay of some blocks, of which the first is a header
pub record OpensHead (number : ℕ) (uuid bytes : List ℕ) (b : Blocks) (head : GroupHead) : Type 0 where
  pub over : b ≡ group_pool number uuid (blocks_in FIRST_DATA_BLOCK bytes)
  pub head_is : head ≡ head_of_blocks number uuid (blocks_in FIRST_DATA_BLOCK bytes)
  pub has_head : HasGroupHead number uuid (blocks_in FIRST_DATA_BLOCK bytes)
  pub long : length uuid ≡ UUID_BYTES

-- a tree after some others, whose blocks are marked too now
abbrev pub OpensNext : {X : Type 0} → Form X → Blocks → List ℕ → Root → List ℕ → Result Root TreeFault → Type 0
OpensNext form b before t seen result =
    MatchResult result
    (λ found. (found ≡ t) × IsNextTree form b before t × AreMarkedBlocks (before ++ blocks_of_tree form b t) seen)
    (λ fault. RefusesNext form b before t fault)

-- why the trees of an overlay are refused
abbrev pub RefusesPool : Blocks → Trees → OpenFault → Type 0
RefusesPool b t NoMemory = ⊥
RefusesPool b t (Tree fault) = RefusesTrees b t fault
RefusesPool b t (Header fault) = (fault.block ≡ b.first) × RefusesFreeMap b t fault
