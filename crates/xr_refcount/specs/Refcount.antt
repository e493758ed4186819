-- A group's reference records in their tree.
use Rattle.std.specs.Prelude.{ℕ, List}
use Rattle.xr_block.specs.Trees.{IsTree, blocks_of_tree, records_of_tree}
use Rattle.xr_change.specs.TreeSteps.{IsTreeStep}
use Rattle.xr_kinds.specs.Reference.{reference_form}
use Rattle.xr_kinds.specs.declared.reference.Reference.{Reference}
use Rattle.xr_pool.specs.Overlay.{Blocks}
use Rattle.xr_refcount.specs.declared.refcount.Refcount.{Refcount}

abbrev pub IsRefcount : Blocks → Refcount → Type 0
IsRefcount b t = IsTree reference_form b t.tree

abbrev pub reference_records : Blocks → Refcount → List Reference
reference_records b t = records_of_tree reference_form b t.tree

abbrev pub reference_blocks : Blocks → Refcount → List ℕ
reference_blocks b t = blocks_of_tree reference_form b t.tree

-- a change of the tree, which takes at most so many blocks of the pool, and leaves at most so many changed blocks more
abbrev pub IsReferenceStep : Blocks → Refcount → Blocks → Refcount → ℕ → ℕ → Type 0
IsReferenceStep a s b t most writes = IsTreeStep reference_form a s.tree b t.tree most writes
