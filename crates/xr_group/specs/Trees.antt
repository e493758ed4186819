-- The four trees of a group in one pool: what they are, which blocks they have, and what they hold. The two trees of free runs are
-- one part of the pool, since they change together.
use Rattle.std.specs.Prelude.{◌≡◌, ◌≢◌, ⊤, ℕ, zero, suc, List, []}
use Rattle.xr_base.specs.declared.geometry.TheConstants.{FIRST_DATA_BLOCK}
use Rattle.xr_block.specs.SharedPool.{IsPartedPool}
use Rattle.xr_block.specs.Trees.{blocks_of_tree}
use Rattle.xr_group.specs.declared.trees.Trees.{Trees}
use Rattle.xr_kinds.specs.Reverse.{reverse_form}
use Rattle.xr_kinds.specs.declared.free_runs.ByBlock.{ByBlock}
use Rattle.xr_kinds.specs.declared.free_runs.BySize.{BySize}
use Rattle.xr_kinds.specs.declared.reference.Reference.{Reference}
use Rattle.xr_kinds.specs.declared.reverse.Reverse.{Reverse}
use Rattle.xr_pool.specs.Overlay.{Blocks, pool_size}
use Rattle.xr_refcount.specs.Refcount.{IsRefcount, reference_blocks, reference_records}
use Rattle.xr_rmap.specs.Rmap.{IsRmap, owner_records}
use Rattle.xr_space.specs.Space.{IsSpace, block_records, size_records, space_blocks}

-- the parts of a group's pool: the trees of free runs, that of owners, and that of counts
abbrev pub free_part : ℕ
free_part = 0

abbrev pub owners_part : ℕ
owners_part = 1

abbrev pub counts_part : ℕ
counts_part = 2

-- the blocks of each part
abbrev pub parts_of : Blocks → Trees → ℕ → List ℕ
parts_of b t zero = space_blocks b t.space
parts_of b t (suc zero) = blocks_of_tree reverse_form b t.rmap.tree
parts_of b t (suc (suc zero)) = reference_blocks b t.counts
parts_of b t (suc (suc (suc i))) = []

-- four trees that share no block, and have all blocks of the pool that aren't free
pub record HasGroupTrees (b : Blocks) (t : Trees) : Type 0 where
  pub space : IsSpace b t.space
  pub rmap : IsRmap b t.rmap
  pub counts : IsRefcount b t.counts
  pub parted : IsPartedPool b (parts_of b t)
  pub pool : pool_size b ≡ FIRST_DATA_BLOCK

-- the records of each tree
pub record GroupRecords : Type 0 where
  pub by_block : List ByBlock
  pub by_size : List BySize
  pub reverse : List Reverse
  pub reference : List Reference

abbrev pub records_of_trees : Blocks → Trees → GroupRecords
records_of_trees b t = record {
  by_block = block_records b t.space;
  by_size = size_records b t.space;
  reverse = owner_records b t.rmap;
  reference = reference_records b t.counts;
}

-- two groups hold the same records in one part, and in all parts but one
abbrev pub AreSameIn : ℕ → GroupRecords → GroupRecords → Type 0
AreSameIn zero x y = (y.by_block ≡ x.by_block) × (y.by_size ≡ x.by_size)
AreSameIn (suc zero) x y = y.reverse ≡ x.reverse
AreSameIn (suc (suc zero)) x y = y.reference ≡ x.reference
AreSameIn (suc (suc (suc i))) x y = ⊤

abbrev pub AreSameElsewhere : ℕ → GroupRecords → GroupRecords → Type 0
AreSameElsewhere k x y = (i : ℕ) → i ≢ k → AreSameIn i x y
