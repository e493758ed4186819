-- Why a group's free blocks stay where other blocks of their pool are changed: both of their trees do.
use Rattle.std.proofs.Common.{◌≡◌, ℕ, List, sym, ⊎_elim}
use Rattle.std.proofs.lemmas.List.Elements.{Contains-append_cases, Contains-append_left, Contains-append_right}
use Rattle.std.specs.List.{Contains}
use Rattle.xr_block.specs.Frame.{ChangesOnly, Stays}
use Rattle.xr_block.specs.FrameLaws.{stays_tree}
use Rattle.xr_kinds.specs.FreeRuns.{block_form, size_form}
use Rattle.xr_pool.specs.Overlay.{Blocks}
use Rattle.xr_space.specs.Space.{ArePaired, IsFreeBlock, IsSpace, block_blocks, block_records, size_blocks, size_records, space_blocks}
use Rattle.xr_space.specs.SpaceFrame.{SpaceStays, SpaceStaysBeside}
use Rattle.xr_space.specs.declared.space.Space.{Space}

-- two trees that hold the same runs are paired as they were, and the same blocks are free
paired_still : (a b : Blocks) (s : Space) → block_records b s ≡ block_records a s → size_records b s ≡ size_records a s → ArePaired a s → ArePaired b s
paired_still a b s runs sizes paired = record {
  sized = λ run held. rw sizes (paired.sized run (rw runs at held));
  free = λ run held. rw runs (paired.free run (rw sizes at held));
}

free_still : (a b : Blocks) (s : Space) (n : ℕ) → block_records b s ≡ block_records a s → IsFreeBlock a s n → IsFreeBlock b s n
free_still a b s n runs free = (free.0, rw runs free.1, free.2)

module _ (a b : Blocks) (s : Space) (old new : List ℕ) (space : IsSpace a s) (change : ChangesOnly a old b new)
    (away : (n : ℕ) → Contains (space_blocks a s) n → ¬ (Contains old n)) where
  blocks : Stays block_form a b s.by_block.block s.by_block.level new
  blocks =
      stays_tree block_form a b s.by_block.block s.by_block.level old new space.blocks change
      (λ n mine. away n (Contains-append_left (block_blocks a s) (size_blocks a s) n mine))

  sizes : Stays size_form a b s.by_size.block s.by_size.level new
  sizes =
      stays_tree size_form a b s.by_size.block s.by_size.level old new space.sizes change
      (λ n mine. away n (Contains-append_right (block_blocks a s) (size_blocks a s) n mine))

  space_after : IsSpace b s
  space_after = record {
    blocks = blocks.tree;
    sizes = sizes.tree;
    separate = λ n one other. space.separate n (rw blocks.same_blocks at one) (rw sizes.same_blocks at other);
  }

  stays : SpaceStays a b s new
  stays = record {
    space = space_after;
    same_runs = blocks.same_records;
    same_sizes = sizes.same_records;
    same_block_blocks = blocks.same_blocks;
    same_size_blocks = sizes.same_blocks;
    paired = (
      λ paired. paired_still b a s (sym blocks.same_records) (sym sizes.same_records) paired,
      λ paired. paired_still a b s blocks.same_records sizes.same_records paired,
    );
    free = λ n. (
      λ free. free_still b a s n (sym blocks.same_records) free,
      λ free. free_still a b s n blocks.same_records free,
    );
    own = λ n within. ⊎_elim (blocks.own n) (sizes.own n) (Contains-append_cases (block_blocks b s) (size_blocks b s) n within);
  }

pub space_stays : SpaceStaysBeside
space_stays before after s old new space change away = stays before after s old new space change away
