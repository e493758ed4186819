-- A change of one of two trees that share no block, and changes of the two one after the other.
use Rattle.std.proofs.Common.{◌≡◌, ℕ, ◌+◌, ◌≤◌, false, List, ◌++◌, refl, inl, ⊎_elim, arith}
use Rattle.std.proofs.lemmas.List.Elements.{All-contains, Contains-append_cases, Contains-append_left, Contains-append_right}
use Rattle.std.specs.List.{All, Contains}
use Rattle.xr_kinds.specs.declared.free_runs.ByBlock.{ByBlock}
use Rattle.xr_kinds.specs.declared.free_runs.BySize.{BySize}
use Rattle.xr_kinds.specs.Form.{Form}
use Rattle.xr_block.specs.Frame.{ChangesOnly, Stays}
use Rattle.xr_block.specs.FrameLaws.{stays_tree, then_changes}
use Rattle.xr_block.specs.SharedPool.{HaveSameMembers}
use Rattle.xr_block.specs.SharedPoolLaws.{holds_in_any_order, widens_to_others}
use Rattle.xr_change.specs.Calls.{ChangesTree}
use Rattle.xr_change.specs.TreeStepLaws.{changes_are_steps}
use Rattle.xr_kinds.specs.FreeRuns.{block_form, block_span, size_form, size_span}
use Rattle.xr_pool.specs.Overlay.{Blocks, free_count, is_free, pool_size}
use Rattle.xr_block.specs.Tree.{IsTreeIn, IsUsed, tree_blocks}
use Rattle.xr_space.proofs.RunRecordLemmas.{by_block_runs, by_size_runs}
use Rattle.xr_space.proofs.SmallTreeLemmas.{is_low}
use Rattle.xr_space.specs.Space.{IsSpace, IsStep, block_blocks, block_records, size_blocks, size_records, space_blocks}
use Rattle.xr_space.specs.declared.space.Space.{Space}
use Rattle.xr_tree.specs.declared.tree.Tree.{Tree}

used_block : (b : Blocks) (ns : List ℕ) (n : ℕ) → All (IsUsed (is_free b) (pool_size b)) ns → Contains ns n → is_free b n ≡ false
used_block b ns n owned within = let mine = All-contains (IsUsed (is_free b) (pool_size b)) ns n owned within in mine.taken

swapped : (xs ys : List ℕ) → HaveSameMembers (xs ++ ys) (ys ++ xs)
swapped xs ys n = (
  λ found. ⊎_elim (Contains-append_right ys xs n) (Contains-append_left ys xs n) (Contains-append_cases xs ys n found),
  λ found. ⊎_elim (Contains-append_right xs ys n) (Contains-append_left xs ys n) (Contains-append_cases ys xs n found),
)

-- a change of blocks that another tree doesn't have is one of these and that tree's blocks
module _ {Y : Type 0} (form : Form Y) (a b : Blocks) (root level : ℕ) (u v : List ℕ) (tree : IsTreeIn form a root level) (change : ChangesOnly a u b v) (away : (n : ℕ) → Contains (tree_blocks form a root level) n → ¬ (Contains u n)) where
  other : Stays form a b root level v
  other = stays_tree form a b root level u v tree change away

  wider : ChangesOnly a (tree_blocks form a root level ++ u) b (tree_blocks form b root level ++ v)
  wider =
      rw other.same_blocks (widens_to_others a b u v (tree_blocks form a root level) change
      (λ n mine. (used_block a (tree_blocks form a root level) n tree.owned mine, away n mine)))

  wider_back : ChangesOnly a (u ++ tree_blocks form a root level) b (v ++ tree_blocks form b root level)
  wider_back =
      holds_in_any_order a b (tree_blocks form a root level ++ u) (tree_blocks form b root level ++ v) (u ++ tree_blocks form a root level)
      (v ++ tree_blocks form b root level) wider (swapped (tree_blocks form a root level) u) (swapped (tree_blocks form b root level) v)

-- the tree by block is changed
module _ (a b : Blocks) (s : Space) (tree : Tree ByBlock) (space : IsSpace a s) (change : List ByBlock → List ByBlock) (step : ChangesTree block_form a s.by_block b tree change) where
  abbrev after_block : Space
  after_block = record { by_block = tree; by_size = s.by_size }

  away : (n : ℕ) → Contains (size_blocks a s) n → ¬ (Contains (block_blocks a s) n)
  away n within inside = space.separate n inside within

  sizes : Stays size_form a b s.by_size.block s.by_size.level (block_blocks b after_block)
  sizes = other size_form a b s.by_size.block s.by_size.level (block_blocks a s) (block_blocks b after_block) space.sizes step.frame away

  pub sizes_stay : size_records b after_block ≡ size_records a s
  sizes_stay = sizes.same_records

  pub block_step : (most : ℕ) → free_count a ≤ free_count b + most → IsStep a s b after_block most 7
  block_step most room =
      let low = is_low block_form block_span by_block_runs a s.by_block.block s.by_block.level space.blocks in
      let one = changes_are_steps block_form a s.by_block b tree change most 7 step room (omega (arith, low)) in
      record {
        space = record { blocks = one.tree; sizes = sizes.tree; separate = λ n mine other. sizes.own n other mine };
        frame = wider_back size_form a b s.by_size.block s.by_size.level (block_blocks a s) (block_blocks b after_block) space.sizes one.frame away;
        room = one.room;
        changed = one.changed;
      }

-- the tree by size is changed
module _ (a b : Blocks) (s : Space) (tree : Tree BySize) (space : IsSpace a s) (change : List BySize → List BySize) (step : ChangesTree size_form a s.by_size b tree change) where
  abbrev after_size : Space
  after_size = record { by_block = s.by_block; by_size = tree }

  blocks : Stays block_form a b s.by_block.block s.by_block.level (size_blocks b after_size)
  blocks = other block_form a b s.by_block.block s.by_block.level (size_blocks a s) (size_blocks b after_size) space.blocks step.frame space.separate

  pub blocks_stay : block_records b after_size ≡ block_records a s
  blocks_stay = blocks.same_records

  pub size_step : (most : ℕ) → free_count a ≤ free_count b + most → IsStep a s b after_size most 7
  size_step most room =
      let low = is_low size_form size_span by_size_runs a s.by_size.block s.by_size.level space.sizes in
      let one = changes_are_steps size_form a s.by_size b tree change most 7 step room (omega (arith, low)) in
      record {
        space = record { blocks = blocks.tree; sizes = one.tree; separate = blocks.own };
        frame = wider block_form a b s.by_block.block s.by_block.level (size_blocks a s) (size_blocks b after_size) space.blocks one.frame space.separate;
        room = one.room;
        changed = one.changed;
      }

-- one change after another
pub then_step : {a b c : Blocks} {s t u : Space} {m n v w : ℕ} → IsStep a s b t m v → IsStep b t c u n w → IsStep a s c u (m + n) (v + w)
then_step {a} {b} {c} {s} {t} {u} one two = record {
  space = two.space;
  frame = then_changes a b c (space_blocks a s) (space_blocks b t) (space_blocks c u) one.frame two.frame;
  room = omega (arith, one.room, two.room);
  changed = omega (arith, one.changed, two.changed);
}

-- no change at all
pub no_change : (b : Blocks) (s : Space) → IsSpace b s → ChangesOnly b (space_blocks b s) b (space_blocks b s)
no_change b s space = record {
  site = refl;
  pool = refl;
  kept = refl;
  kept_free = refl;
  others = λ n taken without. (refl, taken, without);
  taken = λ n within. ⊎_elim (used_block b (block_blocks b s) n space.blocks.owned) (used_block b (size_blocks b s) n space.sizes.owned)
      (Contains-append_cases (block_blocks b s) (size_blocks b s) n within);
  freed = λ n within without. absurd (without within);
  spare = λ n free without. free;
  marked = λ n is. inl is;
}
