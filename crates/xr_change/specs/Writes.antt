-- Of no public contract.
-- What is written of an overlay, one block or some, and how many blocks are changed in all.
use Rattle.std.specs.Prelude.{◌≡◌, ℕ, ◌+◌, ◌≤◌, true, if◌then◌else◌, List, [], ◌∷◌, length}
use Rattle.xr_pool.specs.Overlay.{Blocks, changed_blocks, is_changed, is_free}
use Rattle.xr_block.specs.Times.{times}
use Rattle.xr_change.specs.Alters.{IsSamePool, IsUntouched}

-- one block is written
pub record WritesOnly (a b : Blocks) (n : ℕ) : Type 0 where
  pub same : IsSamePool a b
  pub others : (m : ℕ) → (m ≡ n → ⊥) → IsUntouched a b m
  pub free : (m : ℕ) → is_free b m ≡ is_free a m

-- 1 where a block isn't marked as changed
abbrev pub unchanged : Blocks → ℕ → ℕ
unchanged b n = if is_changed b n then 0 else 1

-- marks stay, and there are so many more at most
pub record MarksAtMost (before after : Blocks) (more : ℕ) : Type 0 where
  pub stay : (m : ℕ) → is_changed before m ≡ true → is_changed after m ≡ true
  pub few : length (changed_blocks after) ≤ length (changed_blocks before) + more

-- how many of some blocks aren't marked as changed
abbrev pub unmarked : Blocks → List ℕ → ℕ
unmarked b [] = 0
unmarked b (n ∷ ns) = unchanged b n + unmarked b ns

-- some blocks are written, and nothing else
pub record Writes (a b : Blocks) (ns : List ℕ) : Type 0 where
  pub same : IsSamePool a b
  pub others : (m : ℕ) → times m ns ≡ 0 → IsUntouched a b m
  pub free : b.free ≡ a.free
  pub changed : (m : ℕ) → 1 ≤ times m ns → is_changed b m ≡ true
  pub marks : MarksAtMost a b (unmarked a ns)
