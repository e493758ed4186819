-- A step of a tree: what one change of it or several leave, with the most blocks that it takes of the pool, and by how many
-- the changed blocks grow at most.
use Rattle.std.specs.Prelude.{ℕ, ◌+◌, ◌≤◌, List, length}
use Rattle.std.specs.List.{Contains}
use Rattle.xr_block.specs.Frame.{ChangesOnly}
use Rattle.xr_block.specs.Trees.{IsTree, blocks_of_tree, records_of_tree}
use Rattle.xr_block.specs.declared.root.Root.{Root}
use Rattle.xr_change.specs.Calls.{ChangesTree, most_changed}
use Rattle.xr_change.specs.Sets.{Gains, Loses, Swaps, inserted, removed, replaced}
use Rattle.xr_kinds.specs.Form.{Form}
use Rattle.xr_pool.specs.Overlay.{Blocks, changed_blocks, free_count}

-- the records of a tree as a set
abbrev pub IsRecordOf : {X : Type 0} → Form X → Blocks → Root → X → Type 0
IsRecordOf form b t r = Contains (records_of_tree form b t) r

pub record IsTreeStep {X : Type 0} (form : Form X) (a : Blocks) (old : Root) (b : Blocks) (new : Root) (most writes : ℕ) : Type 0 where
  pub tree : IsTree form b new
  pub frame : ChangesOnly a (blocks_of_tree form a old) b (blocks_of_tree form b new)
  pub room : free_count a ≤ free_count b + most
  pub changed : length (changed_blocks b) ≤ length (changed_blocks a) + writes

-- steps of one tree, one after the other, are one step
abbrev pub TreeStepsFollow : {X : Type 0} → Form X → Type 0
TreeStepsFollow form =
    (a b c : Blocks) (s t u : Root) (m n v w : ℕ) → IsTreeStep form a s b t m v → IsTreeStep form b t c u n w
    → IsTreeStep form a s c u (m + n) (v + w)

-- a change of a tree is a step of it, whatever it makes of the records
abbrev pub ChangesAreSteps : {X : Type 0} → Form X → Type 0
ChangesAreSteps {X} form =
    (a : Blocks) (old : Root) (b : Blocks) (new : Root) (change : List X → List X) (most writes : ℕ) → ChangesTree form a old b new change
    → free_count a ≤ free_count b + most → most_changed old ≤ writes → IsTreeStep form a old b new most writes

-- and the set of its records has one more, one less, or another in the place of one
abbrev pub InsertionIsGain : {X : Type 0} → Form X → Type 0
InsertionIsGain {X} form =
    (a : Blocks) (old : Root) (b : Blocks) (new : Root) (r : X) → ChangesTree form a old b new (inserted form.order r)
    → Gains (IsRecordOf form a old) r (IsRecordOf form b new)

abbrev pub RemovalIsLoss : {X : Type 0} → Form X → Type 0
RemovalIsLoss {X} form =
    (a : Blocks) (old : Root) (b : Blocks) (new : Root) (r : X) → IsTree form a old → IsRecordOf form a old r
    → ChangesTree form a old b new (removed form.order r) → Loses (IsRecordOf form a old) r (IsRecordOf form b new)

abbrev pub ReplacementIsSwap : {X : Type 0} → Form X → Type 0
ReplacementIsSwap {X} form =
    (a : Blocks) (old : Root) (b : Blocks) (new : Root) (r s : X) → IsTree form a old → IsRecordOf form a old r
    → ChangesTree form a old b new (replaced form.order r s) → Swaps (IsRecordOf form a old) r s (IsRecordOf form b new)
