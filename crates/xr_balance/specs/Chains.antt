-- What the order of the works in one chain tells, whatever the trees hold. A roll takes the first work off and puts new ones at the end.
use Rattle.std.specs.Prelude.{◌≡◌, ◌⊎◌, ℕ, ◌+◌, ◌<◌, ◌≤◌, ⊤, List, [], ◌∷◌, sum_by}
use Rattle.xr_items.specs.declared.work.Work.{Work}
use Rattle.xr_items.specs.declared.work.Work.TheVariants.{Free, Own, Count, Map, Swap}
use Rattle.xr_items.specs.declared.work.OwnKind.TheVariants as Owning
use Rattle.xr_items.specs.declared.work.CountKind.TheVariants.{Increase, Decrease}
use Rattle.xr_items.specs.declared.work.MapKind.TheVariants as Mapping
use Rattle.xr_maps.specs.Holdings.{in_run}
use Rattle.xr_balance.specs.Works.{freed, mapping_at, naming_file, unmapping_at, unstaging}

-- the work takes the block from an owner, or its staging pair
abbrev pub disowning : ℕ → Work → ℕ
disowning b (Map Mapping.Unmap file off run) = in_run b run
disowning b (Own Owning.UnmapShared owner off run) = in_run b run
disowning b _ = 0

abbrev pub unstaging_pair : ℕ → Work → ℕ
unstaging_pair b (Own Owning.Free owner off run) = in_run b run
unstaging_pair b _ = 0

-- the work lowers the block or gives it another owner's pair
abbrev pub answering : ℕ → Work → ℕ
answering b (Count Decrease run) = in_run b run
answering b (Own Owning.MapShared owner off run) = in_run b run
answering b _ = 0

-- 1 where the work is a gift, a lowering, a raise, an exchange, or one of the two kinds that leave works of their own kind.
-- These count works, where those above count how often a work names a block.
abbrev pub giving : Work → ℕ
giving (Free run) = 1
giving _ = 0

abbrev pub lowering : Work → ℕ
lowering (Count Decrease run) = 1
lowering _ = 0

abbrev pub raising : Work → ℕ
raising (Count Increase run) = 1
raising _ = 0

abbrev pub exchanging : Work → ℕ
exchanging (Swap file off other other_off len) = 1
exchanging _ = 0

abbrev pub recounting : Work → ℕ
recounting (Count Increase run) = 1
recounting (Count Decrease run) = 1
recounting _ = 0

abbrev pub other_than_giving : Work → ℕ
other_than_giving (Free run) = 0
other_than_giving _ = 1

-- how a work of a chain goes with those that stand after it
pub record GoesBefore (w : Work) (after : List Work) : Type 0 where
  -- an offset that is mapped is no more unmapped
  pub unmapped : (f o : ℕ) → 0 < mapping_at f o w → sum_by (unmapping_at f o) after ≡ 0
  -- a block that loses an owner is still to be lowered or to get another owner's pair
  pub answered : (b : ℕ) → 0 < disowning b w → 0 < sum_by (answering b) after
  -- a block that loses its staging pair is still to be unstaged or given
  pub unstaged : (b : ℕ) → 0 < unstaging_pair b w → 0 < sum_by (unstaging b) after + sum_by (freed b) after
  -- no block is to be given after a lowering, and none lowered
  pub lowered_last : 0 < lowering w → sum_by giving after + sum_by lowering after ≡ 0
  -- an exchange is the last work
  pub exchanged_last : 0 < exchanging w → after ≡ []

unfoldable pub AreInOrder : List Work → Type 0
AreInOrder [] = ⊤
AreInOrder (w ∷ works) = GoesBefore w works × AreInOrder works

-- the works of one lane
pub record IsChain (works : List Work) : Type 0 where
  pub order : AreInOrder works
  pub short : sum_by other_than_giving works ≤ 11
  pub given_once : sum_by giving works ≤ 1
  pub raised_once : sum_by raising works ≤ 1
  -- a chain with an exchange has no works that leave works of their kind
  pub apart : 0 < sum_by exchanging works → sum_by recounting works ≡ 0
  -- it names two files at most
  pub one : ℕ
  pub two : ℕ
  pub files : (f : ℕ) → 0 < sum_by (naming_file f) works → (f ≡ one) ⊎ (f ≡ two)
