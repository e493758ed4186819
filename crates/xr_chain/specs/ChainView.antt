-- A chain: the works that one event has begun and that are still to be done, and what the next roll of it needs.
use Rattle.std.specs.Prelude.{◌≡◌, ℕ, ◌+◌, ◌≤◌, List, [], ◌∷◌, length}
use Rattle.xr_base.specs.Address.{group_number}
use Rattle.xr_base.specs.declared.address.FileNo.{FileNo}
use Rattle.xr_base.specs.declared.address.GroupNo.{GroupNo}
use Rattle.xr_chain.specs.declared.chain.Need.{Need}
use Rattle.xr_chain.specs.declared.chain.Need.TheVariants as need
use Rattle.xr_items.specs.declared.work.CountKind.TheVariants.{Increase, Decrease}
use Rattle.xr_items.specs.declared.work.Work.{Work}
use Rattle.xr_items.specs.declared.work.Work.TheVariants.{Free, Own, Count, Map, Swap}

pub record ChainView : Type 0 where
  -- the works, in the order in which they are done
  pub works : List Work
  -- the slots that the first of them have in the log's table; those behind have none yet
  pub slots : List ℕ

-- each work has its slot
abbrev pub IsPlaced : ChainView → Type 0
IsPlaced chain = length chain.slots ≡ length chain.works

-- a chain begins with a work that has a slot
pub record IsHead (chain : ChainView) (work : Work) (slot : ℕ) : Type 0 where
  pub behind : List Work
  pub slots : List ℕ
  pub is : chain ≡ record { works = work ∷ behind; slots = slot ∷ slots }

-- a chain of new works
abbrev pub begun_chain : List Work → ChainView
begun_chain works = record { works = works; slots = [] }

abbrev pub group_at : ℕ → GroupNo
group_at n = record { 0 = n }

abbrev pub file_at : ℕ → FileNo
file_at n = record { 0 = n }

-- what a work needs, and what the first of some works does
abbrev pub need_of : Work → Need
need_of (Free run) = need.Group (group_at (group_number run.start))
need_of (Own kind owner off run) = need.Group (group_at (group_number run.start))
need_of (Count kind run) = need.Group (group_at (group_number run.start))
need_of (Map kind file off run) = need.File file
need_of (Swap file off other other_off len) = need.Pair file other

abbrev pub first_need : List Work → Need
first_need [] = need.Ended
first_need (work ∷ works) = need_of work

-- how many works the roll of a work may leave
abbrev pub most_left : Work → ℕ
most_left (Count Increase run) = 1
most_left (Count Decrease run) = 2
most_left (Swap file off other other_off len) = 9
most_left _ = 0

-- what the roll of the first work may leave has room in a chain
abbrev pub HasRollRoom : List Work → Type 0
HasRollRoom [] = Unit {0}
HasRollRoom (work ∷ works) = length works + most_left work ≤ 12

-- a fact of the first of some works, where there is one
abbrev pub OfFirst : (Work → Type 0) → List Work → Type 0
OfFirst fact [] = Unit {0}
OfFirst fact (work ∷ works) = fact work
