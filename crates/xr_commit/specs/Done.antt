-- Going from the last item of a log to the first, with the ids of the done items that were met; of no public contract.
use Rattle.std.specs.Prelude.{◌≡◌, ℕ, Bool, ◌&&◌, ◌||◌, ◌==◌, List, ◌++◌, reverse}
use Rattle.std.specs.BTreeSet.{BTreeSet, contains}
use Rattle.std.specs.Ordering.{nat_cmp}
use Rattle.xr_items.specs.declared.item.DoneOf.{DoneOf}
use Rattle.xr_items.specs.declared.item.Item.{Item}
use Rattle.xr_items.specs.declared.work.Work.{Work}
use Rattle.xr_items.specs.declared.work.Work.TheVariants.{Free, Own, Count, Map, Swap}
use Rattle.xr_commit.specs.declared.pending.DoneIds.{DoneIds}
use Rattle.xr_commit.specs.declared.pending.Pending.{Pending}
use Rattle.xr_commit.specs.Pending.{is_done, pending, suits}

abbrev pub ids_of : Work → DoneIds → BTreeSet ℕ
ids_of (Free run) done = done.efd
ids_of (Own kind owner off run) done = done.rud
ids_of (Count kind run) done = done.cud
ids_of (Map kind file off run) done = done.bud
ids_of (Swap file off other other_off len) done = done.xmd

-- a done item of the work's kind that was met named the id
abbrev pub has : DoneIds → ℕ → Work → Bool
has done id work = contains nat_cmp (ids_of work done) id

-- one more was met
abbrev pub HasAlso : ℕ → DoneOf → DoneIds → DoneIds → Type 0
HasAlso ended of old new = (id : ℕ) (work : Work) → has new id work ≡ ((ended == id && suits work of) || has old id work)

-- these items were met, and gave these works, the last one first
pub record IsWalked (items : List Item) (done : DoneIds) (works : List Pending) : Type 0 where
  pub works_are : works ≡ reverse (pending items)
  pub ids : (id : ℕ) (work : Work) → has done id work ≡ is_done id work items

-- whatever was met before, these were met before it
abbrev pub WalksOver : List Item → DoneIds → List Pending → DoneIds → List Pending → Type 0
WalksOver items old old_works new new_works = (later : List Item) → IsWalked later old old_works → IsWalked (items ++ later) new new_works
