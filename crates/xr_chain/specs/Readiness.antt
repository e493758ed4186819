-- When a work can be rolled, in the words of the file or the group that it changes.
use Rattle.std.specs.Prelude.{◌≡◌, ℕ, ◌+◌, ◌<◌, ◌≤◌, Bool, false, length, None, Option, Some, true}
use Rattle.xr_balance.specs.Ready.{EachOf, most_records}
use Rattle.xr_base.specs.Address.{address_after}
use Rattle.xr_base.specs.declared.address.Run.{Run}
use Rattle.xr_bmap.specs.File.{FileState, slot_of_file}
use Rattle.xr_bmap.specs.Slots.{IsHole}
use Rattle.xr_group.specs.Group.{GroupState, records_now}
use Rattle.xr_group.specs.Sets.{AreCountedIn, AreStagedIn, HasNoFreeOf, HasNoPairOf, HasPairsOf, has_staged, owner_count_in}
use Rattle.xr_items.specs.declared.work.CountKind.TheVariants.{AllocCow, Decrease, FreeCow, Increase}
use Rattle.xr_items.specs.declared.work.MapKind.TheVariants as Mapping
use Rattle.xr_items.specs.declared.work.OwnKind.TheVariants as Owning
use Rattle.xr_items.specs.declared.work.Work.{Work}
use Rattle.xr_items.specs.declared.work.Work.TheVariants.{Count, Free, Map, Own}
use Rattle.xr_maps.specs.Steps.{is_within}

-- a run's offsets map its blocks
abbrev pub IsMappedTo : FileState → ℕ → Run → Type 0
IsMappedTo f off run = EachOf run (λ k. slot_of_file f (off + k) ≡ Some (address_after run.start k))

-- no block of the run is free or staged
pub record IsOwnedRun (g : GroupState) (run : Run) : Type 0 where
  pub unfree : HasNoFreeOf g run
  pub unstaged : (a : ℕ) → is_within run.start.0 run.len a ≡ true → has_staged g a ≡ false

-- and one owner more can be counted of each
pub record IsRaisable (g : GroupState) (run : Run) : Type 0 where
  pub owned : IsOwnedRun g run
  pub below : (a : ℕ) → is_within run.start.0 run.len a ≡ true → owner_count_in g a < 32768

-- no block of the run is free, and none has a record of counts
pub record IsUncounted (g : GroupState) (run : Run) : Type 0 where
  pub unfree : HasNoFreeOf g run
  pub alone : AreCountedIn g run 1 false

-- the tree of owners has room for a change
abbrev pub HasOwnerRoom : GroupState → Type 0
HasOwnerRoom g = length (records_now g).reverse ≤ most_records

-- the work of a file is ready
abbrev pub IsFileReady : FileState → Work → Type 0
IsFileReady f (Map Mapping.Unmap file off run) = IsMappedTo f off run
IsFileReady f (Map Mapping.Map file off run) = IsHole (slot_of_file f) off run.len
IsFileReady f _ = Unit {0}

-- the work of a group is ready
abbrev pub IsGroupReady : GroupState → Work → Type 0
IsGroupReady g (Own Owning.MapShared owner off run) = HasNoPairOf g run owner off × HasOwnerRoom g
IsGroupReady g (Own Owning.Alloc owner off run) = HasNoPairOf g run owner off × HasOwnerRoom g
IsGroupReady g (Own Owning.UnmapShared owner off run) = HasPairsOf g run owner off × HasOwnerRoom g
IsGroupReady g (Own Owning.Free owner off run) = HasPairsOf g run owner off × HasOwnerRoom g
IsGroupReady g (Count Increase run) = IsRaisable g run
IsGroupReady g (Count Decrease run) = IsOwnedRun g run
IsGroupReady g (Count AllocCow run) = IsUncounted g run
IsGroupReady g (Count FreeCow run) = AreStagedIn g run
IsGroupReady g (Free run) = HasNoFreeOf g run
IsGroupReady g _ = Unit {0}

-- a block is staged or isn't, and has fewer owners than the limit, where there is one
abbrev pub IsBelow : Option ℕ → ℕ → Type 0
IsBelow (Some limit) count = count < limit
IsBelow None count = Unit {0}

abbrev pub IsCountedBelow : GroupState → Bool → Option ℕ → ℕ → Type 0
IsCountedBelow g staged limit a = (has_staged g a ≡ staged) × IsBelow limit (owner_count_in g a)

abbrev pub AreCountedBelow : GroupState → Run → Bool → Option ℕ → Type 0
AreCountedBelow g run staged limit = (a : ℕ) → is_within run.start.0 run.len a ≡ true → IsCountedBelow g staged limit a
