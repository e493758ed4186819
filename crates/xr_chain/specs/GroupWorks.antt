-- What a work does to the group that it changes, and the works that it leaves.
use Rattle.std.specs.Prelude.{◌≡◌, ◌≢◌, ◌⊎◌, ℕ, ◌≤◌, List, []}
use Rattle.xr_balance.specs.RollGives.{works_of_rest}
use Rattle.xr_balance.specs.Rolls.{run_front, works_of_freed}
use Rattle.xr_base.specs.declared.address.Run.{Run}
use Rattle.xr_chain.specs.declared.group_work.Left.{Left}
use Rattle.xr_chain.specs.declared.group_work.Left.TheVariants.{Nothing, One, Two}
use Rattle.xr_group.specs.Group.{ChangesGroup, GroupState}
use Rattle.xr_group.specs.Sets.{AddsPairs, GivesFree, IsFirstPart, LowersCounts, RaisesCounts, RemovesPairs, StagesAddresses, UnstagesAddresses}
use Rattle.xr_group.specs.Trees.{counts_part, free_part, owners_part}
use Rattle.xr_items.specs.declared.work.CountKind.TheVariants.{AllocCow, Decrease, FreeCow, Increase}
use Rattle.xr_items.specs.declared.work.OwnKind.TheVariants as Owning
use Rattle.xr_items.specs.declared.work.Work.{Work}
use Rattle.xr_items.specs.declared.work.Work.TheVariants.{Count, Free, Own}
use Rattle.xr_maps.specs.declared.records.Counted.{Counted}

-- the first part of the run whose blocks count alike is raised, or lowered, and a work is left for the rest
pub record RaisesFirst (old new : GroupState) (run : Run) (left : List Work) : Type 0 where
  pub part : Counted
  pub first : IsFirstPart old run part
  pub raises : RaisesCounts (run_front run part.run.len) old new
  pub left_is : left ≡ works_of_rest Increase run part.run.len

-- where the part's blocks lose their last owner, nothing changes here and they are to be given
abbrev pub LowersFront : Counted → Run → GroupState → GroupState → List Work → Type 0
LowersFront part run old new left =
    ((part.count ≡ 1) × (new ≡ old) × (left ≡ works_of_freed run part.run.len))
    ⊎ ((part.count ≢ 1) × LowersCounts (run_front run part.run.len) old new × (left ≡ works_of_rest Decrease run part.run.len))

pub record LowersFirst (old new : GroupState) (run : Run) (left : List Work) : Type 0 where
  pub part : Counted
  pub first : IsFirstPart old run part
  pub some : 1 ≤ part.count
  pub lowers : LowersFront part run old new left

abbrev pub DoesGroupWork : GroupState → GroupState → Work → List Work → Type 0
DoesGroupWork old new (Own Owning.MapShared owner off run) left = AddsPairs run owner off old new × (left ≡ [])
DoesGroupWork old new (Own Owning.Alloc owner off run) left = AddsPairs run owner off old new × (left ≡ [])
DoesGroupWork old new (Own Owning.UnmapShared owner off run) left = RemovesPairs run owner off old new × (left ≡ [])
DoesGroupWork old new (Own Owning.Free owner off run) left = RemovesPairs run owner off old new × (left ≡ [])
DoesGroupWork old new (Count Increase run) left = RaisesFirst old new run left
DoesGroupWork old new (Count Decrease run) left = LowersFirst old new run left
DoesGroupWork old new (Count AllocCow run) left = StagesAddresses run old new × (left ≡ [])
DoesGroupWork old new (Count FreeCow run) left = UnstagesAddresses run old new × (left ≡ [])
DoesGroupWork old new (Free run) left = GivesFree run old new × (left ≡ [])
DoesGroupWork old new _ left = ⊥

-- the part of the group's pool that a work changes, and the frame of its change
abbrev pub part_of_work : Work → ℕ
part_of_work (Own kind owner off run) = owners_part
part_of_work (Count kind run) = counts_part
part_of_work _ = free_part

abbrev pub ChangesItsPart : GroupState → GroupState → Work → Type 0
ChangesItsPart old new work = ChangesGroup (part_of_work work) 36 old new

-- the works that are left, in their order
abbrev pub left_works : Left → List Work
left_works Nothing = []
left_works (One works) = works
left_works (Two works) = works
