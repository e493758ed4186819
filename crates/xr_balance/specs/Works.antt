-- What a pending work says of a block, of an offset and of a reverse pair: how often it names it, 0 or 1.
use Rattle.std.specs.Prelude.{ℕ, ◌+◌, ◌≤◌, ◌==◌, ◌||◌, if◌then◌else◌, suc, List, sum_by}
use Rattle.xr_base.specs.declared.address.Run.{Run}
use Rattle.xr_base.specs.declared.geometry.TheConstants.{FIRST_INODE}
use Rattle.xr_maps.specs.Steps.{is_within}
use Rattle.xr_items.specs.declared.work.Work.{Work}
use Rattle.xr_items.specs.declared.work.Work.TheVariants.{Free, Own, Count, Map, Swap}
use Rattle.xr_items.specs.declared.work.OwnKind.TheVariants as Owning
use Rattle.xr_items.specs.declared.work.CountKind.TheVariants.{Increase, Decrease, AllocCow, FreeCow}
use Rattle.xr_items.specs.declared.work.MapKind.TheVariants as Mapping
use Rattle.xr_maps.specs.Holdings.{in_layout, in_run, one_if, sum_below}

-- a pending work and the lane whose chain it stands in
pub record Debt : Type 0 where
  pub lane : ℕ
  pub work : Work

-- the offset o is one of the run's offsets, from off on
abbrev pub in_offsets : ℕ → ℕ → Run → ℕ
in_offsets o off run = one_if (is_within off run.len o)

-- how often the work gives, raises, lowers, stages or unstages the block
abbrev pub freed : ℕ → Work → ℕ
freed b (Free run) = in_run b run
freed b _ = 0

abbrev pub raised : ℕ → Work → ℕ
raised b (Count Increase run) = in_run b run
raised b _ = 0

abbrev pub lowered : ℕ → Work → ℕ
lowered b (Count Decrease run) = in_run b run
lowered b _ = 0

abbrev pub staging : ℕ → Work → ℕ
staging b (Count AllocCow run) = in_run b run
staging b _ = 0

abbrev pub unstaging : ℕ → Work → ℕ
unstaging b (Count FreeCow run) = in_run b run
unstaging b _ = 0

-- how often the work adds or takes the pair of the block and the file's offset
abbrev pub pairing : ℕ → ℕ → ℕ → Work → ℕ
pairing f o b (Own Owning.MapShared owner off run) = if owner == FIRST_INODE + f then in_layout b o off run else 0
pairing f o b _ = 0

abbrev pub unpairing : ℕ → ℕ → ℕ → Work → ℕ
unpairing f o b (Own Owning.UnmapShared owner off run) = if owner == FIRST_INODE + f then in_layout b o off run else 0
unpairing f o b _ = 0

-- how often the work adds or takes the staging pair of the block
abbrev pub staging_pair : ℕ → Work → ℕ
staging_pair b (Own Owning.Alloc owner off run) = in_run b run
staging_pair b _ = 0

abbrev pub staging_unpair : ℕ → Work → ℕ
staging_unpair b (Own Owning.Free owner off run) = in_run b run
staging_unpair b _ = 0

-- how often the work puts the block at the file's offset, or takes it from there
abbrev pub mapping : ℕ → ℕ → ℕ → Work → ℕ
mapping f o b (Map Mapping.Map file off run) = if file.0 == f then in_layout b o off run else 0
mapping f o b _ = 0

abbrev pub unmapping : ℕ → ℕ → ℕ → Work → ℕ
unmapping f o b (Map Mapping.Unmap file off run) = if file.0 == f then in_layout b o off run else 0
unmapping f o b _ = 0

-- how often a work of that kind names the file's offset, whatever the block
abbrev pub mapping_at : ℕ → ℕ → Work → ℕ
mapping_at f o (Map Mapping.Map file off run) = if file.0 == f then in_offsets o off run else 0
mapping_at f o _ = 0

abbrev pub unmapping_at : ℕ → ℕ → Work → ℕ
unmapping_at f o (Map Mapping.Unmap file off run) = if file.0 == f then in_offsets o off run else 0
unmapping_at f o _ = 0

abbrev pub pairing_at : ℕ → ℕ → Work → ℕ
pairing_at f o (Own Owning.MapShared owner off run) = if owner == FIRST_INODE + f then in_offsets o off run else 0
pairing_at f o _ = 0

abbrev pub unpairing_at : ℕ → ℕ → Work → ℕ
unpairing_at f o (Own Owning.UnmapShared owner off run) = if owner == FIRST_INODE + f then in_offsets o off run else 0
unpairing_at f o _ = 0

abbrev pub exchanging_at : ℕ → ℕ → Work → ℕ
exchanging_at f o (Swap file off other other_off len) =
    (if file.0 == f then one_if (is_within off len o) else 0) + (if other.0 == f then one_if (is_within other_off len o) else 0)
exchanging_at f o _ = 0

-- how often the work names the block, or the file
abbrev pub naming : ℕ → Work → ℕ
naming b (Free run) = in_run b run
naming b (Own kind owner off run) = in_run b run
naming b (Count kind run) = in_run b run
naming b (Map kind file off run) = in_run b run
naming b _ = 0

abbrev pub naming_file : ℕ → Work → ℕ
naming_file f (Own Owning.MapShared owner off run) = one_if (owner == FIRST_INODE + f)
naming_file f (Own Owning.UnmapShared owner off run) = one_if (owner == FIRST_INODE + f)
naming_file f (Map kind file off run) = one_if (file.0 == f)
naming_file f (Swap file off other other_off len) = one_if (file.0 == f || other.0 == f)
naming_file f _ = 0

-- a lane's number
abbrev pub IsLane : ℕ → Type 0
IsLane lane = (1 ≤ lane) × (lane ≤ 8)

-- the sum of f over all lanes
abbrev pub sum_of_lanes : (ℕ → ℕ) → ℕ
sum_of_lanes f = sum_below 8 (λ k. f (suc k))

-- how often the pending works do it together
abbrev pub total : (Work → ℕ) → List Debt → ℕ
total f debts = sum_by (λ d. f d.work) debts
