-- When a work can be rolled, in the words of the blocks, and that the first work of each chain can.
use Rattle.std.specs.Prelude.{ℕ, ◌≡◌, ◌+◌, ◌*◌, ◌<◌, ◌≤◌, Bool, List, false, ◌-◌, ⊤, true, ◌∷◌, None, Some}
use Rattle.xr_base.specs.Address.{address_after, group_number}
use Rattle.xr_base.specs.declared.address.Run.{Run}
use Rattle.xr_base.specs.declared.geometry.TheConstants.{FILES, OFFSETS, FIRST_INODE, GROUP_BLOCKS}
use Rattle.xr_items.specs.declared.work.CountKind.TheVariants.{Increase, Decrease, AllocCow, FreeCow}
use Rattle.xr_items.specs.declared.work.Work.TheVariants.{Free, Own, Count, Map, Swap}
use Rattle.xr_items.specs.declared.work.Work.{Work}
use Rattle.xr_maps.specs.FileMaps.{FileMaps, address_at}
use Rattle.xr_maps.specs.Holdings.{one_if, sum_below}
use Rattle.xr_items.specs.declared.work.MapKind.TheVariants as Mapping
use Rattle.xr_items.specs.declared.work.OwnKind.TheVariants as Owning
use Rattle.xr_balance.specs.Rolls.{IsFirstWork}
use Rattle.xr_balance.specs.Settled.{Committed, IsSettled}
use Rattle.xr_balance.specs.Works.{Debt, naming}

-- each place of the run
abbrev pub EachOf : Run → (ℕ → Type 0) → Type 0
EachOf run T = (k : ℕ) → k < run.len → T k

-- an unmapping finds its run mapped there and a mapping a hole; an owner that is added isn't there and one that is taken is;
-- what is counted isn't free nor staged, and counts are below the last one; what is staged has no reference record and what is
-- unstaged is staged; what is given isn't free.
abbrev pub IsReady : Committed → Work → Type 0
IsReady C (Map Mapping.Unmap file off run) = EachOf run (λ k. address_at C.maps file.0 (off + k) ≡ Some (address_after run.start k))
IsReady C (Map Mapping.Map file off run) = EachOf run (λ k. address_at C.maps file.0 (off + k) ≡ None)
IsReady C (Own Owning.MapShared owner off run) = EachOf run (λ k. C.has_pair (owner - FIRST_INODE) (off + k) (run.start.0 + k) ≡ false)
IsReady C (Own Owning.UnmapShared owner off run) = EachOf run (λ k. C.has_pair (owner - FIRST_INODE) (off + k) (run.start.0 + k) ≡ true)
IsReady C (Own Owning.Alloc owner off run) = EachOf run (λ k. C.has_staging_pair (run.start.0 + k) ≡ false)
IsReady C (Own Owning.Free owner off run) = EachOf run (λ k. C.has_staging_pair (run.start.0 + k) ≡ true)
IsReady C (Count Increase run) =
    EachOf run (λ k. (C.is_free (run.start.0 + k) ≡ false) × (C.is_staged (run.start.0 + k) ≡ false) × (C.counted (run.start.0 + k) < 32768))
IsReady C (Count Decrease run) = EachOf run (λ k. (C.is_free (run.start.0 + k) ≡ false) × (C.is_staged (run.start.0 + k) ≡ false))
IsReady C (Count AllocCow run) =
    EachOf run (λ k. (C.is_free (run.start.0 + k) ≡ false) × (C.counted (run.start.0 + k) ≡ 1) × (C.is_staged (run.start.0 + k) ≡ false))
IsReady C (Count FreeCow run) = EachOf run (λ k. C.is_staged (run.start.0 + k) ≡ true)
IsReady C (Free run) = EachOf run (λ k. C.is_free (run.start.0 + k) ≡ false)
IsReady C (Swap file off other other_off len) = ⊤

-- an owner is added or taken where the reverse tree of its group has at most so many records: two fewer than such a tree may have,
-- since a change of one run leaves at most two more
abbrev pub most_records : ℕ
most_records = 34302

-- the tree that the work changes has room for it, where a group's reverse tree has so many records
abbrev pub HasRoom : (ℕ → ℕ) → Work → Type 0
HasRoom records (Own kind owner off run) = records (group_number run.start) ≤ most_records
HasRoom records _ = ⊤

-- the work can be rolled: a mount refuses one that can't
abbrev pub IsReadyIn : Committed → (ℕ → ℕ) → Work → Type 0
IsReadyIn C records w = IsReady C w × HasRoom records w

-- the work with the least id is the first of its chain
abbrev pub LeastIsFirst : Type 0
LeastIsFirst = (P : List Debt) (d : Debt) → IsFirstWork (d ∷ P) 0 d.lane d.work

-- so many owners and staging blocks the reverse tree of a group has, whatever records they are in
abbrev pub pairs_of : Committed → ℕ → ℕ
pairs_of C group =
    sum_below FILES (λ f. sum_below OFFSETS (λ o. sum_below GROUP_BLOCKS (λ k. one_if (C.has_pair f o (group * GROUP_BLOCKS + k)))))
    + sum_below GROUP_BLOCKS (λ k. one_if (C.has_staging_pair (group * GROUP_BLOCKS + k)))

-- in a settled state the trees of owners have few enough of them
abbrev pub FewPairs : Type 0
FewPairs = (C : Committed) (P : List Debt) (M : FileMaps) (Q : ℕ → Bool) (group : ℕ) → IsSettled C P M Q → pairs_of C group ≤ most_records

-- in a settled state the first work of each chain is ready, where no tree has more records than pairs, and no block that it names is free
abbrev pub FirstIsReady : Type 0
FirstIsReady = (C : Committed) (P : List Debt) (M : FileMaps) (Q : ℕ → Bool) (i lane : ℕ) (w : Work) (records : ℕ → ℕ)
    → ((group : ℕ) → group < C.groups → records group ≤ pairs_of C group) → IsSettled C P M Q → IsFirstWork P i lane w
    → IsReadyIn C records w × ((b : ℕ) → 0 < naming b w → C.is_free b ≡ false)
