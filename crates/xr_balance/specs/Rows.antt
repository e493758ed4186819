-- The works with which each event begins its chain, in their order.
use Rattle.std.specs.Prelude.{ℕ, Option, ◌+◌, ◌-◌, ◌≤◌, ◌==◌, if◌then◌else◌, List, [], ◌++◌, length, ◌∷◌, Some}
use Rattle.xr_base.specs.declared.address.FileNo.{FileNo}
use Rattle.xr_base.specs.declared.address.Run.{Run}
use Rattle.xr_base.specs.declared.geometry.TheConstants.{FIRST_INODE, OWN_COW}
use Rattle.xr_items.specs.declared.work.CountKind.TheVariants.{Increase, Decrease, AllocCow, FreeCow}
use Rattle.xr_items.specs.declared.work.Work.TheVariants.{Free, Own, Count, Map, Swap}
use Rattle.xr_items.specs.declared.work.Work.{Work}
use Rattle.xr_items.specs.declared.work.MapKind.TheVariants as Mapping
use Rattle.xr_items.specs.declared.work.OwnKind.TheVariants as Owning
use Rattle.xr_balance.specs.Chains.{IsChain}

-- a staging, a release and the rows of steps
abbrev pub works_of_staging : Run → List Work
works_of_staging run = Count AllocCow run ∷ Own Owning.Alloc OWN_COW 0 run ∷ []

abbrev pub works_of_release : Run → List Work
works_of_release run = Count FreeCow run ∷ Own Owning.Free OWN_COW 0 run ∷ Free run ∷ []

abbrev pub works_of_exchange : FileNo → ℕ → FileNo → ℕ → ℕ → List Work
works_of_exchange file off other other_off len = Swap file off other other_off len ∷ []

abbrev pub works_of_punch : FileNo → ℕ → Run → List Work
works_of_punch file off old = Map Mapping.Unmap file off old ∷ Own Owning.UnmapShared (FIRST_INODE + file.0) off old ∷ Count Decrease old ∷ []

-- of a remap to a run of a file, or to a staged one, of a range that was mapped to the run `old` or to nothing
abbrev pub works_of_share : FileNo → ℕ → Option Run → Run → List Work
works_of_share file off (Some old) new =
    Map Mapping.Unmap file off old ∷ Map Mapping.Map file off new
    ∷ Own Owning.UnmapShared (FIRST_INODE + file.0) off old ∷ Own Owning.MapShared (FIRST_INODE + file.0) off new
    ∷ Count Increase new ∷ Count Decrease old ∷ []
works_of_share file off _ new =
    Map Mapping.Map file off new ∷ Own Owning.MapShared (FIRST_INODE + file.0) off new ∷ Count Increase new ∷ []

abbrev pub works_of_fresh : FileNo → ℕ → Option Run → Run → List Work
works_of_fresh file off (Some old) new =
    Map Mapping.Unmap file off old ∷ Map Mapping.Map file off new
    ∷ Own Owning.Free OWN_COW 0 new ∷ Own Owning.UnmapShared (FIRST_INODE + file.0) off old ∷ Own Owning.MapShared (FIRST_INODE + file.0) off new
    ∷ Count FreeCow new ∷ Count Decrease old ∷ []
works_of_fresh file off _ new =
    Map Mapping.Map file off new ∷ Own Owning.Free OWN_COW 0 new ∷ Own Owning.MapShared (FIRST_INODE + file.0) off new ∷ Count FreeCow new ∷ []

-- the work of a run; a hole has none
abbrev pub work_of : (Run → Work) → Option Run → List Work
work_of work (Some run) = work run ∷ []
work_of work _ = []

-- of a piece of an exchange, of which the first range held `one` and the second `two`: first those of files, then those of groups,
-- and of each kind first the one on the first file
abbrev pub works_of_piece : FileNo → ℕ → Option Run → FileNo → ℕ → Option Run → List Work
works_of_piece file off one other other_off two =
    work_of (λ run. Map Mapping.Unmap file off run) one ++ work_of (λ run. Map Mapping.Unmap other other_off run) two
    ++ work_of (λ run. Map Mapping.Map file off run) two ++ work_of (λ run. Map Mapping.Map other other_off run) one
    ++ work_of (λ run. Own Owning.UnmapShared (FIRST_INODE + file.0) off run) one
    ++ work_of (λ run. Own Owning.UnmapShared (FIRST_INODE + other.0) other_off run) two
    ++ work_of (λ run. Own Owning.MapShared (FIRST_INODE + file.0) off run) two
    ++ work_of (λ run. Own Owning.MapShared (FIRST_INODE + other.0) other_off run) one

-- of what is left of an exchange behind its first n offsets
abbrev pub works_of_exchange_rest : FileNo → ℕ → FileNo → ℕ → ℕ → ℕ → List Work
works_of_exchange_rest file off other other_off len n =
    if n == len then [] else works_of_exchange file (off + n) other (other_off + n) (len - n)

pub record RowsAreChains : Type 0 where
  pub staging : (run : Run) → IsChain (works_of_staging run)
  pub release : (run : Run) → IsChain (works_of_release run)
  pub exchange : (file : FileNo) (off : ℕ) (other : FileNo) (other_off len : ℕ) → IsChain (works_of_exchange file off other other_off len)
  pub punch : (file : FileNo) (off : ℕ) (old : Run) → IsChain (works_of_punch file off old)
  pub share : (file : FileNo) (off : ℕ) (old : Option Run) (new : Run) → IsChain (works_of_share file off old new)
  pub fresh : (file : FileNo) (off : ℕ) (old : Option Run) (new : Run) → IsChain (works_of_fresh file off old new)

-- a chain has twelve works at most
abbrev pub ChainsAreShort : Type 0
ChainsAreShort = (works : List Work) → IsChain works → length works ≤ 12
