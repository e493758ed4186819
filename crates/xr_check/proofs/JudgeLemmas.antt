-- The trees of a group one after the other, and the groups of an image.
use Rattle.std.proofs.Common.{◌≡◌, ◌↔◌, ℕ, ◌+◌, ◌<◌, ◌≤◌, List, [], ◌∷◌, ◌++◌, length, get_or, sym, ap, ◌∙◌, subst, ⊎_elim, arith}
use Rattle.std.proofs.lemmas.Bool.{cases_lt}
use Rattle.std.proofs.lemmas.List.{get_or-map, get_or_append_left, get_or_push, length-map, length_push}
use Rattle.std.specs.List.{AllPairs, Contains}
use Rattle.xr_base.specs.declared.address.Addr.{Addr}
use Rattle.xr_base.specs.declared.address.Run.{Run}
use Rattle.xr_check.specs.Differences.{DiffersAt}
use Rattle.xr_check.specs.Verdicts.{AreFirstGroups, AreSizeRecords, AreTreesSound, DiffersFrom, IsFirstTree, IsTreeDifference, IsTreeSound, turn_of}
use Rattle.xr_check.specs.declared.verdict.TreeName.{TreeName}
use Rattle.xr_check.specs.declared.verdict.TreeName.TheVariants.{Free, Owners, Shared, Sizes}
use Rattle.xr_group.specs.Group.{GroupState}
use Rattle.xr_group.specs.Next.{IsShorter, StartsBefore}
use Rattle.xr_maps.specs.FileMaps.{FileMaps}
use Rattle.xr_maps.specs.Records.{AreFreeRecords, span_of_run}

-- free records rise by their blocks
pub free_records_rise : (maps : FileMaps) (group : ℕ) (runs : List Run) → AreFreeRecords maps group runs → AllPairs StartsBefore runs
free_records_rise maps group runs are i j d below within =
    let late : j < length runs = within in
    let early : i < length runs = omega (arith, below, within) in
    let spans = are.rising i j (span_of_run d) below (omega (arith, within, length-map runs span_of_run)) in
    let one = get_or-map span_of_run runs i d (span_of_run d) early in
    let other = get_or-map span_of_run runs j d (span_of_run d) late in
    let start_of_one = ap (λ s. s.start) one in
    let start_of_other = ap (λ s. s.start) other in
    let some = (are.each i (span_of_run d) (omega (arith, early, length-map runs span_of_run))).some in
    omega (arith, spans, start_of_one, start_of_other, some)

module _ (maps : FileMaps) (g : GroupState) (number : ℕ) (is : g.number ≡ number) where
  pub list_differs : {X : Type 0} (Are : FileMaps → ℕ → List X → Type 0) (Before : X → X → Type 0) (start : X → Addr) (tree defined : List X) (key : Addr)
      → Are maps number defined → DiffersAt Before start tree defined key → DiffersFrom (Are maps g.number) Before start tree key
  list_differs Are Before start tree defined key are differs = record {
    defined = defined;
    are_defined = subst (λ (n : ℕ). Are maps n defined) (sym is) are;
    differs = differs;
  }

  pub list_is : {X : Type 0} (Are : FileMaps → ℕ → List X → Type 0) (tree defined : List X) → Are maps number defined → tree ≡ defined → Are maps g.number tree
  list_is {X} Are tree defined are same = subst (λ (n : ℕ). Are maps n tree) (sym is) (subst (λ (xs : List X). Are maps number xs) (sym same) are)

  pub sizes_are : (by_start runs : List Run) → AreFreeRecords maps number by_start → AllPairs IsShorter runs
      → ((run : Run) → Contains runs run ↔ Contains by_start run) → AreSizeRecords maps number runs
  sizes_are by_start runs are rising same = record { by_start = by_start; are_free = are; same = same; rising = rising }

module _ (maps : FileMaps) (g : GroupState) (key : Addr) where
  pub first_sizes : IsTreeSound maps g Owners → IsTreeSound maps g Shared → IsTreeSound maps g Free → IsTreeDifference maps g Sizes key
      → IsFirstTree maps g Sizes key
  first_sizes owners shared free differs = record { earlier = before_sizes owners shared free; differs = differs } where
    before_sizes : IsTreeSound maps g Owners → IsTreeSound maps g Shared → IsTreeSound maps g Free → (other : TreeName) → turn_of other < turn_of Sizes
        → IsTreeSound maps g other
    before_sizes owners shared free Owners before = owners
    before_sizes owners shared free Shared before = shared
    before_sizes owners shared free Free before = free
    before_sizes owners shared free Sizes before = absurd (omega (arith, before))

pub all_sound : (maps : FileMaps) (g : GroupState) → IsTreeSound maps g Owners → IsTreeSound maps g Shared → IsTreeSound maps g Free → IsTreeSound maps g Sizes
    → AreTreesSound maps g
all_sound maps g owners shared free sizes Owners = owners
all_sound maps g owners shared free sizes Shared = shared
all_sound maps g owners shared free sizes Free = free
all_sound maps g owners shared free sizes Sizes = sizes

-- the groups that were passed are sound
abbrev pub AreSoundBelow : FileMaps → List GroupState → ℕ → Type 0
AreSoundBelow maps groups n = (k : ℕ) (d : GroupState) → k < n → AreTreesSound maps (get_or groups k d)

-- one group more
pub one_group_more : (groups : List GroupState) (n : ℕ) (group : GroupState) → AreFirstGroups groups n → group.number ≡ n
    → AreFirstGroups (groups ++ group ∷ []) (n + 1)
one_group_more groups n group first is =
    let count = first.count in record {
      count = length_push groups group ∙ ap (λ (m : ℕ). m + 1) count;
      numbers = λ k d less. ⊎_elim
          (λ (earlier : k < n). ap (λ (g : GroupState). g.number) (get_or_append_left groups (group ∷ []) d k (omega (arith, earlier, count))) ∙ first.numbers k d earlier)
          (λ (last : n ≤ k).
          let here : k ≡ n = omega (arith, less, last) in
          ap (λ (g : GroupState). g.number) (get_or_push groups group d k (omega (arith, here, count))) ∙ is ∙ sym here)
          (cases_lt k n);
    }
