-- The balance between what the trees hold and the works that the log still owes.
use Rattle.std.specs.Prelude.{◌≡◌, ℕ, ◌+◌, ◌-◌, ◌*◌, ◌<◌, ◌≤◌, ◌==◌, ◌&&◌, ◌||◌, Bool, false, IsTrue, nat_lt, if◌then◌else◌, List, filter, map, All, AllPairs}
use Rattle.xr_base.specs.Address.{IsData, address_of, group_number}
use Rattle.xr_maps.specs.FileMaps.{FileMaps, AreGoodMaps}
use Rattle.xr_maps.specs.Steps.{is_within}
use Rattle.xr_items.specs.declared.work.Work.{Work}
use Rattle.xr_items.specs.declared.work.Work.TheVariants.{Swap}
use Rattle.xr_items.specs.Valid.{IsWork}
use Rattle.xr_maps.specs.Holdings.{holds, is_mapped, one_if, owners}
use Rattle.xr_balance.specs.Chains.{IsChain}
use Rattle.xr_balance.specs.Works.{Debt, IsLane, exchanging_at, freed, lowered, mapping, mapping_at, naming, naming_file, pairing, pairing_at, raised, staging, staging_pair, staging_unpair, total, unmapping, unmapping_at, unpairing, unpairing_at, unstaging}

-- what one reads from the committed blocks of files and groups
pub record Committed : Type 0 where
  -- so many groups are there
  pub groups : ℕ
  pub maps : FileMaps
  -- the reverse tree has the pair of the file, the offset and the block
  pub has_pair : ℕ → ℕ → ℕ → Bool
  -- the reverse tree has the block as a staging block
  pub has_staging_pair : ℕ → Bool
  -- the count of the block's shared record, and 1 where it has none
  pub counted : ℕ → ℕ
  -- the reference tree has the block as a staging block
  pub is_staged : ℕ → Bool
  pub is_free : ℕ → Bool

-- a data block of one of the groups that are there
abbrev pub IsDataOf : Committed → ℕ → Type 0
IsDataOf C b = IsData (address_of b) × (group_number (address_of b) < C.groups)

-- the block's number of owners, as the trees tell it once it is known to be given back
abbrev pub count_of : Committed → List Debt → ℕ → ℕ
count_of C P b = if C.is_free b || nat_lt 0 (total (freed b) P) then 0 else C.counted b

-- how often an exchange takes the block from the file's offset, where the maps B stand before it, and puts it there
abbrev pub taking : FileMaps → ℕ → ℕ → ℕ → Work → ℕ
taking B f o b (Swap file off other other_off len) =
    (if file.0 == f && is_within off len o then holds B f o b else 0) + (if other.0 == f && is_within other_off len o then holds B f o b else 0)
taking B f o b _ = 0

abbrev pub bringing : FileMaps → ℕ → ℕ → ℕ → Work → ℕ
bringing B f o b (Swap file off other other_off len) =
    (if file.0 == f && is_within off len o then holds B other.0 (other_off + (o - off)) b else 0)
    + (if other.0 == f && is_within other_off len o then holds B file.0 (off + (o - other_off)) b else 0)
bringing B f o b _ = 0

-- B is the files' maps once the pending unmaps and maps are done, and M is B once the pending exchanges are done
pub record MapsSettle (C : Committed) (P : List Debt) (B M : FileMaps) : Type 0 where
  pub base : (f o b : ℕ) → holds C.maps f o b + total (mapping f o b) P ≡ holds B f o b + total (unmapping f o b) P
  pub exchanged : (f o b : ℕ) → holds M f o b + total (taking B f o b) P ≡ holds B f o b + total (bringing B f o b) P

-- Q is what is staged once the pending stagings and unstagings are done
pub record StagingSettles (C : Committed) (P : List Debt) (M : FileMaps) (Q : ℕ → Bool) : Type 0 where
  pub staged : (b : ℕ) → one_if (C.is_staged b) + total (staging b) P ≡ one_if (Q b) + total (unstaging b) P
  pub data_only : (b : ℕ) → IsTrue (Q b) → IsDataOf C b
  pub unowned : (b : ℕ) → IsTrue (Q b) → owners M b ≡ 0

-- the reverse pairs are the owners of B and the blocks of Q once the pending ones are done
pub record PairsSettle (C : Committed) (P : List Debt) (B : FileMaps) (Q : ℕ → Bool) : Type 0 where
  pub owners : (f o b : ℕ) → one_if (C.has_pair f o b) + total (pairing f o b) P ≡ holds B f o b + total (unpairing f o b) P
  pub staging_pairs : (b : ℕ) → one_if (C.has_staging_pair b) + total (staging_pair b) P ≡ one_if (Q b) + total (staging_unpair b) P

-- the counts are the numbers of owners once the pending ones are done
abbrev pub CountsSettle : Committed → List Debt → FileMaps → (ℕ → Bool) → Type 0
CountsSettle C P M Q = (b : ℕ) → IsDataOf C b →
    count_of C P b + total (raised b) P ≡ owners M b + one_if (Q b) + total (lowered b) P

-- each pending work finds what it needs
pub record AreDue (C : Committed) (P : List Debt) : Type 0 where
  pub unmaps : (f o b : ℕ) → total (unmapping f o b) P ≤ holds C.maps f o b
  pub maps : (f o : ℕ) → is_mapped C.maps f o + total (mapping_at f o) P ≤ 1 + total (unmapping_at f o) P
  pub removals : (f o b : ℕ) → total (unpairing f o b) P ≤ one_if (C.has_pair f o b)
  pub additions : (f o b : ℕ) → one_if (C.has_pair f o b) + total (pairing f o b) P ≤ 1
  pub staging_removals : (b : ℕ) → total (staging_unpair b) P ≤ one_if (C.has_staging_pair b)
  pub staging_additions : (b : ℕ) → one_if (C.has_staging_pair b) + total (staging_pair b) P ≤ 1
  pub stagings : (b : ℕ) → 0 < total (staging b) P → C.counted b ≡ 1
  pub unstagings : (b : ℕ) → total (unstaging b) P ≤ one_if (C.is_staged b)

-- blocks are counted, owned and named where the groups are, and no block is named where its state forbids it
pub record BlocksAgree (C : Committed) (P : List Debt) (M : FileMaps) (Q : ℕ → Bool) : Type 0 where
  pub counted_some : (b : ℕ) → 1 ≤ C.counted b
  pub owned_data : (b : ℕ) → 0 < owners M b → IsDataOf C b
  pub named_groups : (b : ℕ) → 0 < total (naming b) P → group_number (address_of b) < C.groups
  pub counted_unstaged : (b : ℕ) → 0 < total (raised b) P + total (lowered b) P → (C.is_staged b ≡ false) × (Q b ≡ false)
  pub free_unnamed : (b : ℕ) → IsTrue (C.is_free b) → total (naming b) P ≡ 0
  pub free_unshared : (b : ℕ) → IsTrue (C.is_free b) → C.counted b ≡ 1
  pub freed_unshared : (b : ℕ) → 0 < total (freed b) P → C.counted b ≡ 1
  pub freed_once : (b : ℕ) → total (freed b) P ≤ 1
  pub staged_once : (b : ℕ) → one_if (C.is_staged b) + total (staging b) P ≤ 1
  pub two_owners : (b : ℕ) → 2 * total (raised b) P ≤ owners M b

-- no offset is named by two works of a kind, nor by an exchange and another
pub record OffsetsApart (P : List Debt) : Type 0 where
  pub unmaps : (f o : ℕ) → total (unmapping_at f o) P + total (exchanging_at f o) P ≤ 1
  pub maps : (f o : ℕ) → total (mapping_at f o) P + total (exchanging_at f o) P ≤ 1
  pub removals : (f o : ℕ) → total (unpairing_at f o) P + total (exchanging_at f o) P ≤ 1
  pub additions : (f o : ℕ) → total (pairing_at f o) P + total (exchanging_at f o) P ≤ 1

-- how an earlier pending work and a later one agree: works on one file stand in one lane, and what names a block that is to
-- be given stands before that work in its lane
pub record Agree (d e : Debt) : Type 0 where
  pub file : (f : ℕ) → 0 < naming_file f d.work → 0 < naming_file f e.work → d.lane ≡ e.lane
  pub before : (b : ℕ) → 0 < naming b d.work → 0 < freed b e.work → d.lane ≡ e.lane
  pub after : (b : ℕ) → 0 < freed b d.work → naming b e.work ≡ 0

-- the pending works of a lane
abbrev pub chain_of : List Debt → ℕ → List Debt
chain_of P lane = filter (λ d. d.lane == lane) P

pub record IsPartedByLane (P : List Debt) : Type 0 where
  pub lanes : All (λ d. IsLane d.lane) P
  pub agree : AllPairs Agree P
  pub chains : (lane : ℕ) → IsChain (map (λ d. d.work) (chain_of P lane))

-- The trees and the pending works stand for the maps M, with the blocks of Q staged
pub record IsSettled (C : Committed) (P : List Debt) (M : FileMaps) (Q : ℕ → Bool) : Type 0 where
  pub base : FileMaps
  pub good_base : AreGoodMaps base
  pub good_maps : AreGoodMaps M
  pub maps : MapsSettle C P base M
  pub staging : StagingSettles C P M Q
  pub pairs : PairsSettle C P base Q
  pub counts : CountsSettle C P M Q
  pub due : AreDue C P
  pub blocks : BlocksAgree C P M Q
  pub offsets : OffsetsApart P
  pub valid : All (λ d. IsWork d.work) P
  pub parted : IsPartedByLane P
