-- What a roll of each kind of work does to the committed blocks, in the words of the trees' calls, and the works that it leaves.
use Rattle.std.specs.Prelude.{◌≡◌, ◌≢◌, ℕ, ◌+◌, ◌-◌, ◌<◌, ◌≤◌, ◌==◌, ◌||◌, if◌then◌else◌, List, [], ◌∷◌}
use Rattle.xr_base.specs.declared.address.FileNo.{FileNo}
use Rattle.xr_base.specs.declared.address.Run.{Run}
use Rattle.xr_maps.specs.Steps.{is_within}
use Rattle.xr_items.specs.declared.work.Work.{Work}
use Rattle.xr_items.specs.declared.work.Work.TheVariants.{Free, Own, Count, Map, Swap}
use Rattle.xr_items.specs.declared.work.CountKind.{CountKind}
use Rattle.xr_items.specs.declared.work.CountKind.TheVariants.{Increase, Decrease}
use Rattle.xr_maps.specs.Holdings.{holds, in_run, is_mapped, one_if}
use Rattle.xr_balance.specs.Pieces.{GivesPiece}
use Rattle.xr_balance.specs.Rolls.{run_back, run_front, works_of_freed}
use Rattle.xr_balance.specs.Settled.{Committed}
use Rattle.xr_balance.specs.Works.{mapping, mapping_at, pairing, staging, staging_pair, staging_unpair, unmapping, unmapping_at, unpairing, unstaging}

-- the first n blocks of the run have one count, and the next one has another
pub record IsEqualPart (C : Committed) (run : Run) (n count : ℕ) : Type 0 where
  pub some : 0 < n
  pub fits : n ≤ run.len
  pub same : (b : ℕ) → in_run b (run_front run n) ≡ 1 → C.counted b ≡ count
  pub longest : n < run.len → C.counted (run.start.0 + n) ≢ count

abbrev pub works_of_rest : CountKind → Run → ℕ → List Work
works_of_rest kind run n = if n == run.len then [] else Count kind (run_back run n) ∷ []

-- the blocks have what the work takes no more, and what it adds
pub record Moves (C : Committed) (w : Work) (C' : Committed) : Type 0 where
  pub groups : C'.groups ≡ C.groups
  pub maps : (f o b : ℕ) → holds C'.maps f o b + unmapping f o b w ≡ holds C.maps f o b + mapping f o b w
  pub mapped : (f o : ℕ) → is_mapped C'.maps f o + unmapping_at f o w ≡ is_mapped C.maps f o + mapping_at f o w
  pub pairs : (f o b : ℕ) → one_if (C'.has_pair f o b) + unpairing f o b w ≡ one_if (C.has_pair f o b) + pairing f o b w
  pub staging_pairs : (b : ℕ) → one_if (C'.has_staging_pair b) + staging_unpair b w ≡ one_if (C.has_staging_pair b) + staging_pair b w
  pub staged : (b : ℕ) → one_if (C'.is_staged b) + unstaging b w ≡ one_if (C.is_staged b) + staging b w

-- the files' maps, the owners and what is staged stay
pub record KeepsCommitted (C C' : Committed) : Type 0 where
  pub groups : C'.groups ≡ C.groups
  pub maps : C'.maps ≡ C.maps
  pub pairs : (f o b : ℕ) → C'.has_pair f o b ≡ C.has_pair f o b
  pub staging_pairs : (b : ℕ) → C'.has_staging_pair b ≡ C.has_staging_pair b
  pub staged : (b : ℕ) → C'.is_staged b ≡ C.is_staged b

-- a roll that leaves counts and free blocks as they are, and no work
pub record RollsPlain (C : Committed) (w : Work) (C' : Committed) (new : List Work) : Type 0 where
  pub moves : Moves C w C'
  pub counted : (b : ℕ) → C'.counted b ≡ C.counted b
  pub free : (b : ℕ) → C'.is_free b ≡ C.is_free b
  pub new_is : new ≡ []

pub record RollsRaise (C : Committed) (run : Run) (C' : Committed) (new : List Work) : Type 0 where
  pub len : ℕ
  pub count : ℕ
  pub part : IsEqualPart C run len count
  pub keeps : KeepsCommitted C C'
  pub free : (b : ℕ) → C'.is_free b ≡ C.is_free b
  pub counted : (b : ℕ) → C'.counted b ≡ C.counted b + in_run b (run_front run len)
  pub new_is : new ≡ works_of_rest Increase run len

pub record RollsLower (C : Committed) (run : Run) (C' : Committed) (new : List Work) : Type 0 where
  pub len : ℕ
  pub count : ℕ
  pub part : IsEqualPart C run len count
  pub some : 0 < count
  pub keeps : KeepsCommitted C C'
  pub free : (b : ℕ) → C'.is_free b ≡ C.is_free b
  -- a count of one is no record: where its owner goes the blocks are to be given
  pub counted : (b : ℕ) → C'.counted b ≡ (if count == 1 then C.counted b else C.counted b - in_run b (run_front run len))
  pub new_is : new ≡ (if count == 1 then works_of_freed run len else works_of_rest Decrease run len)

pub record RollsFree (C : Committed) (run : Run) (C' : Committed) (new : List Work) : Type 0 where
  pub keeps : KeepsCommitted C C'
  pub counted : (b : ℕ) → C'.counted b ≡ C.counted b
  pub free : (b : ℕ) → C'.is_free b ≡ (C.is_free b || is_within run.start.0 run.len b)
  pub new_is : new ≡ []

-- an exchange changes no block, and leaves the works of a piece and of the rest
pub record RollsSwap (C : Committed) (file : FileNo) (off : ℕ) (other : FileNo) (other_off len : ℕ) (C' : Committed) (new : List Work) : Type 0 where
  pub keeps : KeepsCommitted C C'
  pub counted : (b : ℕ) → C'.counted b ≡ C.counted b
  pub free : (b : ℕ) → C'.is_free b ≡ C.is_free b
  pub piece : GivesPiece C.maps file off other other_off len new

-- a roll of each kind of work
abbrev pub RollGives : Committed → Work → Committed → List Work → Type 0
RollGives C (Map kind file off run) C' new = RollsPlain C (Map kind file off run) C' new
RollGives C (Own kind owner off run) C' new = RollsPlain C (Own kind owner off run) C' new
RollGives C (Count Increase run) C' new = RollsRaise C run C' new
RollGives C (Count Decrease run) C' new = RollsLower C run C' new
RollGives C (Count kind run) C' new = RollsPlain C (Count kind run) C' new
RollGives C (Free run) C' new = RollsFree C run C' new
RollGives C (Swap file off other other_off len) C' new = RollsSwap C file off other other_off len C' new
