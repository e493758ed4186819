-- The blocks and the pending works stand for one list of maps and one set of staged blocks, whatever the lanes' tags, and what
-- the blocks tell of files and free blocks is so in these.
use Rattle.std.specs.Prelude.{◌≡◌, ℕ, Bool, false, IsTrue, List, map}
use Rattle.xr_maps.specs.FileMaps.{FileMaps, address_at}
use Rattle.xr_maps.specs.Holdings.{owners}
use Rattle.xr_balance.specs.Settled.{Committed, IsDataOf, IsSettled}
use Rattle.xr_balance.specs.Works.{Debt, naming_file, total}

abbrev pub MapsAreDetermined : Type 0
MapsAreDetermined = (C : Committed) (P R : List Debt) (M N : FileMaps) (Q S : ℕ → Bool) → map (λ d. d.work) P ≡ map (λ d. d.work) R
    → IsSettled C P M Q → IsSettled C R N S → (M ≡ N) × ((b : ℕ) → Q b ≡ S b)

-- a file that no pending work names has in the trees what it maps
abbrev pub UnnamedFilesAgree : Type 0
UnnamedFilesAgree = (C : Committed) (P : List Debt) (M : FileMaps) (Q : ℕ → Bool) (f : ℕ) → IsSettled C P M Q → total (naming_file f) P ≡ 0
    → (o : ℕ) → address_at C.maps f o ≡ address_at M f o

-- a free data block has no owner, and is staged for no lane
abbrev pub FreeIsNobodys : Type 0
FreeIsNobodys = (C : Committed) (P : List Debt) (M : FileMaps) (Q : ℕ → Bool) (b : ℕ) → IsSettled C P M Q → IsDataOf C b → IsTrue (C.is_free b)
    → (owners M b ≡ 0) × (Q b ≡ false)
