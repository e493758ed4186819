-- A fresh image is settled.
use Rattle.std.specs.Prelude.{◌≡◌, ℕ, false, IsTrue, []}
use Rattle.xr_maps.specs.FileMaps.{no_maps}
use Rattle.xr_balance.specs.Settled.{Committed, IsDataOf, IsSettled}

-- no file maps anything, no owner and no staged block is there, no count is kept, and each data block is free
pub record IsFresh (C : Committed) : Type 0 where
  pub maps : C.maps ≡ no_maps
  pub pairs : (f o b : ℕ) → C.has_pair f o b ≡ false
  pub staging_pairs : (b : ℕ) → C.has_staging_pair b ≡ false
  pub staged : (b : ℕ) → C.is_staged b ≡ false
  pub counted : (b : ℕ) → C.counted b ≡ 1
  pub free : (b : ℕ) → IsDataOf C b → IsTrue (C.is_free b)

abbrev pub FreshIsSettled : Type 0
FreshIsSettled = (C : Committed) → IsFresh C → IsSettled C [] no_maps (λ b. false)
