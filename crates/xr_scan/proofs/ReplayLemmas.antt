-- Replaying items after others, and what a block's own bytes matter.
use Rattle.std.proofs.Common.{◌≡◌, ◌||◌, Bool, true, false, [], ◌∷◌, if◌then◌else◌, refl, sym}
use Rattle.std.proofs.lemmas.Bool.{false≢true}
use Rattle.xr_base.specs.declared.geometry.TheConstants.{BLOCK_BYTES}
use Rattle.xr_headers.specs.Padded.{zero_padded}
use Rattle.xr_scan.specs.ReplayLaws.{LoggedIsWhole, UnloggedStays}
use Rattle.xr_scan.specs.Replayed.{is_logged, logs_block, replayed}

pub unlogged_stays : UnloggedStays
unlogged_stays block bytes [] none = refl
unlogged_stays block bytes (l ∷ ls) none = step (logs_block block l.item) none (unlogged_stays block bytes ls) where
  step : (b : Bool) → (b || is_logged block ls) ≡ false → (is_logged block ls ≡ false → replayed block bytes ls ≡ bytes)
      → replayed block (if b then zero_padded BLOCK_BYTES l.bytes else bytes) ls ≡ bytes
  step true e rest = absurd (false≢true (sym e))
  step false e rest = rest e

pub logged_is_whole : LoggedIsWhole
logged_is_whole block bytes others [] some = absurd (false≢true some)
logged_is_whole block bytes others (l ∷ ls) some = step (logs_block block l.item) some (logged_is_whole block bytes others ls) where
  step : (b : Bool) → (b || is_logged block ls) ≡ true → (is_logged block ls ≡ true → replayed block bytes ls ≡ replayed block others ls)
      → replayed block (if b then zero_padded BLOCK_BYTES l.bytes else bytes) ls ≡ replayed block (if b then zero_padded BLOCK_BYTES l.bytes else others) ls
  step true e rest = refl
  step false e rest = rest e
