-- What a crash leaves: an image, and the writes that no sync had covered when the machine stopped.
use Rattle.std.specs.Prelude.{◌≡◌, ℕ, ◌+◌, ◌*◌, ◌%◌, ◌<◌, ◌≤◌, List, [], ◌∷◌, length, take, drop}
use Rattle.xr_base.specs.declared.geometry.TheConstants.{SECTOR_BYTES, SECTORS}
use Rattle.xr_base.specs.Image.{part}

-- n bytes from sector `at` on are whole sectors of an image
pub record IsSectorRange (at n : ℕ) : Type 0 where
  pub some : 0 < n
  pub whole : n % SECTOR_BYTES ≡ 0
  pub within : SECTOR_BYTES * at + n ≤ SECTOR_BYTES * SECTORS

-- A write in flight: its place in bytes, what was to be written there, and what stood there before it.
pub record Write : Type 0 where
  pub at : ℕ
  pub bytes : List ℕ
  pub before : List ℕ

-- the image that is left, and the writes that were in flight, the newest first
pub record Crash : Type 0 where
  pub image : List ℕ
  pub in_flight : List Write

-- a crash with no write in flight
abbrev pub at_rest : List ℕ → Crash
at_rest image = record { image = image; in_flight = [] }

-- two images differ in n bytes from a place on alone
pub record SameOutside (at n : ℕ) (old new : List ℕ) : Type 0 where
  pub below : take at new ≡ take at old
  pub above : drop (at + n) new ≡ drop (at + n) old
  pub long : length new ≡ length old

-- A crash with one more write in flight, which left any bytes in its range.
pub record Torn (at : ℕ) (bytes : List ℕ) (old new : Crash) : Type 0 where
  pub outside : SameOutside at (length bytes) old.image new.image
  pub in_flight : new.in_flight ≡ record { at = at; bytes = bytes; before = part at (length bytes) old.image } ∷ old.in_flight
