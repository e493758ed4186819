-- The premise on torn records holds of a disk at rest, of one write that was wholly done or not done at all, and where no write
-- was in flight to the log.
use Rattle.std.specs.Prelude.{ℕ, ◌≡◌, ◌⊎◌, ◌+◌, ◌*◌, ◌≤◌, List, [], ◌∷◌, length, Contains}
use Rattle.xr_base.specs.Image.{overlaid, part}
use Rattle.xr_base.specs.declared.geometry.TheConstants.{BLOCK_BYTES, FIRST_LOG_BLOCK, SECTOR_BYTES, SECTORS}
use Rattle.xr_disk.specs.Crash.{Crash, Write, at_rest}
use Rattle.xr_commit.specs.declared.layout.TheConstants.{LOG_BYTES}
use Rattle.xr_scan.specs.FalseRecords.{HasNoFalseRecord}

abbrev pub RestIsSound : Type 0
RestIsSound = (image : List ℕ) → HasNoFalseRecord (at_rest image)

-- a write over an image
abbrev pub write_over : ℕ → List ℕ → List ℕ → Write
write_over at bytes image = record { at = at; bytes = bytes; before = part at (length bytes) image }

abbrev pub DoneIsSound : Type 0
DoneIsSound = (at : ℕ) (bytes image : List ℕ) → at + length bytes ≤ length image
    → HasNoFalseRecord (record { image = overlaid at bytes image; in_flight = write_over at bytes image ∷ [] })

abbrev pub UndoneIsSound : Type 0
UndoneIsSound = (at : ℕ) (bytes image : List ℕ) → at + length bytes ≤ length image
    → HasNoFalseRecord (record { image = image; in_flight = write_over at bytes image ∷ [] })

-- the write has no byte in the log
abbrev pub IsOffLog : Write → Type 0
IsOffLog w = (w.at + length w.bytes ≤ BLOCK_BYTES * FIRST_LOG_BLOCK) ⊎ (BLOCK_BYTES * FIRST_LOG_BLOCK + LOG_BYTES ≤ w.at)

abbrev pub OffLogIsSound : Type 0
OffLogIsSound = (c : Crash) → length c.image ≡ SECTOR_BYTES * SECTORS → ((w : Write) → Contains c.in_flight w → IsOffLog w) → HasNoFalseRecord c
