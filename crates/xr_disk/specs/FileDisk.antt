-- What is known of a disk over a file: its clock and its count of faults, and nothing of what it holds.
use Rattle.std.specs.Prelude.{◌≡◌, ℕ, Some, None, List}
use Rattle.xr_disk.specs.Crash.{Crash}
use Rattle.xr_disk.specs.Disk.{DiskView}

abbrev pub untold : ℕ → ℕ → DiskView
untold moment faults = record {
  seen = None;
  moment = moment;
  faults = faults;
  may_leave = λ _. ⊥;
  left_since = λ _ _. ⊥;
}

-- so whatever would follow from what reads give follows
pub nothing_seen : (moment faults : ℕ) (s : List ℕ) → (untold moment faults).seen ≡ Some s
    → (c : Crash) × (c.image ≡ s) × (untold moment faults).may_leave c
nothing_seen moment faults s seen = absurd (cc)
