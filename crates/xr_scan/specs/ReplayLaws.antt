-- What is logged after other items is laid over what those make, and a block that is logged no longer depends on its old bytes.
use Rattle.std.specs.Prelude.{◌≡◌, ℕ, true, false, List, ◌++◌}
use Rattle.xr_commit.specs.LoggedItems.{Logged}
use Rattle.xr_scan.specs.Replayed.{is_logged, replayed}

abbrev pub ReplayGoesOn : Type 0
ReplayGoesOn = (block : ℕ) (bytes : List ℕ) (ls ms : List Logged) → replayed block bytes (ls ++ ms) ≡ replayed block (replayed block bytes ls) ms

-- what isn't logged stays as it is, and what is logged doesn't depend on what was there
abbrev pub UnloggedStays : Type 0
UnloggedStays = (block : ℕ) (bytes : List ℕ) (ls : List Logged) → is_logged block ls ≡ false → replayed block bytes ls ≡ bytes

abbrev pub LoggedIsWhole : Type 0
LoggedIsWhole = (block : ℕ) (bytes others : List ℕ) (ls : List Logged) → is_logged block ls ≡ true → replayed block bytes ls ≡ replayed block others ls
