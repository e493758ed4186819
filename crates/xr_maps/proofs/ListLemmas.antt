-- Lists in general.
use Rattle.std.proofs.Common.{◌≡◌, ℕ, List, ◌++◌, length, take, drop}
use Rattle.std.proofs.lemmas.List.{take_at}

-- what a call leaves in a vector through a slice of all of it
pub written_back : {X : Type 0} (old new : List X) (n : ℕ) → length new ≡ n → take n (new ++ drop (length new) old) ≡ new
written_back old new n same = take_at new (drop (length new) old) n same
