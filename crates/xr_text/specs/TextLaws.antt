-- The line of a record isn't empty.
use Rattle.std.proofs.Common.{ℕ, ◌<◌, ◌==◌, Bool, true, false, if◌then◌else◌, List, length, arith}
use Rattle.xr_base.specs.declared.address.Run.{Run}
use Rattle.xr_base.specs.declared.geometry.TheConstants.{OWN_COW}
use Rattle.xr_maps.specs.declared.records.Counted.{Counted}
use Rattle.xr_maps.specs.declared.records.Rev.{Rev}
use Rattle.xr_text.specs.RecordText.{counted_line, free_line, owned_line, owner_line, shared_line, staged_line, staged_owner_line}

some_of_two : (b : Bool) (xs ys : List ℕ) → 0 < length xs → 0 < length ys → 0 < length (if b then xs else ys)
some_of_two true xs ys one two = one
some_of_two false xs ys one two = two

pub owner_line_some : (r : Rev) → 0 < length (owner_line r)
owner_line_some r = some_of_two (r.owner == OWN_COW) (staged_owner_line r) (owned_line r) (omega arith) (omega arith)

pub shared_line_some : (r : Counted) → 0 < length (shared_line r)
shared_line_some r = some_of_two r.staged (staged_line r) (counted_line r) (omega arith) (omega arith)

pub free_line_some : (r : Run) → 0 < length (free_line r)
free_line_some r = omega arith
