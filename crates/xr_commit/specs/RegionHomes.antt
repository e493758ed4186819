-- The record in which a region of the stream begins.
use Rattle.std.specs.Prelude.{◌==◌, ◌&&◌, ◌||◌, ℕ, ◌+◌, ◌-◌, Bool, not, nat_lt, if◌then◌else◌, Option, Some, None, List, [], ◌∷◌, length}
use Rattle.xr_record.specs.declared.entry.Entry.{Entry}
use Rattle.xr_record.specs.declared.entry.Entry.TheVariants.{Trans, Unmount}
use Rattle.xr_record.specs.declared.layout.TheConstants.{CONTINUE, START, TRANSACTION_CLIENT}
use Rattle.xr_record.specs.declared.operation.Fields.{Fields}
use Rattle.xr_commit.specs.LogRecords.{LogRecord, home_of}
use Rattle.xr_commit.specs.Operations.{headers_of}

-- The regions of a stream are counted from its beginning. Each begins with an operation that is no later part of a region
-- and no transaction's header, which is the one after a START.
abbrev pub is_start : Fields → Bool
is_start f = f.client == TRANSACTION_CLIENT && f.flags == START

abbrev pub begins_region : Bool → Fields → Bool
begins_region started f = f.client == TRANSACTION_CLIENT && (f.flags == 0 || f.flags == CONTINUE) && not started

abbrev pub regions_begun : Bool → List Fields → ℕ
regions_begun started [] = 0
regions_begun started (f ∷ fs) = (if begins_region started f then 1 else 0) + regions_begun (is_start f) fs

abbrev pub started_after : Bool → List Fields → Bool
started_after started [] = started
started_after started (f ∷ fs) = started_after (is_start f) fs

-- the block of the record in which a region begins
abbrev pub home_of_region : Bool → List LogRecord → ℕ → Option ℕ
home_of_region started [] n = None
home_of_region started (r ∷ rs) n =
    let headers : List Fields = headers_of r.body in
    if nat_lt n (regions_begun started headers) then Some (home_of r.head)
    else home_of_region (started_after started headers) rs (n - regions_begun started headers)

abbrev pub regions_in : List Entry → ℕ
regions_in [] = 0
regions_in (Unmount ∷ entries) = regions_in entries
regions_in (Trans tid regions ∷ entries) = length regions + regions_in entries
