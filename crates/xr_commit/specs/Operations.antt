-- The operations of a record's body, by their headers alone.
use Rattle.std.specs.Prelude.{◌≡◌, ℕ, zero, suc, ◌+◌, ◌/◌, ◌%◌, Bool, ◌&&◌, ◌==◌, nat_lt, if◌then◌else◌, List, [], ◌∷◌, length, sum_by, drop, IsTrue}
use Rattle.std.specs.List.{list_any}
use Rattle.xr_record.specs.declared.layout.TheConstants.{LOG_CLIENT, OPERATION_BYTES, UNMOUNT}
use Rattle.xr_record.specs.declared.operation.Fields.{Fields}
use Rattle.xr_record.specs.Operations.{fields}
use Rattle.xr_commit.specs.LogRecords.{LogRecord}

-- The headers that stand whole in some bytes, where each operation begins at the end of the one before. At most so many.
abbrev pub headers_in : ℕ → List ℕ → List Fields
headers_in zero bytes = []
headers_in (suc most) bytes =
    if nat_lt (length bytes) OPERATION_BYTES then []
    else (fields bytes ∷ headers_in most (drop (OPERATION_BYTES + (fields bytes).len) bytes))

-- a body has no more operations than bytes
abbrev pub headers_of : List ℕ → List Fields
headers_of body = headers_in (length body) body

abbrev pub operation_len : Fields → ℕ
operation_len f = OPERATION_BYTES + f.len

-- the log's own operation with the flag of an unmount, however wrong the rest of it is
abbrev pub is_unmount : Fields → Bool
is_unmount f = f.client == LOG_CLIENT && (f.flags / UNMOUNT) % 2 == 1

abbrev pub HoldsUnmount : List ℕ → Type 0
HoldsUnmount body = IsTrue (list_any is_unmount (headers_of body))

-- a record that holds an unmount has no other operation, and is its own tail
pub record StandsAlone (r : LogRecord) : Type 0 where
  pub one : length (headers_of r.body) ≡ 1
  pub own_tail : r.head.tail ≡ r.head.lsn

abbrev pub KeepsUnmounts : LogRecord → Type 0
KeepsUnmounts r = HoldsUnmount r.body → StandsAlone r

-- the body is whole operations, as many as the header says
pub record HoldsOperations (r : LogRecord) : Type 0 where
  pub whole : sum_by operation_len (headers_of r.body) ≡ length r.body
  pub number : length (headers_of r.body) ≡ r.head.ops
