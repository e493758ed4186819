-- The operations of a log: what each of them is, its bytes, and the fields of its header.
use Rattle.std.specs.Prelude.{ℕ, ◌==◌, if◌then◌else◌, List, ◌∷◌, ◌++◌, length, drop, slice_index, Option, Some, None}
use Rattle.byteorder.specs.Endian.{big_bytes, big_number}
use Rattle.xr_record.specs.declared.layout.TheConstants.{CLIENT_PLACE, COMMIT, CONTINUE, FLAGS_PLACE, LAST_FLAGS, LOG_CLIENT, MIDDLE_FLAGS, OPERATION_LEN_PLACE, OPERATION_ZEROS_PLACE, START, TRANSACTION_CLIENT, UNMOUNT}
use Rattle.xr_record.specs.declared.operation.Fields.{Fields}
use Rattle.xr_record.specs.declared.operation.Sort.{Sort}
use Rattle.xr_record.specs.declared.operation.Sort.TheVariants.{Start, Whole, First, Middle, Last, Commit, Unmount}

-- who an operation of this sort is from, and what it says of its body
abbrev pub client_of : Sort → ℕ
client_of Unmount = LOG_CLIENT
client_of Start = TRANSACTION_CLIENT
client_of Whole = TRANSACTION_CLIENT
client_of First = TRANSACTION_CLIENT
client_of Middle = TRANSACTION_CLIENT
client_of Last = TRANSACTION_CLIENT
client_of Commit = TRANSACTION_CLIENT

abbrev pub flags_of : Sort → ℕ
flags_of Start = START
flags_of Whole = 0
flags_of First = CONTINUE
flags_of Middle = MIDDLE_FLAGS
flags_of Last = LAST_FLAGS
flags_of Commit = COMMIT
flags_of Unmount = UNMOUNT

-- the sort with this client and these flags
abbrev pub sort_of : ℕ → ℕ → Option Sort
sort_of client flags =
    if client == LOG_CLIENT then (if flags == UNMOUNT then Some Unmount else None)
    else (if flags == START then Some Start else (if flags == 0 then Some Whole else (if flags == CONTINUE then Some First
    else (if flags == MIDDLE_FLAGS then Some Middle else (if flags == LAST_FLAGS then Some Last else (if flags == COMMIT then Some Commit else None))))))

-- an operation's bytes: its header of twelve, and its body
unfoldable pub raw_operation : ℕ → ℕ → ℕ → List ℕ → List ℕ
raw_operation tid client flags body = big_bytes 4 tid ++ (big_bytes 4 (length body) ++ (client ∷ flags ∷ 0 ∷ 0 ∷ body))

pub record Operation : Type 0 where
  pub tid : ℕ
  pub sort : Sort
  pub body : List ℕ

abbrev pub operation_bytes : Operation → List ℕ
operation_bytes o = raw_operation o.tid (client_of o.sort) (flags_of o.sort) o.body

-- what the header at the front of some bytes says
abbrev pub fields : List ℕ → Fields
fields bytes = record {
  tid = big_number 4 bytes;
  len = big_number 4 (drop OPERATION_LEN_PLACE bytes);
  client = slice_index bytes CLIENT_PLACE;
  flags = slice_index bytes FLAGS_PLACE;
  zeros = big_number 2 (drop OPERATION_ZEROS_PLACE bytes);
}
