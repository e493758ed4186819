-- The stream of operations, from the transactions that were written to its bytes.
use Rattle.std.specs.Prelude.{◌≡◌, ◌==◌, ◌<◌, ◌≤◌, ◌-◌, ◌^◌, ℕ, zero, suc, Bool, true, List, [], ◌∷◌, ◌++◌, length, map, max, nat_lt, if◌then◌else◌, drop}
use Rattle.std.specs.List.{AllByRecursion, flat_map}
use Rattle.byteorder.specs.Endian.{little_bytes, little_number}
use Rattle.xr_record.specs.declared.entry.Entry.{Entry}
use Rattle.xr_record.specs.declared.entry.Entry.TheVariants as seen
use Rattle.xr_record.specs.declared.layout.TheConstants.{MOST_REGION_BYTES, TRANSACTION_MAGIC, TRANSACTION_TYPE}
use Rattle.xr_record.specs.declared.operation.Sort.TheVariants.{Start, Whole, First, Middle, Last, Commit, Unmount}
use Rattle.xr_record.specs.Operations.{Operation, operation_bytes}

-- the later parts of a region that is cut, where all but the last one say that it goes on
abbrev pub later_parts : ℕ → List ℕ → List (List ℕ) → List Operation
later_parts tid part [] = record { tid = tid; sort = Last; body = part } ∷ []
later_parts tid part (next ∷ parts) = record { tid = tid; sort = Middle; body = part } ∷ later_parts tid next parts

-- the operations of a region: one, or one for each of its parts
abbrev pub region : ℕ → List (List ℕ) → List Operation
region tid [] = []
region tid (part ∷ []) = record { tid = tid; sort = Whole; body = part } ∷ []
region tid (part ∷ next ∷ parts) = record { tid = tid; sort = First; body = part } ∷ later_parts tid next parts

abbrev pub start : ℕ → Operation
start tid = record { tid = tid; sort = Start; body = [] }

-- the transaction's number again, and how many regions follow
abbrev pub header_body : ℕ → ℕ → List ℕ
header_body tid count = little_bytes 4 TRANSACTION_MAGIC ++ little_bytes 4 TRANSACTION_TYPE ++ little_bytes 4 tid ++ little_bytes 4 count

abbrev pub transaction_header : ℕ → ℕ → Operation
transaction_header tid count = record { tid = tid; sort = Whole; body = header_body tid count }

abbrev pub commit : ℕ → Operation
commit tid = record { tid = tid; sort = Commit; body = [] }

abbrev pub unmount_body : List ℕ
unmount_body = 110 ∷ 85 ∷ 0 ∷ 0 ∷ 0 ∷ 0 ∷ 0 ∷ 0 ∷ []

abbrev pub unmount : Operation
unmount = record { tid = 0; sort = Unmount; body = unmount_body }

-- a transaction as it was written, each region in its parts
pub record Written : Type 0 where
  pub tid : ℕ
  pub count : ℕ
  pub regions : List (List (List ℕ))

pub data Piece : Type 0 where
  Transaction : Written → Piece
  Unmounting : Piece

-- its operations up to the last whole region
abbrev pub transaction_front : Written → List Operation
transaction_front t = start t.tid ∷ transaction_header t.tid t.count ∷ flat_map (region t.tid) t.regions

abbrev pub operations : Piece → List Operation
operations (Transaction t) = transaction_front t ++ commit t.tid ∷ []
operations Unmounting = unmount ∷ []

-- what stands after the last whole piece: nothing, a START, some regions, or also the first parts of a region
pub data Open : Type 0 where
  Between : Open
  Begun : (tid : ℕ) → Open
  Inside : (t : Written) → Open
  Cut : (t : Written) → (part : List ℕ) → (parts : List (List ℕ)) → Open

abbrev pub middle_part : ℕ → List ℕ → Operation
middle_part tid part = record { tid = tid; sort = Middle; body = part }

abbrev pub begun : Open → List Operation
begun Between = []
begun (Begun tid) = start tid ∷ []
begun (Inside t) = transaction_front t
begun (Cut t part parts) = transaction_front t ++ record { tid = t.tid; sort = First; body = part } ∷ map (middle_part t.tid) parts

-- the parts of a region, joined
abbrev pub joined : List (List ℕ) → List ℕ
joined parts = flat_map (λ part. part) parts

abbrev pub entry : Piece → Entry
entry (Transaction t) = seen.Trans t.tid (map joined t.regions)
entry Unmounting = seen.Unmount

-- Items

-- how many regions the item takes whose first region this is
abbrev pub item_len : List ℕ → ℕ
item_len region = if nat_lt (length region) 4 then 1 else max 1 (little_number 2 (drop 2 region))

-- the regions part into items, where some regions are left of the one that they begin in
abbrev pub items_from : ℕ → List (List ℕ) → Bool
items_from left [] = left == 0
items_from zero (region ∷ regions) = items_from (item_len region - 1) regions
items_from (suc left) (region ∷ regions) = items_from left regions

abbrev pub are_items : List (List ℕ) → Bool
are_items regions = items_from 0 regions

-- What may be written

abbrev pub HasBytes : List ℕ → Type 0
HasBytes part = 0 < length part

-- a region has a part, no part is empty, and they aren't too long together
pub record AreParts (parts : List (List ℕ)) : Type 0 where
  pub some : 0 < length parts
  pub each : AllByRecursion HasBytes parts
  pub most : length (joined parts) ≤ MOST_REGION_BYTES

pub record IsTransactionFront (t : Written) : Type 0 where
  pub tid : t.tid < 2 ^ 32
  pub count : t.count < 2 ^ 32
  pub regions : AllByRecursion AreParts t.regions

pub record IsTransaction (t : Written) : Type 0 where
  pub front_is : IsTransactionFront t
  pub number : t.count ≡ length t.regions
  pub items : are_items (map joined t.regions) ≡ true

abbrev pub IsPiece : Piece → Type 0
IsPiece (Transaction t) = IsTransaction t
IsPiece Unmounting = Unit {0}

-- the parts so far of a region that goes on
pub record AreFirstParts (part : List ℕ) (parts : List (List ℕ)) : Type 0 where
  pub each : AllByRecursion HasBytes (part ∷ parts)
  pub most : length (joined (part ∷ parts)) ≤ MOST_REGION_BYTES

abbrev pub IsOpenPiece : Open → Type 0
IsOpenPiece Between = Unit {0}
IsOpenPiece (Begun tid) = tid < 2 ^ 32
IsOpenPiece (Inside t) = IsTransactionFront t
IsOpenPiece (Cut t part parts) = IsTransactionFront t × AreFirstParts part parts

-- the bytes of pieces, of what stands after them, and of less than a whole operation
abbrev pub all_bytes : List Operation → List ℕ
all_bytes os = flat_map operation_bytes os

abbrev pub stream_of : List Piece → Open → List ℕ → List ℕ
stream_of pieces o rest = all_bytes (flat_map operations pieces) ++ (all_bytes (begun o) ++ rest)
