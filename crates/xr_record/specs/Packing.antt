-- What a packer writes of a region, and that this is what the grammar says.
use Rattle.std.specs.Prelude.{◌≡◌, ◌==◌, ◌⊎◌, ◌<◌, ◌+◌, ◌-◌, ℕ, List, [], ◌∷◌, ◌++◌, length, min, take, drop, if◌then◌else◌}
use Rattle.std.specs.List.{AllByRecursion}
use Rattle.xr_record.specs.declared.layout.TheConstants.{COMMIT, CONTINUE, LAST_FLAGS, LOG_CLIENT, MIDDLE_FLAGS, OPERATION_BYTES, START, TRANSACTION_CLIENT, UNMOUNT}
use Rattle.xr_base.specs.declared.layout.TheConstants.{MAX_BODY_BYTES}
use Rattle.xr_record.specs.Operations.{operation_bytes, raw_operation}
use Rattle.xr_record.specs.Stream.{HasBytes, all_bytes, commit, joined, region, start, unmount, unmount_body}

-- a body, and how many operations it holds
pub record Packed : Type 0 where
  pub body : List ℕ
  pub ops : ℕ

-- the bytes that are free
abbrev pub room_in : List ℕ → ℕ
room_in body = MAX_BODY_BYTES - length body

-- where an operation stops in a region of so many bytes
abbrev pub stop_of : ℕ → ℕ → ℕ → ℕ
stop_of room from total = min total (from + (room - OPERATION_BYTES))

-- the flags of the part from a place to a place, where the whole region would have these
abbrev pub part_flags : ℕ → ℕ → ℕ → ℕ → ℕ
part_flags flags from stop total =
    if from == 0 then (if stop == total then flags else CONTINUE) else (if stop == total then LAST_FLAGS else MIDDLE_FLAGS)

-- the operation of a part
abbrev pub part_bytes : ℕ → ℕ → ℕ → List ℕ → ℕ → ℕ → List ℕ
part_bytes tid client flags region from stop =
    raw_operation tid client (part_flags flags from stop (length region)) (take (stop - from) (drop from region))

-- the operations of a region that is pushed in these parts, from a place on
abbrev pub pushed : ℕ → List ℕ → ℕ → List (List ℕ) → List ℕ
pushed tid region from [] = []
pushed tid region from (part ∷ parts) =
    part_bytes tid TRANSACTION_CLIENT 0 region from (from + length part) ++ pushed tid region (from + length part) parts

-- what is pushed of a region, however it is cut, is that region in these parts; and the other operations are those of the grammar
pub record PushesAreOperations : Type 0 where
  pub regions : (tid : ℕ) (parts : List (List ℕ)) → 0 < length parts → AllByRecursion HasBytes parts
      → pushed tid (joined parts) 0 parts ≡ all_bytes (region tid parts)
  pub starts : (tid : ℕ) → part_bytes tid TRANSACTION_CLIENT START [] 0 0 ≡ operation_bytes (start tid)
  pub commits : (tid : ℕ) → part_bytes tid TRANSACTION_CLIENT COMMIT [] 0 0 ≡ operation_bytes (commit tid)
  pub unmounts : part_bytes 0 LOG_CLIENT UNMOUNT unmount_body 0 8 ≡ operation_bytes unmount

-- there is no room for an operation, where so much is left of its region
abbrev pub HasNoRoom : ℕ → ℕ → Type 0
HasNoRoom room left = (room < OPERATION_BYTES) ⊎ ((room < OPERATION_BYTES + 1) × (0 < left))

-- there was room, and the body has grown by the operation that stops there
pub record Pushes (old new : Packed) (tid client flags : ℕ) (region : List ℕ) (from stop : ℕ) : Type 0 where
  pub room : ¬ HasNoRoom (room_in old.body) (length region - from)
  pub stop_is : stop ≡ stop_of (room_in old.body) from (length region)
  pub body : new.body ≡ old.body ++ part_bytes tid client flags region from stop
  pub ops : new.ops ≡ old.ops + 1
