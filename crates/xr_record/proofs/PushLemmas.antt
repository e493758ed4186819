-- What pushes write is what the grammar says.
use Rattle.std.proofs.Common.{◌≡◌, ℕ, ◌+◌, ◌-◌, ◌<◌, ◌≤◌, List, [], ◌∷◌, ◌++◌, length, take, drop, refl, sym, ap, ◌∙◌, arith}
use Rattle.std.specs.List.{AllByRecursion}
use Rattle.std.proofs.lemmas.List.{append_assoc, append-nil, drop_at, length-append, length-drop, length-take-le, take_at}
use Rattle.std.proofs.lemmas.Bool.Decides.{nat_tests}
use Rattle.byteorder.specs.Endian.{big_bytes}
use Rattle.xr_record.specs.declared.layout.TheConstants.{CONTINUE, LAST_FLAGS, MIDDLE_FLAGS, TRANSACTION_CLIENT}
use Rattle.xr_record.specs.Operations.{raw_operation}
use Rattle.xr_record.specs.Packing.{PushesAreOperations, part_bytes, part_flags, pushed}
use Rattle.xr_record.specs.Stream.{HasBytes, all_bytes, joined, later_parts, region}

-- the part that stands after some bytes of a region
part_of : (before part after whole : List ℕ) (from : ℕ) → whole ≡ before ++ (part ++ after) → length before ≡ from
    → take (from + length part - from) (drop from whole) ≡ part
part_of before part after whole from e l =
    let n : from + length part - from ≡ length part = omega arith in
    rw (e, n, drop_at before (part ++ after) from l) (take_at part after (length part) refl)

-- the flags of the four kinds of part
flags_whole : (flags n : ℕ) → part_flags flags 0 (0 + n) n ≡ flags
flags_whole flags n = let e : 0 + n ≡ n = omega arith in rw e (grind (arith, nat_tests))

flags_first : (flags n m : ℕ) → 0 < m → part_flags flags 0 (0 + n) (n + m) ≡ CONTINUE
flags_first flags n m h = let e : 0 + n ≡ n = omega arith in rw e (grind (arith, nat_tests))

flags_middle : (flags from n total : ℕ) → 0 < from → from + n < total → part_flags flags from (from + n) total ≡ MIDDLE_FLAGS
flags_middle flags from n total h k = grind (arith, nat_tests)

flags_last : (flags from n total : ℕ) → 0 < from → from + n ≡ total → part_flags flags from (from + n) total ≡ LAST_FLAGS
flags_last flags from n total h k = grind (arith, nat_tests)

-- the later parts of a region
later_pushed : (tid : ℕ) (whole before part : List ℕ) (parts : List (List ℕ)) (from : ℕ) → whole ≡ before ++ joined (part ∷ parts)
    → length before ≡ from → 0 < from → AllByRecursion HasBytes (part ∷ parts)
    → pushed tid whole from (part ∷ parts) ≡ all_bytes (later_parts tid part parts)
later_pushed tid whole before part [] from e l h each =
    let cut = part_of before part [] whole from e l in
    let total : from + length part ≡ length whole = sym (ap length e ∙ length-append before (part ++ []) ∙ rw (l, append-nil part) refl) in
    rw (cut, flags_last 0 from (length part) (length whole) h total) refl
later_pushed tid whole before part (next ∷ parts) from e l h each =
    let rest = joined (next ∷ parts) in
    let cut = part_of before part rest whole from e l in
    let n : length whole ≡ length before + (length part + length rest) = ap length e ∙ length-append before (part ++ rest) ∙ ap (λ (k : ℕ). length before + k) (length-append part rest) in
    let some : 0 < length rest = omega (arith, length-append next (joined parts), each.1.0) in
    let more = later_pushed tid whole (before ++ part) next parts (from + length part) (e ∙ sym (append_assoc before part rest)) (length-append before part ∙ rw l refl) (omega arith) each.1 in
    rw (cut, flags_middle 0 from (length part) (length whole) h (omega arith), more) refl

region_pushed : (tid : ℕ) (parts : List (List ℕ)) → 0 < length parts → AllByRecursion HasBytes parts
    → pushed tid (joined parts) 0 parts ≡ all_bytes (region tid parts)
region_pushed tid [] h each = absurd (omega arith)
region_pushed tid (part ∷ []) h each =
    let cut = part_of [] part [] (part ++ []) 0 refl refl in
    rw (cut, append-nil part, flags_whole 0 (length part)) refl
region_pushed tid (part ∷ next ∷ parts) h each =
    let rest = joined (next ∷ parts) in
    let cut = part_of [] part rest (part ++ rest) 0 refl refl in
    let some : 0 < length rest = omega (arith, length-append next (joined parts), each.1.0) in
    let whole = part ++ rest in
    let from : 0 + length part ≡ length part = omega arith in
    let first : part_bytes tid TRANSACTION_CLIENT 0 whole 0 (0 + length part) ≡ raw_operation tid TRANSACTION_CLIENT CONTINUE part =
    rw (cut, length-append part rest, flags_first 0 (length part) (length rest) some) refl in
    let more : pushed tid whole (0 + length part) (next ∷ parts) ≡ all_bytes (later_parts tid next parts) =
    ap (λ (n : ℕ). pushed tid whole n (next ∷ parts)) from ∙ later_pushed tid whole part next parts (length part) refl refl each.0 each.1 in
    ap (λ (xs : List ℕ). xs ++ pushed tid whole (0 + length part) (next ∷ parts)) first ∙ ap (λ (xs : List ℕ). raw_operation tid TRANSACTION_CLIENT CONTINUE part ++ xs) more

pub pushes_are_operations_proof : PushesAreOperations
pushes_are_operations_proof = record { regions = region_pushed; starts = λ tid. refl; commits = λ tid. refl; unmounts = refl }

-- the bytes that an operation adds
pub body_pushed : (old start middle next header part region : List ℕ) (tid client flags f from stop : ℕ) → start ≡ old → middle ≡ start ++ header → next ≡ middle ++ part
    → header ≡ big_bytes 4 tid ++ (big_bytes 4 (stop - from) ++ (client ∷ f ∷ 0 ∷ 0 ∷ [])) → part ≡ take (stop - from) (drop from region)
    → f ≡ part_flags flags from stop (length region) → stop ≤ length region → next ≡ old ++ part_bytes tid client flags region from stop
unfolding raw_operation
body_pushed old start middle next header part region tid client flags f from stop s m n h p g fits =
    let len : length (take (stop - from) (drop from region)) ≡ stop - from = length-take-le (stop - from) (drop from region) (omega (arith, length-drop from region)) in
    n ∙ rw (m, s, h, p, g, len, append_assoc old (big_bytes 4 tid ++ (big_bytes 4 (stop - from) ++ (client ∷ part_flags flags from stop (length region) ∷ 0 ∷ 0 ∷ []))) (take (stop - from) (drop from region))) refl
