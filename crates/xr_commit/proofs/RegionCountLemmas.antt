-- Each region of the stream's transactions begins in a live record: the headers of the bodies are those of the stream.
use Rattle.std.proofs.Common.{◌≡◌, ℕ, zero, suc, ◌+◌, ◌-◌, ◌<◌, ◌≤◌, ◌∙◌, Bool, false, ltb, Option, Some, List, [], ◌∷◌, ◌++◌, length, drop, map, refl, sym, ap, inl, inr, arith}
use Rattle.std.specs.Prelude.{All, sum_by}
use Rattle.std.specs.List.{AllByRecursion, flat_map}
use Rattle.std.proofs.lemmas.Bool.{cases_lt, cond-true, cond-false, lt-ltb, le-ltb}
use Rattle.std.proofs.lemmas.List.{append_assoc, drop-append-le, length-append, length-drop, length-map, map-append}
use Rattle.std.proofs.lemmas.List.Elements.{All-tail}
use Rattle.std.proofs.lemmas.List.Sums.{sum_by-cons}
use Rattle.std.proofs.Math.Seq.{drop-append_seam}
use Rattle.xr_record.specs.declared.entry.Entry.{Entry}
use Rattle.xr_record.specs.declared.layout.TheConstants.{OPERATION_BYTES}
use Rattle.xr_record.specs.declared.operation.Fields.{Fields}
use Rattle.xr_record.specs.Operations.{Operation, fields, operation_bytes}
use Rattle.xr_record.specs.Stream.{AreParts, IsPiece, Piece, Transaction, Unmounting, Written, all_bytes, begun, commit, entry, joined, later_parts, operations, region}
use Rattle.xr_record.specs.HoldLaws.{fields-append}
use Rattle.xr_record.specs.OneWayLaws.{IsStorable, fields_of_op, length_op, op_fields, pieces_storable}
use Rattle.xr_commit.specs.Entries.{HasEntries, joined_bodies}
use Rattle.xr_commit.specs.RegionHomes.{home_of_region, regions_begun, regions_in, started_after}
use Rattle.xr_commit.specs.LogRecords.{LogRecord, home_of}
use Rattle.xr_commit.specs.Operations.{HoldsOperations, headers_in, headers_of, operation_len}
use Rattle.xr_commit.proofs.HeaderWalkLemmas.{none_left}
use Rattle.xr_commit.proofs.RegionHomeLemmas.{begun_more}

-- The headers of some bytes, one after another

first_header : (m : ℕ) (bytes : List ℕ) → OPERATION_BYTES ≤ length bytes → headers_in (suc m) bytes ≡ fields bytes ∷ headers_in m (drop (operation_len (fields bytes)) bytes)
first_header m bytes whole =
    cond-false (ltb (length bytes) OPERATION_BYTES) [] (fields bytes ∷ headers_in m (drop (operation_len (fields bytes)) bytes)) (le-ltb (length bytes) OPERATION_BYTES whole)

-- any number of steps that is great enough finds the same
enough_steps : (m k : ℕ) (bytes : List ℕ) → length bytes ≤ m → length bytes ≤ k → headers_in m bytes ≡ headers_in k bytes
enough_steps zero k bytes few more = sym (none_left k bytes (omega (arith, few)))
enough_steps (suc m) zero bytes few more = none_left (suc m) bytes (omega (arith, more))
enough_steps (suc m) (suc k) bytes few more = elim (cases_lt (length bytes) 12) [
  | inl short ↦ none_left (suc m) bytes short ∙ sym (none_left (suc k) bytes short)
  | inr whole ↦ (let rest : List ℕ = drop (operation_len (fields bytes)) bytes in
      let shorter = length-drop (operation_len (fields bytes)) bytes in
      first_header m bytes whole ∙ ap (λ (hs : List Fields). fields bytes ∷ hs) (enough_steps m k rest (omega (arith, few, shorter, whole)) (omega (arith, more, shorter, whole))) ∙ sym (first_header k bytes whole))
]

header_on : (bytes : List ℕ) → OPERATION_BYTES ≤ length bytes → headers_of bytes ≡ fields bytes ∷ headers_of (drop (operation_len (fields bytes)) bytes)
header_on bytes whole =
    let rest : List ℕ = drop (operation_len (fields bytes)) bytes in
    let shorter = length-drop (operation_len (fields bytes)) bytes in
    enough_steps (length bytes) (suc (length bytes)) bytes (omega arith) (omega arith) ∙ first_header (length bytes) bytes whole
    ∙ ap (λ (hs : List Fields). fields bytes ∷ hs) (enough_steps (length bytes) (length rest) rest (omega (arith, shorter)) (omega arith))

-- after whole operations stand the headers of what follows them
whole_on : (n : ℕ) (xs ys : List ℕ) → length xs ≤ n → sum_by operation_len (headers_of xs) ≡ length xs → headers_of (xs ++ ys) ≡ headers_of xs ++ headers_of ys
whole_on n [] ys few whole = refl
whole_on zero (x ∷ xs) ys few whole = absurd (omega (arith, few))
whole_on (suc n) (x ∷ xs) ys few whole = elim (cases_lt (length (x ∷ xs)) 12) [
  | inl short ↦ (let none = none_left (length (x ∷ xs)) (x ∷ xs) short in
      let e : 0 ≡ length (x ∷ xs) = ap (λ (hs : List Fields). sum_by operation_len hs) (sym none) ∙ whole in absurd (omega (arith, e)))
  | inr long ↦ (let bytes : List ℕ = x ∷ xs in
      let len : ℕ = operation_len (fields bytes) in
      let one = header_on bytes long in
      let sum : len + sum_by operation_len (headers_of (drop len bytes)) ≡ length bytes = sym (sum_by-cons operation_len (fields bytes) (headers_of (drop len bytes))) ∙ ap (λ (hs : List Fields). sum_by operation_len hs) (sym one) ∙ whole in
      let left = length-drop len bytes in
      let same : fields (bytes ++ ys) ≡ fields bytes = fields-append bytes ys long in
      let after : drop (operation_len (fields (bytes ++ ys))) (bytes ++ ys) ≡ drop len bytes ++ ys = ap (λ (f : Fields). drop (operation_len f) (bytes ++ ys)) same ∙ drop-append-le len bytes ys (omega (arith, sum)) in
      let rest = whole_on n (drop len bytes) ys (omega (arith, few, left)) (omega (arith, sum, left)) in
      header_on (bytes ++ ys) (omega (arith, long, length-append bytes ys)) ∙ rw (same, after, rest, one) refl)
]

bodies_whole : (records : List LogRecord) → All HoldsOperations records → headers_of (joined_bodies records) ≡ flat_map (λ (r : LogRecord). headers_of r.body) records
bodies_whole [] all = refl
bodies_whole (r ∷ records) all =
    whole_on (length r.body) r.body (joined_bodies records) (omega arith) (all 0 r (omega arith)).whole
    ∙ ap (λ (hs : List Fields). headers_of r.body ++ hs) (bodies_whole records (All-tail HoldsOperations r records all))

-- The headers of operations

headers_op : (op : Operation) (rest : List ℕ) → IsStorable op → headers_of (operation_bytes op ++ rest) ≡ op_fields op ∷ headers_of rest
headers_op op rest small =
    let is : fields (operation_bytes op ++ rest) ≡ op_fields op = fields_of_op op rest small.tid small.len in
    let long = length_op op in
    let after : drop (operation_len (fields (operation_bytes op ++ rest))) (operation_bytes op ++ rest) ≡ rest =
    ap (λ (f : Fields). drop (operation_len f) (operation_bytes op ++ rest)) is ∙ ap (λ (n : ℕ). drop n (operation_bytes op ++ rest)) (sym long) ∙ drop-append_seam (operation_bytes op) rest in
    header_on (operation_bytes op ++ rest) (omega (arith, long, length-append (operation_bytes op) rest)) ∙ rw (is, after) refl

headers_ops : (ops : List Operation) (rest : List ℕ) → AllByRecursion IsStorable ops → headers_of (all_bytes ops ++ rest) ≡ map op_fields ops ++ headers_of rest
headers_ops [] rest all = refl
headers_ops (op ∷ ops) rest all =
    ap headers_of (append_assoc (operation_bytes op) (all_bytes ops) rest) ∙ headers_op op (all_bytes ops ++ rest) all.0
    ∙ ap (λ (hs : List Fields). op_fields op ∷ hs) (headers_ops ops rest all.1)

-- The regions that begin with them

later_none : (tid : ℕ) (part : List ℕ) (parts : List (List ℕ)) (fs : List Fields) → regions_begun false (map op_fields (later_parts tid part parts) ++ fs) ≡ regions_begun false fs
later_none tid part [] fs = omega arith
later_none tid part (next ∷ parts) fs = let e = later_none tid next parts fs in omega (arith, e)

region_one : (tid : ℕ) (parts : List (List ℕ)) (fs : List Fields) → 0 < length parts → regions_begun false (map op_fields (region tid parts) ++ fs) ≡ 1 + regions_begun false fs
region_one tid [] fs some = absurd (omega (arith, some))
region_one tid (part ∷ []) fs some = refl
region_one tid (part ∷ next ∷ parts) fs some = let e = later_none tid next parts fs in omega (arith, e)

regions_all : (tid : ℕ) (regions : List (List (List ℕ))) (fs : List Fields) → AllByRecursion AreParts regions
    → regions_begun false (map op_fields (flat_map (region tid) regions) ++ fs) ≡ length regions + regions_begun false fs
regions_all tid [] fs all = omega arith
regions_all tid (parts ∷ regions) fs all =
    let rest : List Fields = map op_fields (flat_map (region tid) regions) ++ fs in
    ap (regions_begun false) (ap (λ (hs : List Fields). hs ++ fs) (map-append op_fields (region tid parts) (flat_map (region tid) regions)) ∙ append_assoc (map op_fields (region tid parts)) (map op_fields (flat_map (region tid) regions)) fs)
    ∙ region_one tid parts rest all.0.some ∙ (let e = regions_all tid regions fs all.1 in omega (arith, e))

transaction_all : (t : Written) (fs : List Fields) → AllByRecursion AreParts t.regions → regions_begun false (map op_fields (operations (Transaction t)) ++ fs) ≡ length t.regions + regions_begun false fs
transaction_all t fs all =
    let inner : List Operation = flat_map (region t.tid) t.regions in
    let last : List Fields = op_fields (commit t.tid) ∷ fs in
    let joined_up : map op_fields (inner ++ commit t.tid ∷ []) ++ fs ≡ map op_fields inner ++ last =
    ap (λ (hs : List Fields). hs ++ fs) (map-append op_fields inner (commit t.tid ∷ [])) ∙ append_assoc (map op_fields inner) (op_fields (commit t.tid) ∷ []) fs in
    let e : regions_begun false (map op_fields (inner ++ commit t.tid ∷ []) ++ fs) ≡ length t.regions + regions_begun false last = ap (regions_begun false) joined_up ∙ regions_all t.tid t.regions last all in
    omega (arith, e)

pieces_all : (pieces : List Piece) (fs : List Fields) → AllByRecursion IsPiece pieces → regions_begun false (map op_fields (flat_map operations pieces) ++ fs) ≡ regions_in (map entry pieces) + regions_begun false fs
pieces_all [] fs all = omega arith
pieces_all (Unmounting ∷ pieces) fs all = let e = pieces_all pieces fs all.1 in omega (arith, e)
pieces_all (Transaction t ∷ pieces) fs all =
    let ops : List Operation = flat_map operations pieces in
    let joined_up : map op_fields (operations (Transaction t) ++ ops) ++ fs ≡ map op_fields (operations (Transaction t)) ++ (map op_fields ops ++ fs) =
    ap (λ (hs : List Fields). hs ++ fs) (map-append op_fields (operations (Transaction t)) ops) ∙ append_assoc (map op_fields (operations (Transaction t))) (map op_fields ops) fs in
    let e = ap (regions_begun false) joined_up ∙ transaction_all t (map op_fields ops ++ fs) all.0.front_is.regions in
    let f = pieces_all pieces fs all.1 in
    let n : length (map joined t.regions) ≡ length t.regions = length-map t.regions joined in
    omega (arith, e, f, n)

-- So many regions begin in the records, and so each of them in one.

home_some : (started : Bool) (records : List LogRecord) (n : ℕ) → n < regions_begun started (flat_map (λ (r : LogRecord). headers_of r.body) records)
    → (block : ℕ) × (home_of_region started records n ≡ Some block)
home_some started [] n within = absurd (omega (arith, within))
home_some started (r ∷ records) n within =
    let headers : List Fields = headers_of r.body in
    let begun : ℕ = regions_begun started headers in
    let total = begun_more started headers (flat_map (λ (s : LogRecord). headers_of s.body) records) in
    let later : Option ℕ = home_of_region (started_after started headers) records (n - begun) in
    elim (cases_lt n begun) [
      | inl here ↦ (home_of r.head, cond-true (ltb n begun) (Some (home_of r.head)) later (lt-ltb n begun here))
      | inr there ↦ (let found = home_some (started_after started headers) records (n - begun) (omega (arith, within, total, there)) in
          (found.0, cond-false (ltb n begun) (Some (home_of r.head)) later (le-ltb n begun there) ∙ found.1))
    ]

pub region_begins : (records : List LogRecord) (entries : List Entry) (n : ℕ) → HasEntries records entries → n < regions_in entries
    → (block : ℕ) × (home_of_region false records n ≡ Some block)
region_begins records entries n said within =
    let ops : List Operation = flat_map operations said.pieces in
    let more : List ℕ = all_bytes (begun said.o) ++ said.rest in
    let headers : flat_map (λ (r : LogRecord). headers_of r.body) records ≡ map op_fields ops ++ headers_of more =
    sym (bodies_whole records said.each) ∙ ap headers_of said.stream.whole ∙ headers_ops ops more (pieces_storable said.pieces said.stream.each) in
    let count = ap (regions_begun false) headers ∙ pieces_all said.pieces (headers_of more) said.stream.each in
    home_some false records n (omega (arith, within, count, ap regions_in said.entries_are))
