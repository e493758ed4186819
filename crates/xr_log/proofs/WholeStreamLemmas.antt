-- The bodies of live records are whole operations, so nothing less than one is left after their stream.
use Rattle.std.proofs.Common.{◌≡◌, ◌⊎◌, ℕ, zero, suc, ◌+◌, ◌<◌, ◌≤◌, ◌^◌, ◌∙◌, List, [], ◌∷◌, ◌++◌, length, drop, map, refl, sym, ap, subst, arith, inl, inr, lit<}
use Rattle.std.specs.Prelude.{sum_by}
use Rattle.std.specs.List.{AllByRecursion, flat_map}
use Rattle.std.proofs.lemmas.Bool.{cases_lt, cond-false, cond-true, le-ltb, lt-ltb}
use Rattle.std.proofs.lemmas.List.{append-nil, append_assoc, drop-append-le, drop_at, length-append, length-drop}
use Rattle.std.proofs.lemmas.List.Elements.{recursion_from_All}
use Rattle.std.proofs.lemmas.List.Sums.{sum_by-cons}
use Rattle.xr_record.specs.declared.operation.Fields.{Fields}
use Rattle.xr_record.specs.declared.layout.TheConstants.{OPERATION_BYTES}
use Rattle.xr_record.specs.HoldLaws.{fields-append}
use Rattle.xr_record.specs.OneWayLaws.{IsStorable, fields_of_op, length_op, pieces_storable}
use Rattle.xr_record.specs.Operations.{Operation, fields, operation_bytes}
use Rattle.xr_record.specs.Rules.{HasBody, IsPartial, Phase, phase_of}
use Rattle.xr_record.specs.Stream.{AreParts, Between, Begun, Cut, Inside, IsOpenPiece, IsTransactionFront, Open, Written, all_bytes, begun, joined, later_parts, middle_part, operations, region, transaction_front}
use Rattle.xr_commit.specs.Entries.{HasEntries, joined_bodies}
use Rattle.xr_commit.specs.LogRecords.{LogRecord}
use Rattle.xr_commit.specs.Operations.{HoldsOperations, headers_in, operation_len}

-- the bytes are at most so many whole operations
IsWhole : ℕ → List ℕ → Type 0
IsWhole zero bytes = bytes ≡ []
IsWhole (suc n) bytes = (bytes ≡ []) ⊎ (HasBody bytes × IsWhole n (drop (operation_len (fields bytes)) bytes))

none_long : (bytes : List ℕ) → length bytes ≡ 0 → bytes ≡ []
none_long [] none = refl
none_long (b ∷ bytes) none = absurd (omega (arith, none))

by_headers : (most : ℕ) (bytes : List ℕ) → length bytes ≤ most → sum_by operation_len (headers_in most bytes) ≡ length bytes → IsWhole most bytes
unfolding IsWhole
by_headers zero bytes few sum = none_long bytes (omega (arith, few))
by_headers (suc m) bytes few sum = elim (cases_lt (length bytes) OPERATION_BYTES) [
  | inl short ↦ (let none : headers_in (suc m) bytes ≡ [] = cond-true _ _ _ (lt-ltb (length bytes) OPERATION_BYTES short) in
      inl (none_long bytes (sym sum ∙ ap (sum_by operation_len) none)))
  | inr long ↦ (let f : Fields = fields bytes in
      let rest : List ℕ = drop (operation_len f) bytes in
      let some : headers_in (suc m) bytes ≡ f ∷ headers_in m rest = cond-false _ _ _ (le-ltb (length bytes) OPERATION_BYTES long) in
      let all : operation_len f + sum_by operation_len (headers_in m rest) ≡ length bytes =
      sym (sum_by-cons operation_len f (headers_in m rest)) ∙ ap (sum_by operation_len) (sym some) ∙ sum in
      let left = length-drop (operation_len f) bytes in
      inr (record { header = long; body = omega (arith, all) }, by_headers m rest (omega (arith, left, few, long)) (omega (arith, all, left))))
]

both_whole : (n m : ℕ) (xs ys : List ℕ) → IsWhole n xs → IsWhole m ys → (k : ℕ) × IsWhole k (xs ++ ys)
unfolding IsWhole
both_whole zero m xs ys first later = (m, subst (λ (zs : List ℕ). IsWhole m (zs ++ ys)) (sym first) later)
both_whole (suc n) m xs ys (inl none) later = (m, subst (λ (zs : List ℕ). IsWhole m (zs ++ ys)) (sym none) later)
both_whole (suc n) m xs ys (inr (has, rest)) later =
    let same : fields (xs ++ ys) ≡ fields xs = fields-append xs ys has.header in
    let long = length-append xs ys in
    let len : ℕ = operation_len (fields xs) in
    let a = has.header in
    let b = has.body in
    let k = both_whole n m (drop len xs) ys rest later in (
      suc k.0,
      inr (
        record { header = omega (arith, long, a); body = subst (λ (f : Fields). OPERATION_BYTES + f.len ≤ length (xs ++ ys)) (sym same) (omega (arith, long, b)) },
        subst (IsWhole k.0) (sym (ap (λ (f : Fields). drop (operation_len f) (xs ++ ys)) same ∙ drop-append-le len xs ys (omega (arith, b)))) k.1,
      ),
    )

bodies_whole : (records : List LogRecord) → AllByRecursion HoldsOperations records → (n : ℕ) × IsWhole n (joined_bodies records)
unfolding IsWhole
bodies_whole [] each = (0, refl)
bodies_whole (r ∷ records) each =
    let later = bodies_whole records each.1 in
    both_whole (length r.body) later.0 r.body (joined_bodies records) (by_headers (length r.body) r.body (omega arith) each.0.whole) later.1

-- what is left after one operation, and after all
after_op : (n : ℕ) (op : Operation) (rest : List ℕ) → IsStorable op → IsWhole n (operation_bytes op ++ rest) → (m : ℕ) × IsWhole m rest
unfolding IsWhole
after_op n op rest s whole =
    let long = length_op op in
    let all = length-append (operation_bytes op) rest in
    go n whole where
      not_none : operation_bytes op ++ rest ≡ [] → ⊥
      not_none none = let e = ap length none in let long = length_op op in let all = length-append (operation_bytes op) rest in omega (arith, e, long, all)

      go : (n : ℕ) → IsWhole n (operation_bytes op ++ rest) → (m : ℕ) × IsWhole m rest
      go zero none = absurd (not_none none)
      go (suc n) (inl none) = absurd (not_none none)
      go (suc n) (inr (has, later)) =
          let same : operation_len (fields (operation_bytes op ++ rest)) ≡ 12 + length op.body = ap operation_len (fields_of_op op rest s.tid s.len) in
          (n, subst (IsWhole n) (ap (λ (k : ℕ). drop k (operation_bytes op ++ rest)) same ∙ drop_at (operation_bytes op) rest (12 + length op.body) (length_op op)) later)

after_ops : (ops : List Operation) (n : ℕ) (rest : List ℕ) → AllByRecursion IsStorable ops → IsWhole n (all_bytes ops ++ rest) → (m : ℕ) × IsWhole m rest
after_ops [] n rest each whole = (n, whole)
after_ops (op ∷ ops) n rest each whole =
    let next = after_op n op (all_bytes ops ++ rest) each.0 (subst (IsWhole n) (append_assoc (operation_bytes op) (all_bytes ops) rest) whole) in
    after_ops ops next.0 rest each.1 next.1

none_left : (n : ℕ) (phase : Phase) (rest : List ℕ) → IsPartial phase rest → IsWhole n rest → rest ≡ []
unfolding IsWhole
none_left zero phase rest partial whole = whole
none_left (suc n) phase rest partial (inl none) = none
none_left (suc n) phase rest partial (inr (has, later)) = absurd (partial.less has)

-- the operations of what stands open have headers with room for them
later_storable : (tid : ℕ) (part : List ℕ) (parts : List (List ℕ)) → tid < 2 ^ 32 → length (joined (part ∷ parts)) ≤ 4096 → AllByRecursion IsStorable (later_parts tid part parts)
later_storable tid part [] small few = (record { tid = small; len = (let e = ap length (append-nil part) in omega (arith, e, few)) }, tt)
later_storable tid part (next ∷ parts) small few =
    let e = length-append part (joined (next ∷ parts)) in
    (record { tid = small; len = omega (arith, e, few) }, later_storable tid next parts small (omega (arith, e, few)))

region_storable : (tid : ℕ) (parts : List (List ℕ)) → tid < 2 ^ 32 → length (joined parts) ≤ 4096 → AllByRecursion IsStorable (region tid parts)
region_storable tid [] small few = tt
region_storable tid (part ∷ []) small few = (record { tid = small; len = (let e = ap length (append-nil part) in omega (arith, e, few)) }, tt)
region_storable tid (part ∷ next ∷ parts) small few =
    let e = length-append part (joined (next ∷ parts)) in
    (record { tid = small; len = omega (arith, e, few) }, later_storable tid next parts small (omega (arith, e, few)))

all_both : (xs ys : List Operation) → AllByRecursion IsStorable xs → AllByRecursion IsStorable ys → AllByRecursion IsStorable (xs ++ ys)
all_both [] ys first later = later
all_both (x ∷ xs) ys first later = (first.0, all_both xs ys first.1 later)

regions_storable : (tid : ℕ) (regions : List (List (List ℕ))) → tid < 2 ^ 32 → AllByRecursion AreParts regions → AllByRecursion IsStorable (flat_map (region tid) regions)
regions_storable tid [] small each = tt
regions_storable tid (parts ∷ regions) small each =
    all_both (region tid parts) (flat_map (region tid) regions) (region_storable tid parts small each.0.most) (regions_storable tid regions small each.1)

front_storable : (t : Written) → IsTransactionFront t → AllByRecursion IsStorable (transaction_front t)
front_storable t front = (record { tid = front.tid; len = lit< tt }, (record { tid = front.tid; len = lit< tt }, regions_storable t.tid t.regions front.tid front.regions))

middles_storable : (tid : ℕ) (parts : List (List ℕ)) → tid < 2 ^ 32 → length (joined parts) ≤ 4096 → AllByRecursion IsStorable (map (middle_part tid) parts)
middles_storable tid [] small few = tt
middles_storable tid (part ∷ parts) small few =
    let e = length-append part (joined parts) in
    (record { tid = small; len = omega (arith, e, few) }, middles_storable tid parts small (omega (arith, e, few)))

begun_storable : (o : Open) → IsOpenPiece o → AllByRecursion IsStorable (begun o)
begun_storable Between good = tt
begun_storable (Begun tid) good = (record { tid = good; len = lit< tt }, tt)
begun_storable (Inside t) good = front_storable t good
begun_storable (Cut t part parts) (front, first) =
    let e = length-append part (joined parts) in
    let most = first.most in
    all_both (transaction_front t) _ (front_storable t front)
    (record { tid = front.tid; len = omega (arith, e, most) }, middles_storable t.tid parts front.tid (omega (arith, e, most)))

pub none_after : (records : List LogRecord) (entries : _) (e : HasEntries records entries) → e.rest ≡ []
none_after records entries e =
    let whole = bodies_whole records (recursion_from_All HoldsOperations records e.each) in
    let ops : List Operation = flat_map operations e.pieces in
    let left = after_ops ops whole.0 (all_bytes (begun e.o) ++ e.rest) (pieces_storable e.pieces e.stream.each) (subst (IsWhole whole.0) e.stream.whole whole.1) in
    let last = after_ops (begun e.o) left.0 e.rest (begun_storable e.o e.stream.good) left.1 in
    none_left last.0 (phase_of e.o) e.rest e.stream.partial last.1
