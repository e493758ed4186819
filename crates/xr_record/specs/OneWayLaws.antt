-- That a stream is read in one way: its operations are those of its bytes, and go on from one another in one way.
use Rattle.std.proofs.Common.{◌≡◌, ℕ, Bool, true, cond, eqb, nat_le, nat_lt, ◌&&◌, ◌+◌, ◌<◌, ◌≤◌, ◌^◌, List, [], ◌∷◌, ◌++◌, length, map, take, drop, Option, Some, None, refl, sym, ap, subst, ◌∙◌, arith, inl, inr, eq-eqb}
use Rattle.std.specs.List.{AllByRecursion, flat_map}
use Rattle.std.proofs.lemmas.Bool.Decides.{nat_tests}
use Rattle.std.proofs.lemmas.List.{append_assoc, append-nil, drop_at, length-append, length-map, take_at}
use Rattle.std.proofs.lemmas.List.Concat.{flat_map-append}
use Rattle.byteorder.specs.Endian.{big_number, little_bytes, little_number}
use Rattle.byteorder.specs.Numbers.{big_number-reads_back, little_number-reads_back}
use Rattle.xr_record.specs.declared.operation.Fields.{Fields}
use Rattle.xr_record.specs.declared.operation.Sort.{Sort}
use Rattle.xr_record.specs.declared.operation.Sort.TheVariants.{Start, Whole, First, Middle, Last, Commit, Unmount}
use Rattle.xr_record.specs.declared.rules.OpKind.{OpKind}
use Rattle.xr_record.specs.declared.rules.OpKind.TheVariants.{Header, Count}
use Rattle.xr_record.specs.Operations.{Operation, client_of, fields, flags_of, operation_bytes, sort_of, raw_operation}
use Rattle.xr_record.specs.Rules.{AtHeader, AtRegion, Breaks, IsPartial, Phase, body_fault, header_fault, is_client, is_header_body, is_len, is_tid, may_come, phase_of, whole_fault, operation_body}
use Rattle.xr_record.specs.Stream.{AreParts, Between, Begun, Cut, HasBytes, Inside, IsTransactionFront, IsOpenPiece, IsPiece, Open, Piece, Transaction, Unmounting, Written, all_bytes, are_items, begun, commit, transaction_front, header_body, joined, later_parts, middle_part, operations, region, start, stream_of, transaction_header, unmount}
use Rattle.xr_record.specs.StreamLaws.{IsBadInOneWay, IsGoodOrBad, IsOneReading}
use Rattle.xr_record.specs.HeaderRuleLaws.{right_header}
use Rattle.xr_record.specs.OperationLaws.{joined_push}

-- What operations make of what is open, one after another

abbrev with_region : Written → List (List ℕ) → Written
with_region t parts = record t { regions = t.regions ++ parts ∷ [] }

abbrev after : Open → ℕ → Sort → List ℕ → List Piece × Open
after Between tid Start body = ([], Begun tid)
after Between tid Unmount body = (Unmounting ∷ [], Between)
after (Begun own) tid Whole body = ([], Inside record { tid = own; count = little_number 4 (drop 12 body); regions = [] })
after (Inside t) tid Whole body = ([], Inside (with_region t (body ∷ [])))
after (Inside t) tid First body = ([], Cut t body [])
after (Inside t) tid Commit body = (Transaction t ∷ [], Between)
after (Cut t part parts) tid Middle body = ([], Cut t part (parts ++ body ∷ []))
after (Cut t part parts) tid Last body = ([], Inside (with_region t (part ∷ (parts ++ body ∷ []))))
after o tid sort body = ([], o)

abbrev after_op : Open → Operation → List Piece × Open
after_op o op = after o op.tid op.sort op.body

run : Open → List Operation → List Piece × Open
run o [] = ([], o)
run o (op ∷ ops) = ((after_op o op).0 ++ (run (after_op o op).1 ops).0, (run (after_op o op).1 ops).1)

abbrev pub op_fields : Operation → Fields
op_fields op = record { tid = op.tid; len = length op.body; client = client_of op.sort; flags = flags_of op.sort; zeros = 0 }

-- an operation that breaks no rule where this is open
record IsRightOp (o : Open) (op : Operation) : Type 0 where
  tid : op.tid < 2 ^ 32
  len : length op.body < 2 ^ 32
  header : header_fault (phase_of o) (op_fields op) ≡ None
  body : body_fault (phase_of o) op.sort op.body ≡ None

AreRight : Open → List Operation → Type 0
AreRight o [] = Unit {0}
AreRight o (op ∷ ops) = IsRightOp o op × AreRight (after_op o op).1 ops

-- the operations are right, and make these pieces and leave this open
record Goes (o : Open) (ops : List Operation) (pieces : List Piece) (next : Open) : Type 0 where
  right : AreRight o ops
  run_is : run o ops ≡ (pieces, next)

client_right : (sort : Sort) → (tid len : ℕ) → is_client (let f : Fields = record { tid = tid; len = len; client = client_of sort; flags = flags_of sort; zeros = 0 } in f) ≡ true
client_right Start tid len = refl
client_right Whole tid len = refl
client_right First tid len = refl
client_right Middle tid len = refl
client_right Last tid len = refl
client_right Commit tid len = refl
client_right Unmount tid len = refl

sort_right : (sort : Sort) → sort_of (client_of sort) (flags_of sort) ≡ Some sort
sort_right Start = refl
sort_right Whole = refl
sort_right First = refl
sort_right Middle = refl
sort_right Last = refl
sort_right Commit = refl
sort_right Unmount = refl

right_op : (o : Open) (op : Operation) → op.tid < 2 ^ 32 → length op.body < 2 ^ 32 → may_come (phase_of o) op.sort ≡ true → is_tid (phase_of o) op.sort op.tid ≡ true
    → is_len (phase_of o) op.sort (length op.body) ≡ true → body_fault (phase_of o) op.sort op.body ≡ None → IsRightOp o op
right_op o op t l comes tid len body = record {
  tid = t;
  len = l;
  header = right_header (phase_of o) (op_fields op) op.sort (client_right op.sort op.tid (length op.body)) (sort_right op.sort) comes refl tid len;
  body = body;
}

goes_none : (o : Open) → Goes o [] [] o
unfolding run AreRight
goes_none o = record { right = tt; run_is = refl }

goes_one : (o : Open) (op : Operation) (ops : List Operation) (pieces : List Piece) (next : Open) → IsRightOp o op → Goes (after_op o op).1 ops pieces next
    → Goes o (op ∷ ops) ((after_op o op).0 ++ pieces) next
unfolding run AreRight
goes_one o op ops pieces next r g = record { right = (r, g.right); run_is = ap (λ (s : List Piece × Open). ((after_op o op).0 ++ s.0, s.1)) g.run_is }

goes_append : (o mid next : Open) (xs ys : List Operation) (ps qs : List Piece) → Goes o xs ps mid → Goes mid ys qs next → Goes o (xs ++ ys) (ps ++ qs) next
unfolding run AreRight
goes_append o mid next [] ys ps qs g h =
    let none : [] ≡ ps = ap (λ (s : List Piece × Open). s.0) g.run_is in
    let same : o ≡ mid = ap (λ (s : List Piece × Open). s.1) g.run_is in
    rw (← none, same) h
goes_append o mid next (x ∷ xs) ys ps qs g h =
    let rest = run (after_op o x).1 xs in
    let front : (after_op o x).0 ++ rest.0 ≡ ps = ap (λ (s : List Piece × Open). s.0) g.run_is in
    let same : rest.1 ≡ mid = ap (λ (s : List Piece × Open). s.1) g.run_is in
    let back = goes_append (after_op o x).1 mid next xs ys rest.0 qs record { right = g.right.1; run_is = ap (λ (m : Open). (rest.0, m)) same } h in
    let all = goes_one o x (xs ++ ys) (rest.0 ++ qs) next g.right.0 back in
    subst (λ (p : List Piece). Goes o (x ∷ (xs ++ ys)) p next) (sym (append_assoc (after_op o x).0 rest.0 qs) ∙ ap (λ (p : List Piece). p ++ qs) front) all

-- Regions

room_true : (before len : ℕ) → 0 < len → before + len ≤ 4096 → (nat_lt 0 len && nat_le (before + len) 4096) ≡ true
room_true before len h k = grind (arith, nat_tests)

goes_later : (t : Written) (part : List ℕ) (before : List (List ℕ)) (next : List ℕ) (parts : List (List ℕ)) → t.tid < 2 ^ 32 → AllByRecursion HasBytes (next ∷ parts)
    → length (joined (part ∷ before)) + length (joined (next ∷ parts)) ≤ 4096
    → Goes (Cut t part before) (later_parts t.tid next parts) [] (Inside (with_region t (part ∷ (before ++ next ∷ parts))))
goes_later t part before next [] fits each most =
    let n = length-append next [] in
    goes_one (Cut t part before) record { tid = t.tid; sort = Last; body = next } [] [] _
    (right_op (Cut t part before) _ fits (omega arith) refl (eq-eqb t.tid t.tid refl) (room_true (length (joined (part ∷ before))) (length next) each.0 (omega arith)) refl)
    (goes_none (Inside (with_region t (part ∷ (before ++ next ∷ [])))))
goes_later t part before next (more ∷ parts) fits each most =
    let n = length-append next (joined (more ∷ parts)) in
    let j = ap length (joined_push (part ∷ before) next) ∙ length-append (joined (part ∷ before)) next in
    let rest = goes_later t part (before ++ next ∷ []) more parts fits each.1 (omega arith) in
    let whole = subst (λ (ps : List (List ℕ)). Goes (Cut t part (before ++ next ∷ [])) (later_parts t.tid more parts) [] (Inside (with_region t (part ∷ ps)))) (append_assoc before (next ∷ []) (more ∷ parts)) rest in
    goes_one (Cut t part before) record { tid = t.tid; sort = Middle; body = next } (later_parts t.tid more parts) [] _
    (right_op (Cut t part before) _ fits (omega arith) refl (eq-eqb t.tid t.tid refl) (room_true (length (joined (part ∷ before))) (length next) each.0 (omega arith)) refl)
    whole

goes_region : (t : Written) (parts : List (List ℕ)) → t.tid < 2 ^ 32 → AreParts parts → Goes (Inside t) (region t.tid parts) [] (Inside (with_region t parts))
goes_region t [] fits a = let some = a.some in absurd (omega arith)
goes_region t (part ∷ []) fits a =
    let n = length-append part [] in
    let most = a.most in
    goes_one (Inside t) record { tid = t.tid; sort = Whole; body = part } [] [] _
    (right_op (Inside t) _ fits (omega arith) refl (eq-eqb t.tid t.tid refl) (room_true 0 (length part) a.each.0 (omega arith)) refl)
    (goes_none (Inside (with_region t (part ∷ []))))
goes_region t (part ∷ next ∷ parts) fits a =
    let n = length-append part (joined (next ∷ parts)) in
    let alone = length-append part [] in
    let most = a.most in
    goes_one (Inside t) record { tid = t.tid; sort = First; body = part } (later_parts t.tid next parts) [] _
    (right_op (Inside t) _ fits (omega arith) refl (eq-eqb t.tid t.tid refl) (room_true 0 (length part) a.each.0 (omega arith)) refl)
    (goes_later t part [] next parts fits a.each.1 (omega arith))

goes_regions : (t : Written) (rs : List (List (List ℕ))) → t.tid < 2 ^ 32 → AllByRecursion AreParts rs
    → Goes (Inside t) (flat_map (region t.tid) rs) [] (Inside record t { regions = t.regions ++ rs })
goes_regions t [] fits all = rw (append-nil t.regions) (goes_none (Inside t))
goes_regions t (r ∷ rs) fits all =
    let first = goes_region t r fits all.0 in
    let rest = goes_regions (with_region t r) rs fits all.1 in
    let whole = goes_append (Inside t) (Inside (with_region t r)) _ (region t.tid r) (flat_map (region t.tid) rs) [] [] first rest in
    subst (λ (xs : List (List (List ℕ))). Goes (Inside t) (region t.tid r ++ flat_map (region t.tid) rs) [] (Inside record t { regions = xs })) (append_assoc t.regions (r ∷ []) rs) whole

-- Pieces

header_holds : (tid count : ℕ) → tid < 2 ^ 32 → is_header_body tid (header_body tid count) ≡ true
header_holds tid count h = let e = little_number-reads_back 4 tid (little_bytes 4 count) h in rw e (eq-eqb tid tid refl)

goes_front : (t : Written) → IsTransactionFront t → Goes Between (transaction_front t) [] (Inside t)
goes_front t f =
    let count : little_number 4 (drop 12 (header_body t.tid t.count)) ≡ t.count = little_number-reads_back 4 t.count [] f.count in
    let held = header_holds t.tid t.count f.tid in
    let bare : ℕ → Written = λ n. record { tid = t.tid; count = n; regions = [] } in
    let rest = subst (λ (n : ℕ). Goes (Inside (bare n)) (flat_map (region t.tid) t.regions) [] (Inside t)) (sym count) (goes_regions (bare t.count) t.regions f.tid f.regions) in
    let header : body_fault (AtHeader t.tid) Whole (header_body t.tid t.count) ≡ None = ap (λ (b : Bool). cond b None (Some Header)) held in
    goes_one Between (start t.tid) _ [] _ (right_op Between (start t.tid) f.tid (omega arith) refl refl refl refl)
    (goes_one (Begun t.tid) (transaction_header t.tid t.count) _ [] _
    (right_op (Begun t.tid) (transaction_header t.tid t.count) f.tid (omega arith) refl (eq-eqb t.tid t.tid refl) refl header) rest)

both_true : (a b : Bool) → a ≡ true → b ≡ true → (a && b) ≡ true
both_true a b p q = rw (p, q) refl

goes_piece : (p : Piece) → IsPiece p → Goes Between (operations p) (p ∷ []) Between
goes_piece (Transaction t) w =
    let f = w.front_is in
    let count : eqb t.count (length (map joined t.regions)) ≡ true = eq-eqb t.count (length (map joined t.regions)) (w.number ∙ sym (length-map t.regions joined)) in
    let fault : body_fault (AtRegion t.tid t.count (map joined t.regions)) Commit [] ≡ None =
    ap (λ (b : Bool). cond b None (Some Count)) (both_true (eqb t.count (length (map joined t.regions))) (are_items (map joined t.regions)) count w.items) in
    goes_append Between (Inside t) Between (transaction_front t) (commit t.tid ∷ []) [] (Transaction t ∷ []) (goes_front t f)
    (goes_one (Inside t) (commit t.tid) [] [] Between (right_op (Inside t) (commit t.tid) f.tid (omega arith) refl (eq-eqb t.tid t.tid refl) refl fault) (goes_none Between))
goes_piece Unmounting w = goes_one Between unmount [] [] Between (right_op Between unmount (omega arith) (omega arith) refl refl refl refl) (goes_none Between)

goes_pieces : (ps : List Piece) → AllByRecursion IsPiece ps → Goes Between (flat_map operations ps) ps Between
goes_pieces [] all = goes_none Between
goes_pieces (p ∷ ps) all = goes_append Between Between Between (operations p) (flat_map operations ps) (p ∷ []) ps (goes_piece p all.0) (goes_pieces ps all.1)

goes_middles : (t : Written) (part : List ℕ) (before parts : List (List ℕ)) → t.tid < 2 ^ 32 → AllByRecursion HasBytes parts
    → length (joined (part ∷ before)) + length (joined parts) ≤ 4096 → Goes (Cut t part before) (map (middle_part t.tid) parts) [] (Cut t part (before ++ parts))
goes_middles t part before [] fits each most = rw (append-nil before) (goes_none (Cut t part before))
goes_middles t part before (next ∷ parts) fits each most =
    let n = length-append next (joined parts) in
    let j = ap length (joined_push (part ∷ before) next) ∙ length-append (joined (part ∷ before)) next in
    let rest = goes_middles t part (before ++ next ∷ []) parts fits each.1 (omega arith) in
    let whole = subst (λ (ps : List (List ℕ)). Goes (Cut t part (before ++ next ∷ [])) (map (middle_part t.tid) parts) [] (Cut t part ps)) (append_assoc before (next ∷ []) parts) rest in
    goes_one (Cut t part before) (middle_part t.tid next) (map (middle_part t.tid) parts) [] _
    (right_op (Cut t part before) _ fits (omega arith) refl (eq-eqb t.tid t.tid refl) (room_true (length (joined (part ∷ before))) (length next) each.0 (omega arith)) refl)
    whole

goes_begun : (o : Open) → IsOpenPiece o → Goes Between (begun o) [] o
goes_begun Between good = goes_none Between
goes_begun (Begun tid) good = goes_one Between (start tid) [] [] (Begun tid) (right_op Between (start tid) good (omega arith) refl refl refl refl) (goes_none (Begun tid))
goes_begun (Inside t) good = goes_front t good
goes_begun (Cut t part parts) good =
    let n = length-append part (joined parts) in
    let alone = length-append part [] in
    let most = good.1.most in
    goes_append Between (Inside t) (Cut t part parts) (transaction_front t) _ [] [] (goes_front t good.0)
    (goes_one (Inside t) record { tid = t.tid; sort = First; body = part } (map (middle_part t.tid) parts) [] _
    (right_op (Inside t) _ good.0.tid (omega arith) refl (eq-eqb t.tid t.tid refl) (room_true 0 (length part) good.1.each.0 (omega arith)) refl)
    (goes_middles t part [] parts good.0.tid good.1.each.1 (omega arith)))

abbrev ops_of : List Piece → Open → List Operation
ops_of ps o = flat_map operations ps ++ begun o

goes_all : (ps : List Piece) (o : Open) → AllByRecursion IsPiece ps → IsOpenPiece o → Goes Between (ops_of ps o) ps o
goes_all ps o all good =
    subst (λ (qs : List Piece). Goes Between (ops_of ps o) qs o) (append-nil ps)
    (goes_append Between Between o (flat_map operations ps) (begun o) ps [] (goes_pieces ps all) (goes_begun o good))

bytes_all : (ps : List Piece) (o : Open) (rest : List ℕ) → stream_of ps o rest ≡ all_bytes (ops_of ps o) ++ rest
bytes_all ps o rest =
    sym (append_assoc (all_bytes (flat_map operations ps)) (all_bytes (begun o)) rest)
    ∙ ap (λ (xs : List ℕ). xs ++ rest) (sym (flat_map-append operation_bytes (flat_map operations ps) (begun o)))

-- Operations from their bytes

made : (op : Operation) (tid len : ℕ) → tid ≡ op.tid → len ≡ length op.body
    → (let f : Fields = record { tid = tid; len = len; client = client_of op.sort; flags = flags_of op.sort; zeros = 0 } in f ≡ op_fields op)
made op tid len p q = rw (p, q) refl

pub fields_of_op : (op : Operation) (t : List ℕ) → op.tid < 2 ^ 32 → length op.body < 2 ^ 32 → fields (operation_bytes op ++ t) ≡ op_fields op
unfolding raw_operation
fields_of_op op t h k =
    let tid = big_number-reads_back 4 op.tid [] h in
    let len = big_number-reads_back 4 (length op.body) [] k in
    made op (big_number 4 (operation_bytes op ++ t)) (big_number 4 (drop 4 (operation_bytes op ++ t))) tid len

pub length_op : (op : Operation) → length (operation_bytes op) ≡ 12 + length op.body
unfolding raw_operation
length_op op = omega arith

drop_op : (op : Operation) (t : List ℕ) → drop 12 (operation_bytes op ++ t) ≡ op.body ++ t
unfolding raw_operation
drop_op op t = refl

same_op : (x y : Operation) → x.tid ≡ y.tid → x.sort ≡ y.sort → x.body ≡ y.body → x ≡ y
same_op x y p q r = λ i. record { tid = p i; sort = q i; body = r i }

same_some_sort : (s t : Sort) → Some s ≡ Some t → s ≡ t
same_some_sort s t e = cc

op_unique : (x y : Operation) (t u : List ℕ) → x.tid < 2 ^ 32 → length x.body < 2 ^ 32 → y.tid < 2 ^ 32 → length y.body < 2 ^ 32
    → operation_bytes x ++ t ≡ operation_bytes y ++ u → (x ≡ y) × (t ≡ u)
op_unique x y t u hx kx hy ky e =
    let same : op_fields x ≡ op_fields y = sym (fields_of_op x t hx kx) ∙ ap fields e ∙ fields_of_op y u hy ky in
    let len : length x.body ≡ length y.body = ap (λ (f : Fields). f.len) same in
    let sorts : Some x.sort ≡ Some y.sort = sym (sort_right x.sort) ∙ ap (λ (f : Fields). sort_of f.client f.flags) same ∙ sort_right y.sort in
    let after : x.body ++ t ≡ y.body ++ u = sym (drop_op x t) ∙ ap (drop 12) e ∙ drop_op y u in
    let body : x.body ≡ y.body = sym (take_at x.body t (length x.body) refl) ∙ ap (take (length x.body)) after ∙ take_at y.body u (length x.body) (sym len) in
    let rest : t ≡ u = sym (drop_at x.body t (length x.body) refl) ∙ ap (drop (length x.body)) after ∙ drop_at y.body u (length x.body) (sym len) in
    (same_op x y (ap (λ (f : Fields). f.tid) same) (same_some_sort x.sort y.sort sorts) body, rest)

-- no right operation stands at the front of the bytes
abbrev IsStuck : Open → List ℕ → Type 0
IsStuck o bytes = (op : Operation) (t : List ℕ) → IsRightOp o op → bytes ≡ operation_bytes op ++ t → ⊥

fields_at : (op : Operation) (bytes t : List ℕ) → op.tid < 2 ^ 32 → length op.body < 2 ^ 32 → bytes ≡ operation_bytes op ++ t → fields bytes ≡ op_fields op
fields_at op bytes t h k e = ap fields e ∙ fields_of_op op t h k

length_at : (op : Operation) (bytes t : List ℕ) → bytes ≡ operation_bytes op ++ t → length bytes ≡ 12 + length op.body + length t
length_at op bytes t e = ap length e ∙ length-append (operation_bytes op) t ∙ ap (λ (n : ℕ). n + length t) (length_op op)

partial_stuck : (o : Open) (bytes : List ℕ) → IsPartial (phase_of o) bytes → IsStuck o bytes
partial_stuck o bytes p op t r e =
    let same = fields_at op bytes t r.tid r.len e in
    let len : (fields bytes).len ≡ length op.body = ap (λ (f : Fields). f.len) same in
    let all = length_at op bytes t e in
    p.less record { header = omega arith; body = omega arith }

not_some : (o : Option OpKind) (kind : OpKind) → o ≡ None → o ≡ Some kind → ⊥
not_some o kind p q = absurd cc

breaks_stuck : (o : Open) (bytes : List ℕ) (kind : OpKind) → Breaks (phase_of o) bytes kind → IsStuck o bytes
breaks_stuck o bytes kind b op t r e =
    let same = fields_at op bytes t r.tid r.len e in
    let header : header_fault (phase_of o) (fields bytes) ≡ None = ap (header_fault (phase_of o)) same ∙ r.header in
    let len : (fields bytes).len ≡ length op.body = ap (λ (f : Fields). f.len) same in
    let body : operation_body bytes ≡ op.body = rw (len, e, drop_op op t) (take_at op.body t (length op.body) refl) in
    let sort : sort_of (fields bytes).client (fields bytes).flags ≡ Some op.sort = ap (λ (f : Fields). sort_of f.client f.flags) same ∙ sort_right op.sort in
    let fault : whole_fault (phase_of o) bytes (sort_of (fields bytes).client (fields bytes).flags) ≡ None =
    ap (whole_fault (phase_of o) bytes) sort ∙ ap (body_fault (phase_of o) op.sort) body ∙ r.body in
    elim b [
      | inl w ↦ not_some (header_fault (phase_of o) (fields bytes)) kind header w.1
      | inr w ↦ not_some (whole_fault (phase_of o) bytes (sort_of (fields bytes).client (fields bytes).flags)) kind fault w.2
    ]

same_cons : (x y : Operation) (xs ys : List Operation) → x ≡ y → xs ≡ ys → x ∷ xs ≡ y ∷ ys
same_cons x y xs ys p q = rw (p, q) refl

same_some : (kind another : OpKind) → Some kind ≡ Some another → kind ≡ another
same_some kind another e = cc

-- the same operations, where neither list can go on
same_ops : (o : Open) (xs ys : List Operation) (r s : List ℕ) → AreRight o xs → AreRight o ys → IsStuck (run o xs).1 r → IsStuck (run o ys).1 s
    → all_bytes xs ++ r ≡ all_bytes ys ++ s → (xs ≡ ys) × (r ≡ s)
unfolding run AreRight
same_ops o [] [] r s p q k l e = (refl, e)
same_ops o [] (y ∷ ys) r s p q k l e = absurd (k y (all_bytes ys ++ s) q.0 (e ∙ append_assoc (operation_bytes y) (all_bytes ys) s))
same_ops o (x ∷ xs) [] r s p q k l e = absurd (l x (all_bytes xs ++ r) p.0 (sym e ∙ append_assoc (operation_bytes x) (all_bytes xs) r))
same_ops o (x ∷ xs) (y ∷ ys) r s p q k l e =
    let first = op_unique x y (all_bytes xs ++ r) (all_bytes ys ++ s) p.0.tid p.0.len q.0.tid q.0.len
    (sym (append_assoc (operation_bytes x) (all_bytes xs) r) ∙ e ∙ append_assoc (operation_bytes y) (all_bytes ys) s) in
    let right : AreRight (after_op o x).1 ys = subst (λ (op : Operation). AreRight (after_op o op).1 ys) (sym first.0) q.1 in
    let stuck : IsStuck (run (after_op o x).1 ys).1 s = subst (λ (op : Operation). IsStuck (run (after_op o op).1 ys).1 s) (sym first.0) l in
    let rest = same_ops (after_op o x).1 xs ys r s p.1 right k stuck first.1 in
    (same_cons x y xs ys first.0 rest.0, rest.1)

-- one cut of a stream
one_cut : (ps qs : List Piece) (o p : Open) (r s : List ℕ) → AllByRecursion IsPiece ps → IsOpenPiece o → AllByRecursion IsPiece qs → IsOpenPiece p
    → IsStuck o r → IsStuck p s → stream_of ps o r ≡ stream_of qs p s → (ps ≡ qs) × (o ≡ p) × (r ≡ s)
one_cut ps qs o p r s all good all' good' k l e =
    let g = goes_all ps o all good in
    let h = goes_all qs p all' good' in
    let at_o : (run Between (ops_of ps o)).1 ≡ o = ap (λ (w : List Piece × Open). w.1) g.run_is in
    let at_p : (run Between (ops_of qs p)).1 ≡ p = ap (λ (w : List Piece × Open). w.1) h.run_is in
    let same = same_ops Between (ops_of ps o) (ops_of qs p) r s g.right h.right
    (subst (λ (w : Open). IsStuck w r) (sym at_o) k) (subst (λ (w : Open). IsStuck w s) (sym at_p) l)
    (sym (bytes_all ps o r) ∙ e ∙ bytes_all qs p s) in
    let both : (let w : List Piece × Open = (ps, o) in w) ≡ (qs, p) = sym g.run_is ∙ ap (run Between) same.0 ∙ h.run_is in
    (ap (λ (w : List Piece × Open). w.0) both, ap (λ (w : List Piece × Open). w.1) both, same.1)

pub one_reading : IsOneReading
one_reading bytes ps qs o p r s f g =
    one_cut ps qs o p r s f.each f.good g.each g.good (partial_stuck o r f.partial) (partial_stuck p s g.partial) (sym f.whole ∙ g.whole)

not_both : (phase : Phase) (bytes : List ℕ) (kind : OpKind) → IsPartial phase bytes → Breaks phase bytes kind → ⊥
not_both phase bytes kind p b = elim b [
  | inl w ↦ not_some (header_fault phase (fields bytes)) kind (p.right w.0) w.1
  | inr w ↦ p.less w.0
]

pub good_or_bad : IsGoodOrBad
good_or_bad bytes ps o r place kind f b =
    let same = one_cut ps b.pieces o b.o r b.rest f.each f.good b.each b.good (partial_stuck o r f.partial) (breaks_stuck b.o b.rest kind b.breaks) (sym f.whole ∙ b.whole) in
    not_both (phase_of o) r kind f.partial (subst (λ (w : Open). Breaks (phase_of w) r kind) (sym same.1) (subst (λ (xs : List ℕ). Breaks (phase_of b.o) xs kind) (sym same.2) b.breaks))

one_kind : (phase : Phase) (bytes : List ℕ) (kind another : OpKind) → Breaks phase bytes kind → Breaks phase bytes another → kind ≡ another
one_kind phase bytes kind another b c = elim b [
  | inl v ↦ elim c [ inl w ↦ same_some kind another (sym v.1 ∙ w.1) | inr w ↦ absurd (not_some (header_fault phase (fields bytes)) kind w.1 v.1) ]
  | inr v ↦ elim c [ inl w ↦ absurd (not_some (header_fault phase (fields bytes)) another v.1 w.1) | inr w ↦ same_some kind another (sym v.2 ∙ w.2) ]
]

pub bad_in_one_way : IsBadInOneWay
bad_in_one_way bytes place other kind another b c =
    let same = one_cut b.pieces c.pieces b.o c.o b.rest c.rest b.each b.good c.each c.good (breaks_stuck b.o b.rest kind b.breaks) (breaks_stuck c.o c.rest another c.breaks) (sym b.whole ∙ c.whole) in
    let breaks : Breaks (phase_of b.o) b.rest another = subst (λ (w : Open). Breaks (phase_of w) b.rest another) (sym same.1) (subst (λ (xs : List ℕ). Breaks (phase_of c.o) xs another) (sym same.2) c.breaks) in
    let lens : length b.rest ≡ length c.rest = ap length same.2 in
    (omega (arith, b.place_is, c.place_is), one_kind (phase_of b.o) b.rest kind another b.breaks breaks)

-- its header has room for an operation's number and length
pub record IsStorable (op : Operation) : Type 0 where
  pub tid : op.tid < 2 ^ 32
  pub len : length op.body < 2 ^ 32

right_storable : (o : Open) (ops : List Operation) → AreRight o ops → AllByRecursion IsStorable ops
unfolding AreRight
right_storable o [] right = tt
right_storable o (op ∷ ops) right = (record { tid = right.0.tid; len = right.0.len }, right_storable (after_op o op).1 ops right.1)

pub pieces_storable : (ps : List Piece) → AllByRecursion IsPiece ps → AllByRecursion IsStorable (flat_map operations ps)
pieces_storable ps all = right_storable Between (flat_map operations ps) (goes_pieces ps all).right
