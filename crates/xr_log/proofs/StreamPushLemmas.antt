-- What one more operation makes of a stream and of a body.
use Rattle.std.proofs.Common.{◌≡◌, ◌≢◌, ℕ, zero, suc, ◌+◌, ◌≤◌, ◌∙◌, ltb, Bool, true, false, ◌||◌, List, [], ◌∷◌, ◌++◌, length, drop, map, refl, sym, ap, arith}
use Rattle.std.specs.Prelude.{sum_by}
use Rattle.std.specs.List.{AllByRecursion, flat_map, list_any}
use Rattle.std.proofs.lemmas.Bool.{cond-true, cond-false, lt-ltb, le-ltb}
use Rattle.std.proofs.lemmas.Grind.{flat_map-append}
use Rattle.std.proofs.lemmas.List.{append-nil, append_assoc, drop_at, length-append, length-map}
use Rattle.std.proofs.lemmas.List.Sums.{sum_by-cons}
use Rattle.xr_record.specs.declared.operation.Fields.{Fields}
use Rattle.xr_record.specs.declared.operation.Sort.{Sort}
use Rattle.xr_record.specs.declared.operation.Sort.TheVariants.{Start, Whole, First, Middle, Last, Commit, Unmount}
use Rattle.xr_record.specs.declared.layout.TheConstants.{OPERATION_BYTES}
use Rattle.xr_record.specs.OneWayLaws.{fields_of_op, length_op, op_fields}
use Rattle.xr_record.specs.OperationLaws.{all_push}
use Rattle.xr_record.specs.Operations.{Operation, fields, operation_bytes}
use Rattle.xr_record.specs.Rules.{IsPartial, Phase, phase_of}
use Rattle.xr_record.specs.Stream.{Between, IsPiece, Transaction, all_bytes, begun, commit, operations, transaction_front}
use Rattle.xr_commit.specs.Operations.{headers_in, headers_of, is_unmount, operation_len}
use Rattle.xr_log.specs.Gathered.{IsPushed}
use Rattle.xr_log.specs.Pushes.{BodyIsRight, StreamEnds, StreamGoesOn}

-- nothing is left over
none_partial : (phase : Phase) → IsPartial phase []
none_partial phase = record { less = λ has. absurd (let h = has.header in omega (arith, h)); right = λ whole. absurd (omega (arith, whole)) }

one_bytes : (op : Operation) → all_bytes (op ∷ []) ≡ operation_bytes op
one_bytes op = append-nil (operation_bytes op)

pub stream_goes_on : StreamGoesOn
stream_goes_on bytes pieces o next op s is good = record {
  whole = ap (λ (xs : List ℕ). xs ++ operation_bytes op) s.whole
      ∙ append_assoc (all_bytes (flat_map operations pieces)) (all_bytes (begun o) ++ []) (operation_bytes op)
      ∙ ap (λ (xs : List ℕ). all_bytes (flat_map operations pieces) ++ xs)
      (ap (λ (xs : List ℕ). xs ++ operation_bytes op) (append-nil (all_bytes (begun o)))
      ∙ sym (append-nil (all_bytes (begun next)) ∙ ap all_bytes is ∙ flat_map-append operation_bytes (begun o) (op ∷ [])
      ∙ ap (λ (xs : List ℕ). all_bytes (begun o) ++ xs) (one_bytes op)));
  each = s.each;
  good = good;
  partial = none_partial (phase_of next);
}

pub stream_ends : StreamEnds
stream_ends bytes pieces t s is = record {
  whole = ap (λ (xs : List ℕ). xs ++ operation_bytes (commit t.tid)) s.whole
      ∙ append_assoc (all_bytes (flat_map operations pieces)) (all_bytes (transaction_front t) ++ []) (operation_bytes (commit t.tid))
      ∙ ap (λ (xs : List ℕ). all_bytes (flat_map operations pieces) ++ xs)
      (ap (λ (xs : List ℕ). xs ++ operation_bytes (commit t.tid)) (append-nil (all_bytes (transaction_front t)))
      ∙ ap (λ (xs : List ℕ). all_bytes (transaction_front t) ++ xs) (sym (one_bytes (commit t.tid)))
      ∙ sym (flat_map-append operation_bytes (transaction_front t) (commit t.tid ∷ [])))
      ∙ sym (ap all_bytes (flat_map-append operations pieces (Transaction t ∷ []) ∙ ap (λ (os : List Operation). flat_map operations pieces ++ os) (append-nil (operations (Transaction t))))
      ∙ flat_map-append operation_bytes (flat_map operations pieces) (operations (Transaction t)))
      ∙ sym (append-nil (all_bytes (flat_map operations (pieces ++ Transaction t ∷ []))));
  each = all_push IsPiece pieces (Transaction t) s.each is;
  good = tt;
  partial = none_partial (phase_of Between);
}

-- the headers of operations
headers_are : (most : ℕ) (ops : List Operation) → AllByRecursion IsPushed ops → length (all_bytes ops) ≤ most → headers_in most (all_bytes ops) ≡ map op_fields ops
headers_are zero [] each enough = refl
headers_are (suc m) [] each enough = cond-true (ltb 0 OPERATION_BYTES) [] (fields [] ∷ headers_in m (drop (operation_len (fields [])) [])) (lt-ltb 0 OPERATION_BYTES (omega arith))
headers_are zero (op ∷ ops) each enough =
    let long = length_op op in
    let whole = length-append (operation_bytes op) (all_bytes ops) in
    absurd (omega (arith, long, whole, enough))
headers_are (suc m) (op ∷ ops) each enough =
    let rest = all_bytes ops in
    let bytes : List ℕ = operation_bytes op ++ rest in
    let long = length_op op in
    let whole : length bytes ≡ 12 + length op.body + length rest = length-append (operation_bytes op) rest ∙ ap (λ (n : ℕ). n + length rest) long in
    let here : fields bytes ≡ op_fields op = fields_of_op op rest each.0.tid each.0.len in
    let behind : drop (operation_len (fields bytes)) bytes ≡ rest =
    ap (λ (f : Fields). drop (operation_len f) bytes) here ∙ drop_at (operation_bytes op) rest (12 + length op.body) long in
    cond-false (ltb (length bytes) OPERATION_BYTES) [] (fields bytes ∷ headers_in m (drop (operation_len (fields bytes)) bytes)) (le-ltb (length bytes) OPERATION_BYTES (omega (arith, whole)))
    ∙ ap (λ (xs : List ℕ). fields bytes ∷ headers_in m xs) behind
    ∙ ap (λ (f : Fields). f ∷ headers_in m rest) here
    ∙ ap (λ (fs : List Fields). op_fields op ∷ fs) (headers_are m ops each.1 (omega (arith, enough, whole)))

summed : (ops : List Operation) → sum_by operation_len (map op_fields ops) ≡ length (all_bytes ops)
summed [] = refl
summed (op ∷ ops) =
    sum_by-cons operation_len (op_fields op) (map op_fields ops) ∙ ap (λ (n : ℕ). operation_len (op_fields op) + n) (summed ops)
    ∙ ap (λ (n : ℕ). n + length (all_bytes ops)) (sym (length_op op)) ∙ sym (length-append (operation_bytes op) (all_bytes ops))

by_sort : (tid : ℕ) (body : List ℕ) (sort : Sort) → sort ≢ Unmount → is_unmount (op_fields (record { tid = tid; sort = sort; body = body })) ≡ false
by_sort tid body Start own = refl
by_sort tid body Whole own = refl
by_sort tid body First own = refl
by_sort tid body Middle own = refl
by_sort tid body Last own = refl
by_sort tid body Commit own = refl
by_sort tid body Unmount own = absurd (own refl)

none_unmounts : (ops : List Operation) → AllByRecursion IsPushed ops → list_any is_unmount (map op_fields ops) ≡ false
none_unmounts [] each = refl
none_unmounts (op ∷ ops) each =
    ap (λ (b : Bool). b || list_any is_unmount (map op_fields ops)) (by_sort op.tid op.body op.sort each.0.own) ∙ none_unmounts ops each.1

pub body_is_right : BodyIsRight
body_is_right r ops each is number =
    let headers : headers_of r.body ≡ map op_fields ops =
    ap headers_of is ∙ headers_are (length (all_bytes ops)) ops each (omega arith) in (
      record {
        whole = ap (sum_by operation_len) headers ∙ summed ops ∙ ap length (sym is);
        number = ap length headers ∙ length-map ops op_fields ∙ sym number;
      },
      λ holds. absurd (let e : list_any is_unmount (headers_of r.body) ≡ false = ap (list_any is_unmount) headers ∙ none_unmounts ops each in let h : list_any is_unmount (headers_of r.body) ≡ true = holds in cc),
    )
