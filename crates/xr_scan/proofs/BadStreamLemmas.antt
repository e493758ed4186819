-- A stream that breaks a rule is not mended by more bytes.
use Rattle.std.proofs.Common.{◌≡◌, ℕ, ◌+◌, ◌≤◌, ◌∙◌, List, ◌++◌, length, take, drop, Option, Some, None, refl, sym, ap, subst, inl, inr, arith}
use Rattle.std.proofs.lemmas.List.{append_assoc, drop-append-le, length-append, length-drop, take-append-le}
use Rattle.xr_record.specs.declared.operation.Fields.{Fields}
use Rattle.xr_record.specs.declared.operation.Sort.{Sort}
use Rattle.xr_record.specs.declared.rules.OpKind.{OpKind}
use Rattle.xr_record.specs.HoldLaws.{fields-append}
use Rattle.xr_record.specs.Operations.{fields, sort_of}
use Rattle.xr_record.specs.OneWayLaws.{good_or_bad}
use Rattle.xr_record.specs.Rules.{Breaks, HasBody, IsBad, IsStream, Phase, body_fault, header_fault, operation_body, phase_of, whole_fault}
use Rattle.xr_record.specs.Stream.{Open, Piece, all_bytes, begun, operations}
use Rattle.std.specs.List.{flat_map}

same_body : (xs ys : List ℕ) → HasBody xs → operation_body (xs ++ ys) ≡ operation_body xs
same_body xs ys whole =
    let header = whole.header in
    let body = whole.body in
    let left = length-drop 12 xs in
    ap (λ (f : Fields). take f.len (drop 12 (xs ++ ys))) (fields-append xs ys (omega (arith, header)))
    ∙ ap (take (fields xs).len) (drop-append-le 12 xs ys (omega (arith, header)))
    ∙ take-append-le (fields xs).len (drop 12 xs) ys (omega (arith, header, body, left))

whole_on : (state : Phase) (xs ys : List ℕ) (sort : Option Sort) → HasBody xs → whole_fault state (xs ++ ys) sort ≡ whole_fault state xs sort
whole_on state xs ys None whole = refl
whole_on state xs ys (Some sort) whole = ap (body_fault state sort) (same_body xs ys whole)

breaks_on : (state : Phase) (xs ys : List ℕ) (kind : OpKind) → Breaks state xs kind → Breaks state (xs ++ ys) kind
breaks_on state xs ys kind (inl (header, broken)) =
    inl (let e = length-append xs ys in omega (arith, header, e), ap (header_fault state) (fields-append xs ys (omega (arith, header))) ∙ broken)
breaks_on state xs ys kind (inr (whole, right, broken)) =
    let header = whole.header in
    let body = whole.body in
    let e = length-append xs ys in
    let same : fields (xs ++ ys) ≡ fields xs = fields-append xs ys (omega (arith, header)) in
    inr (
      record {
        header = omega (arith, header, e);
        body = subst (λ (f : Fields). 12 + f.len ≤ length (xs ++ ys)) (sym same) (omega (arith, body, e));
      },
      ap (header_fault state) same ∙ right,
      ap (λ (f : Fields). whole_fault state (xs ++ ys) (sort_of f.client f.flags)) same
          ∙ whole_on state xs ys (sort_of (fields xs).client (fields xs).flags) whole ∙ broken,
    )

pub bad_on : (xs ys : List ℕ) (place : ℕ) (kind : OpKind) → IsBad xs place kind → IsBad (xs ++ ys) place kind
bad_on xs ys place kind bad = record {
  pieces = bad.pieces;
  o = bad.o;
  rest = bad.rest ++ ys;
  whole = ap (λ (bytes : List ℕ). bytes ++ ys) bad.whole
      ∙ append_assoc (all_bytes (flat_map operations bad.pieces)) (all_bytes (begun bad.o) ++ bad.rest) ys
      ∙ ap (λ (bytes : List ℕ). all_bytes (flat_map operations bad.pieces) ++ bytes) (append_assoc (all_bytes (begun bad.o)) bad.rest ys);
  each = bad.each;
  good = bad.good;
  place_is = let e = length-append xs ys in let f = length-append bad.rest ys in let g = bad.place_is in omega (arith, e, f, g);
  breaks = breaks_on (phase_of bad.o) bad.rest ys kind bad.breaks;
}

-- so no front of a right stream is bad
pub front_is_right : (xs ys : List ℕ) (pieces : List Piece) (o : Open) (rest : List ℕ) (place : ℕ) (kind : OpKind) → IsStream (xs ++ ys) pieces o rest → IsBad xs place kind → ⊥
front_is_right xs ys pieces o rest place kind right bad = good_or_bad (xs ++ ys) pieces o rest place kind right (bad_on xs ys place kind bad)
