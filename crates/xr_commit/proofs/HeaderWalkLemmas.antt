-- Going from header to header through a body: the headers that were passed, and those that are left.
use Rattle.std.proofs.Common.{◌≡◌, ℕ, zero, suc, ◌+◌, ◌<◌, ◌≤◌, ◌^◌, ◌-◌, ◌∙◌, ltb, List, [], ◌∷◌, ◌++◌, length, drop, take, lit<, refl, sym, ap, arith}
use Rattle.std.proofs.lemmas.Bool.{cond-true, cond-false, lt-ltb, le-ltb}
use Rattle.std.proofs.lemmas.List.{append-nil, append_assoc, length-drop, length_push, drop-drop, take_all}
use Rattle.xr_record.specs.declared.operation.Fields.{Fields}
use Rattle.xr_record.specs.declared.layout.TheConstants.{OPERATION_BYTES}
use Rattle.xr_base.specs.declared.layout.TheConstants.{MAX_BODY_BYTES}
use Rattle.xr_record.specs.Operations.{fields}
use Rattle.xr_commit.specs.Operations.{headers_in, headers_of, operation_len}

-- at a place in the body, after these headers
pub record IsWalk (body : List ℕ) (at : ℕ) (passed : List Fields) : Type 0 where
  pub most : ℕ
  pub enough : length body ≤ most + at
  pub few : length passed ≤ at
  pub near : at < 2 ^ 34
  pub all : headers_of body ≡ passed ++ headers_in most (drop at body)

pub walk_begins : (body : List ℕ) → IsWalk body 0 []
walk_begins body = record { most = length body; enough = omega arith; few = omega arith; near = lit< tt; all = refl }

-- the headers from one that stands whole on, and where none does
pub one_more : (most : ℕ) (bytes : List ℕ) → 0 < most → OPERATION_BYTES ≤ length bytes
    → (m : ℕ) × (most ≡ suc m) × (headers_in most bytes ≡ (fields bytes ∷ headers_in m (drop (operation_len (fields bytes)) bytes)))
one_more zero bytes some whole = absurd (omega arith)
one_more (suc m) bytes some whole =
    (m, refl, cond-false (ltb (length bytes) OPERATION_BYTES) [] (fields bytes ∷ headers_in m (drop (operation_len (fields bytes)) bytes)) (le-ltb (length bytes) OPERATION_BYTES whole))

pub none_left : (most : ℕ) (bytes : List ℕ) → length bytes < OPERATION_BYTES → headers_in most bytes ≡ []
none_left zero bytes short = refl
none_left (suc m) bytes short =
    cond-true (ltb (length bytes) OPERATION_BYTES) [] (fields bytes ∷ headers_in m (drop (operation_len (fields bytes)) bytes)) (lt-ltb (length bytes) OPERATION_BYTES short)

longer : (rest : List ℕ) (len : ℕ) → operation_len (fields rest) ≡ len → 1 ≤ len
longer rest len is = omega arith

-- the bytes from a place on, as the code takes them
pub tail_is : (bytes : ℕ) (body : List ℕ) → take (length body - bytes) (drop bytes body) ≡ drop bytes body
tail_is bytes body = take_all (length body - bytes) (drop bytes body) (let e = length-drop bytes body in omega arith)

pub walk_on : (body header : List ℕ) (at len : ℕ) (passed : List Fields) → header ≡ drop at body → IsWalk body at passed → at + OPERATION_BYTES ≤ length body
    → length body ≤ MAX_BODY_BYTES → len ≡ operation_len (fields header) → len < 2 ^ 33 → IsWalk body (at + len) (passed ++ fields header ∷ [])
walk_on body header at len passed is walk whole short len_is fits =
    let rest : List ℕ = drop at body in
    let long : length rest ≡ length body - at = length-drop at body in
    let enough = walk.enough in
    let next = one_more walk.most rest (omega arith) (omega arith) in
    let len_here : operation_len (fields rest) ≡ len = sym (len_is ∙ ap (λ (xs : List ℕ). operation_len (fields xs)) is) in
    let after : drop (operation_len (fields rest)) rest ≡ drop (at + len) body = ap (λ (n : ℕ). drop n rest) len_here ∙ drop-drop len at body in
    let some : 1 ≤ len = longer rest len len_here in
    record {
      most = next.0;
      enough = let e = next.1 in omega arith;
      few = let f = walk.few in let p = length_push passed (fields header) in omega arith;
      near = omega arith;
      all = walk.all ∙ ap (λ (hs : List Fields). passed ++ hs) (next.2 ∙ ap (λ (xs : List ℕ). fields rest ∷ headers_in next.0 xs) after ∙ ap (λ (xs : List ℕ). fields xs ∷ headers_in next.0 (drop (at + len) body)) (sym is))
          ∙ sym (append_assoc passed (fields header ∷ []) (headers_in next.0 (drop (at + len) body)));
    }

-- where no header stands whole any more, all were passed
pub walk_ends : (body : List ℕ) (at : ℕ) (passed : List Fields) → IsWalk body at passed → length body < at + OPERATION_BYTES → headers_of body ≡ passed
walk_ends body at passed walk over =
    let long : length (drop at body) ≡ length body - at = length-drop at body in
    walk.all ∙ ap (λ (hs : List Fields). passed ++ hs) (none_left walk.most (drop at body) (omega arith)) ∙ append-nil passed
