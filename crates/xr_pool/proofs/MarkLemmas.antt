-- The marks from a place on.
use Rattle.std.proofs.Common.{◌≡◌, ℕ, zero, suc, ◌+◌, ◌-◌, ◌<◌, ◌≤◌, Bool, true, false, List, [], ◌∷◌, drop, get_or, length, replicate, slice_index, add-one, refl, sym, ap, ◌∙◌, arith}
use Rattle.std.proofs.Math.ListN.{drop_of_length-le}
use Rattle.std.proofs.Math.Seq.{drop-cons}
use Rattle.std.proofs.lemmas.List.{ext_get_or, get_or_default, get_or-replicate, length-replicate}
use Rattle.xr_pool.specs.Marks.{AreSameUnmarked, marked}

marked_from : (i : ℕ) (mark : Bool) (rest : List Bool) → mark ≡ true → marked i (mark ∷ rest) ≡ i ∷ marked (suc i) rest
unfolding marked
marked_from i true rest is = refl
marked_from i false rest is = cc

unmarked_from : (i : ℕ) (mark : Bool) (rest : List Bool) → mark ≡ false → marked i (mark ∷ rest) ≡ marked (suc i) rest
unfolding marked
unmarked_from i true rest is = cc
unmarked_from i false rest is = refl

marked_here : (marks : List Bool) (i : ℕ) (d : Bool) → i < length marks → get_or marks i d ≡ true
    → marked i (drop i marks) ≡ i ∷ marked (i + 1) (drop (i + 1) marks)
marked_here marks i d within is =
    rw (add-one i) (ap (marked i) (drop-cons marks i d within) ∙ marked_from i (get_or marks i d) (drop (suc i) marks) is)

pub unmarked_here : (marks : List Bool) (i : ℕ) (d : Bool) → i < length marks → get_or marks i d ≡ false
    → marked i (drop i marks) ≡ marked (i + 1) (drop (i + 1) marks)
unmarked_here marks i d within is =
    rw (add-one i) (ap (marked i) (drop-cons marks i d within) ∙ unmarked_from i (get_or marks i d) (drop (suc i) marks) is)

-- no place comes after the last
pub marked_past : (i : ℕ) (marks : List Bool) → length marks ≤ i → marked i (drop i marks) ≡ []
unfolding marked
marked_past i marks past = ap (marked i) (drop_of_length-le marks past)

-- a mark more is counted
pub mark_counted : (marks : List Bool) (i : ℕ) (d : Bool) (count all : ℕ) → i < length marks → get_or marks i d ≡ true
    → count + length (marked i (drop i marks)) ≡ all → count + 1 + length (marked (i + 1) (drop (i + 1) marks)) ≡ all
mark_counted marks i d count all within is so_far = omega (arith, ap length (marked_here marks i d within is))

-- the mark that is looked for stands after this one
pub record IsAfter (marks : List Bool) (i left place : ℕ) : Type 0 where
  pub some : left < length (marked i (drop i marks))
  pub rest : slice_index (marked i (drop i marks)) left ≡ place

pub mark_found : (marks : List Bool) (i : ℕ) (d : Bool) (left place : ℕ) → i < length marks → get_or marks i d ≡ true → left ≡ 0
    → IsAfter marks i left place → i ≡ place
mark_found marks i d left place within is last here =
    ap (λ (places : List ℕ). slice_index places 0) (sym (marked_here marks i d within is))
    ∙ ap (λ (n : ℕ). slice_index (marked i (drop i marks)) n) (sym last) ∙ here.rest

pub mark_passed : (marks : List Bool) (i : ℕ) (d : Bool) (left place : ℕ) → i < length marks → get_or marks i d ≡ true → 0 < left
    → IsAfter marks i left place → IsAfter marks (i + 1) (left - 1) place
mark_passed marks i d zero place within is later here = absurd (omega arith)
mark_passed marks i d (suc left) place within is later here =
    let split = marked_here marks i d within is in
    let rest : slice_index (marked (i + 1) (drop (i + 1) marks)) left ≡ place =
    ap (λ (places : List ℕ). slice_index places (suc left)) (sym split) ∙ here.rest in
    let one : suc left - 1 ≡ left = omega arith in
    record { some = omega (arith, ap length split, here.some); rest = rw one rest }

pub none_passed : (marks : List Bool) (i : ℕ) (d : Bool) (left place : ℕ) → i < length marks → get_or marks i d ≡ false
    → IsAfter marks i left place → IsAfter marks (i + 1) left place
none_passed marks i d left place within is here =
    let same = unmarked_here marks i d within is in
    record { some = omega (arith, ap length same, here.some); rest = ap (λ (places : List ℕ). slice_index places left) (sym same) ∙ here.rest }

-- all marks are taken away
pub cleared_is : (n : ℕ) (marks : List Bool) → length marks ≡ n → ((k : ℕ) → k < n → get_or marks k false ≡ false) → marks ≡ replicate n false
cleared_is n marks long none =
    ext_get_or false marks (replicate n false) (long ∙ sym (length-replicate n false))
    (λ (k : ℕ) (below : k < length marks). let within : k < n = omega arith in none k within ∙ sym (get_or-replicate n k false false within))

-- where no mark is left, the blocks are the same
pub copied_is : (from to : List (List ℕ)) (marks : List Bool) → length to ≡ length from → length marks ≡ length from
    → ((k : ℕ) → k < length from → get_or marks k false ≡ false) → AreSameUnmarked from to marks → to ≡ from
copied_is from to marks sizes long none same =
    ext_get_or [] to from sizes
    (λ (k : ℕ) (below : k < length to).
    let within : k < length from = omega arith in
    let clear : get_or marks k true ≡ false = get_or_default marks k true false (omega arith) ∙ none k within in
    sym (same k clear))
