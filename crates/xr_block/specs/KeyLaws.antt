-- The greatest of some keys, and the key that a block gives, in two parts.
use Rattle.std.proofs.Common.{◌≡◌, ◌↔◌, Bool, IsTrue, ℕ, suc, ◌+◌, ◌-◌, ◌*◌, ◌<◌, ◌≤◌, Option, Some, List, [], ◌∷◌, ◌++◌, length, map, take, drop, get_or, refl, sym, ap, ◌∙◌, arith, drop-cons}
use Rattle.std.specs.Cmp.Lexicographic.{slice_cmp, slice_partial_cmp}
use Rattle.std.specs.Ordering.{is_lt, is_some_and, nat_cmp, ordering_then, partial_ordering_then}
use Rattle.std.proofs.lemmas.List.{drop_all, drop_at, length-drop, length-take-le, nil_from_length, take-append-drop, take_all, take_at}
use Rattle.std.proofs.Math.Nat.{mul-le-mul_right}
use Rattle.xr_base.specs.declared.geometry.TheConstants.{BLOCK_BYTES}
use Rattle.xr_kinds.specs.Form.{Form, IsForm, header_size, key_size}
use Rattle.xr_block.specs.NodeEntries.{key_in}
use Rattle.xr_block.specs.Rows.{greater_key, greatest_key, key_of_entries, key_of_records}
use Rattle.xr_block.specs.TreeBlock.{Entry}
use Rattle.xr_block.specs.NodeEntries.{high_part}
use Rattle.std.specs.declared.cmp.Ordering.{Ordering}
use Rattle.std.specs.declared.cmp.Ordering.TheVariants.{Less, Equal, Greater}

then_same : (o : Ordering) (p : Option Ordering) (q : Ordering) → is_some_and is_lt p ≡ is_lt q
    → is_some_and is_lt (partial_ordering_then (Some o) p) ≡ is_lt (ordering_then o q)
then_same Less p q same = refl
then_same Equal p q same = same
then_same Greater p q same = refl

pub checked_order : (xs ys : List ℕ) → is_some_and is_lt (slice_partial_cmp (λ x y. Some (nat_cmp x y)) xs ys) ≡ is_lt (slice_cmp nat_cmp xs ys)
checked_order [] [] = refl
checked_order [] (y ∷ ys) = refl
checked_order (x ∷ xs) [] = refl
checked_order (x ∷ xs) (y ∷ ys) = then_same (nat_cmp x y) _ _ (checked_order xs ys)

pub nothing_less : (key : List ℕ) → greater_key key [] ≡ key
nothing_less [] = refl
nothing_less (x ∷ xs) = refl

pub rest_all : (key : List ℕ) (n : ℕ) → take (length key - n) (drop n key) ≡ drop n key
rest_all key n = take_all (length key - n) (drop n key) (omega (arith, length-drop n key))

from_nth : {X : Type 0} (xs : List X) (k : ℕ) (d : X) → k < length xs → drop k xs ≡ get_or xs k d ∷ drop (k + 1) xs
from_nth xs k d within = drop-cons xs k d within ∙ ap (λ (m : ℕ). get_or xs k d ∷ drop m xs) (let e : suc k ≡ k + 1 = omega arith in e)

-- the greatest of keys without bytes
pub greatest_none : {X : Type 0} (key : X → List ℕ) (xs : List X) → ((x : X) → length (key x) ≡ 0) → greatest_key (map key xs) ≡ []
unfolding greatest_key
greatest_none key [] none = refl
greatest_none key (x ∷ xs) none =
    ap (greater_key (key x)) (greatest_none key xs none) ∙ nothing_less (key x) ∙ nil_from_length (key x) (none x)

-- the greatest key of the last item, and of one more
pub greatest_last : {X : Type 0} (key : X → List ℕ) (xs : List X) (k : ℕ) (last : List ℕ) → length xs ≡ k + 1 → ((d : X) → last ≡ key (get_or xs k d))
    → last ≡ greatest_key (map key (drop k xs))
unfolding greatest_key
greatest_last key [] k last long is = absurd (omega (arith, long))
greatest_last key (x ∷ xs) k last long is =
    let all : List _ = x ∷ xs in
    let none : drop (k + 1) all ≡ [] = drop_all (k + 1) all (omega (arith, long)) in
    is x ∙ sym (nothing_less (key (get_or all k x))) ∙ ap (λ (ys : List _). greatest_key (map key (get_or all k x ∷ ys))) (sym none)
    ∙ ap (λ (ys : List _). greatest_key (map key ys)) (sym (from_nth all k x (omega (arith, long))))

pub greatest_more : {X : Type 0} (key : X → List ℕ) (xs : List X) (k j : ℕ) (next best : List ℕ) → j + 1 ≡ k → k ≤ length xs
    → ((d : X) → next ≡ key (get_or xs j d)) → best ≡ greatest_key (map key (drop k xs)) → greater_key next best ≡ greatest_key (map key (drop j xs))
unfolding greatest_key
greatest_more key [] k j next best sum within is greatest = absurd (omega (arith, sum, within))
greatest_more key (x ∷ xs) k j next best sum within is greatest =
    let all : List _ = x ∷ xs in
    ap (greater_key next) greatest ∙ ap (λ (m : ℕ). greater_key next (greatest_key (map key (drop m all)))) (sym sum)
    ∙ ap (λ (first : List ℕ). greater_key first (greatest_key (map key (drop (j + 1) all)))) (is x)
    ∙ ap (λ (ys : List _). greatest_key (map key ys)) (sym (from_nth all j x (omega (arith, sum, within))))

-- a key in two parts
pub in_parts : (key low high : List ℕ) (n : ℕ) → length low ≡ n → key ≡ low ++ high ↔ ((take n key ≡ low) × (take (length key - n) (drop n key) ≡ high))
in_parts key low high n long = (
  λ is. (
    ap (take n) is ∙ take_at low high n long,
    rest_all key n ∙ ap (drop n) is ∙ drop_at low high n long,
  ),
  λ both. sym (take-append-drop n key) ∙ ap (λ (xs : List ℕ). xs ++ drop n key) both.0 ∙ ap (λ (xs : List ℕ). low ++ xs) (sym (rest_all key n) ∙ both.1),
)

-- so it is right where both parts are
pub checked_key : (all low_all high_all : Bool) (key low high whole : List ℕ) (l h n : ℕ) → l ≡ n → h ≡ n → length low ≡ n → whole ≡ low ++ high
    → (IsTrue low_all ↔ (take l key ≡ low)) → (IsTrue high_all ↔ (take (length key - h) (drop h key) ≡ high))
    → (IsTrue all ↔ (IsTrue low_all × IsTrue high_all)) → IsTrue all ↔ (key ≡ whole)
checked_key all low_all high_all key low high whole l h n is_l is_h long parts low_is high_is both_are =
    let split = in_parts key low high n long in
    let low_same : take l key ≡ take n key = ap (λ (m : ℕ). take m key) is_l in
    let high_same : take (length key - h) (drop h key) ≡ take (length key - n) (drop n key) = ap (λ (m : ℕ). take (length key - m) (drop m key)) is_h in (
      λ good. split.1 (sym low_same ∙ low_is.0 (both_are.0 good).0, sym high_same ∙ high_is.0 (both_are.0 good).1) ∙ sym parts,
      λ is. both_are.1 (low_is.1 (low_same ∙ (split.0 (is ∙ parts)).0), high_is.1 (high_same ∙ (split.0 (is ∙ parts)).1)),
    )

pub records_key : {X : Type 0} (form : Form X) (records : List X) (r : X) → 0 < length records → ((d : X) → r ≡ get_or records 0 d)
    → key_of_records form records ≡ form.low_of r ++ greatest_key (map form.high_of records)
unfolding key_of_records
records_key form [] r some first = absurd (omega (arith, some))
records_key form (x ∷ xs) r some first = ap (λ (y : _). form.low_of y ++ greatest_key (map form.high_of (x ∷ xs))) (sym (first r))

pub entries_key : {X : Type 0} (form : Form X) (entries : List Entry) (key high : List ℕ) (bound : ℕ) → 0 < length entries
    → ((d : Entry) → (get_or entries 0 d).key ≡ key) → bound ≡ form.low → high ≡ greatest_key (map (high_part form) entries)
    → key_of_entries form entries ≡ take bound key ++ high
unfolding key_of_entries
entries_key form [] key high bound some first is greatest = absurd (omega (arith, some))
entries_key form (e ∷ es) key high bound some first is greatest =
    ap (λ (bytes : List ℕ). take form.low bytes ++ greatest_key (map (high_part form) (e ∷ es))) (first e)
    ∙ ap (λ (n : ℕ). take n key ++ greatest_key (map (high_part form) (e ∷ es))) (sym is) ∙ ap (λ (bytes : List ℕ). take bound key ++ bytes) (sym greatest)

-- a key of a node has its length
pub length-key : {X : Type 0} (form : Form X) (laws : IsForm form) (k : ℕ) (bytes : List ℕ) → length bytes ≡ BLOCK_BYTES → k < form.node_max
    → length (key_in form k bytes) ≡ key_size form
length-key form laws k bytes long within =
    let below : suc k * key_size form ≤ form.node_max * key_size form = mul-le-mul_right (key_size form) within in
    let place : ℕ = header_size form + key_size form * k in
    length-take-le (key_size form) (drop place bytes) (omega (arith, below, laws.node_fits, long, length-drop place bytes))
