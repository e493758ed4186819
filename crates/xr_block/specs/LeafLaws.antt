-- The records of a leaf, read where they stand.
use Rattle.std.proofs.Common.{◌≡◌, ℕ, zero, suc, ◌+◌, ◌*◌, ◌<◌, ◌≤◌, Option, Some, None, List, ◌++◌, length, take, drop, get_or, refl, sym, ap, ◌∙◌, arith}
use Rattle.std.proofs.lemmas.List.{drop-drop}
use Rattle.std.proofs.lemmas.Option.{slice_get-get_or}
use Rattle.std.specs.List.{slice_get}
use Rattle.std.specs.Option.{option_to_list}
use Rattle.xr_base.specs.Image.{part}
use Rattle.xr_kinds.specs.Form.{Form, header_size}
use Rattle.xr_block.specs.Leaf.{IsLeaf}
use Rattle.xr_block.specs.TreeBlock.{count_in, records_from, records_in}
use Rattle.xr_block.specs.PartLaws.{some_element}

one_more : {X : Type 0} (t : Option X) (xs : List X) (n : ℕ) → length xs ≤ n → length (option_to_list t ++ xs) ≤ suc n
one_more None xs n few = omega arith
one_more (Some x) xs n few = omega arith

few_from : {X : Type 0} (form : Form X) (n : ℕ) (bytes : List ℕ) → length (records_from form n bytes) ≤ n
unfolding records_from
few_from form zero bytes = omega arith
few_from form (suc n) bytes = one_more (form.taken (take form.size bytes)) _ n (few_from form n (drop form.size bytes))

-- where no record is missing, there is one in front
front : {X : Type 0} (t : Option X) (xs : List X) (n : ℕ) → length (option_to_list t ++ xs) ≡ suc n → length xs ≤ n → (x : X) × (t ≡ Some x) × (length xs ≡ n)
front None xs n all few = absurd (omega arith)
front (Some x) xs n all few = (x, refl, omega arith)

read_from : {X : Type 0} (form : Form X) (n : ℕ) (bytes : List ℕ) (k : ℕ) (d : X) → length (records_from form n bytes) ≡ n → k < n
    → form.taken (take form.size (drop (form.size * k) bytes)) ≡ Some (get_or (records_from form n bytes) k d)
unfolding records_from
read_from form zero bytes k d all within = absurd (omega arith)
read_from form (suc n) bytes zero d all within =
    let first = front (form.taken (take form.size bytes)) (records_from form n (drop form.size bytes)) n all (few_from form n (drop form.size bytes)) in
    let none : form.size * 0 ≡ 0 = omega arith in
    rw (none, first.1) refl
read_from form (suc n) bytes (suc k) d all within =
    let rest : List ℕ = drop form.size bytes in
    let first = front (form.taken (take form.size bytes)) (records_from form n rest) n all (few_from form n rest) in
    let next : form.size * suc k ≡ form.size + form.size * k = omega arith in
    rw (next, ← drop-drop (form.size * k) form.size bytes, first.1) (read_from form n rest k d first.2 (omega arith))

pub record_read : {X : Type 0} (form : Form X) (bytes : List ℕ) (k : ℕ) → IsLeaf form bytes → k < count_in bytes
    → form.taken (part (header_size form + form.size * k) form.size bytes) ≡ slice_get (records_in form bytes) k
record_read form bytes k leaf within =
    let d = some_element (records_in form bytes) (omega (arith, leaf.counted)) in
    ap (λ (xs : List ℕ). form.taken (take form.size xs)) (sym (drop-drop (form.size * k) (header_size form) bytes))
    ∙ read_from form (count_in bytes) (drop (header_size form) bytes) k d leaf.counted within
    ∙ sym (slice_get-get_or (records_in form bytes) k d (omega (arith, leaf.counted)))
