-- What an exchange does to what the maps hold: slot by slot, and to the owners of a block.
use Rattle.xr_maps.specs.StepLaws.{sum_below-same}
use Rattle.std.proofs.Common.{◌≡◌, ℕ, ◌+◌, ◌-◌, ◌<◌, ◌≤◌, zero, suc, cond, eqb, arith, refl, ap, sym, ◌∙◌, true, false, Bool, ⊎_elim, Option}
use Rattle.std.specs.Prelude.{◌&&◌}
use Rattle.std.proofs.lemmas.Bool.{cases_eq, eq-eqb, ne_eqb}
use Rattle.xr_base.specs.declared.address.FileNo.{FileNo}
use Rattle.xr_base.specs.declared.address.Addr.{Addr}
use Rattle.xr_base.specs.declared.geometry.TheConstants.{FILES, OFFSETS}
use Rattle.xr_base.specs.Address.{address_of}
use Rattle.xr_maps.specs.FileMaps.{FileMaps, address_at}
use Rattle.xr_maps.specs.Records.{maps_to}
use Rattle.xr_maps.specs.declared.steps.Step.TheVariants.{Exchange}
use Rattle.xr_maps.specs.Steps.{is_within, applied}
use Rattle.xr_maps.specs.Holdings.{holds, one_if, sum_below, owners_of_file}
use Rattle.xr_maps.specs.StepLaws.{exchange_swaps, in_or_out, in_range, below_range, above_range}
use Rattle.xr_balance.specs.ExchangeLaws.{ExchangeMoves, ExchangeKeepsOwners}
use Rattle.xr_balance.proofs.CountSlots.{sum_below-balance, sum_below-none, sum_below-one}
use Rattle.xr_balance.proofs.StepLaneLemmas.{below-add}

-- a range's offsets, each as far from its first one
abbrev at_range : ℕ → ℕ → (ℕ → ℕ) → ℕ → ℕ
at_range off len g o = cond (is_within off len o) (g (o - off)) 0

window_part : (off len : ℕ) (g : ℕ → ℕ) (j : ℕ) → j ≤ len → sum_below (off + j) (at_range off len g) ≡ sum_below j g
unfolding sum_below
window_part off len g zero le = ap (λ n. sum_below n (at_range off len g)) (omega arith) ∙ sum_below-none off (at_range off len g) (λ k l. ap (λ t. cond t (g (k - off)) 0) (below_range off len k l))
window_part off len g (suc j) le =
    let n : off + suc j ≡ suc (off + j) = omega arith in
    let place : off + j - off ≡ j = omega arith in
    let here : at_range off len g (off + j) ≡ g j = ap (λ t. cond t (g (off + j - off)) 0) (in_range off len (off + j) (omega arith) (omega (arith, le))) ∙ ap g place in
    ap (λ m. sum_below m (at_range off len g)) n ∙ omega (arith, here, window_part off len g j (omega (arith, le)))

window_past : (off len : ℕ) (g : ℕ → ℕ) (r : ℕ) → sum_below (off + len + r) (at_range off len g) ≡ sum_below (off + len) (at_range off len g)
unfolding sum_below
window_past off len g zero = ap (λ n. sum_below n (at_range off len g)) (omega arith)
window_past off len g (suc r) =
    let n : off + len + suc r ≡ suc (off + len + r) = omega arith in
    let none : at_range off len g (off + len + r) ≡ 0 = ap (λ t. cond t (g (off + len + r - off)) 0) (above_range off len (off + len + r) (omega arith)) in
    ap (λ m. sum_below m (at_range off len g)) n ∙ omega (arith, none, window_past off len g r)

-- the sum over the offsets of a range
window : (off len rest : ℕ) (g : ℕ → ℕ) → sum_below (off + len + rest) (at_range off len g) ≡ sum_below len g
window off len rest g = window_past off len g rest ∙ window_part off len g len (omega arith)

pub and_split : (s t : Bool) (n : ℕ) → cond (s && t) n 0 ≡ cond s (cond t n 0) 0
and_split true t n = refl
and_split false t n = refl

-- the sum over a range of a file, among all files and offsets
range_sum : (file off len : ℕ) (k : ℕ → ℕ → ℕ) → file < FILES → off + len ≤ OFFSETS
    → sum_below FILES (λ f. sum_below OFFSETS (λ o. cond (eqb file f && is_within off len o) (k f (o - off)) 0)) ≡ sum_below len (k file)
range_sum file off len k is_file fits =
    let rest : ℕ = OFFSETS - (off + len) in
    let whole : OFFSETS ≡ off + len + rest = omega (arith, fits) in
    sum_below-one FILES file _ is_file (λ f _ ne. sum_below-none OFFSETS _ (λ o _. and_split (eqb file f) (is_within off len o) (k f (o - off)) ∙ ap (λ t. cond t (cond (is_within off len o) (k f (o - off)) 0) 0) (ne_eqb file f (λ e. ne (sym e)))))
    ∙ sum_below-same OFFSETS _ _ (λ o. and_split (eqb file file) (is_within off len o) (k file (o - off)) ∙ ap (λ t. cond t (cond (is_within off len o) (k file (o - off)) 0) 0) (eq-eqb file file refl))
    ∙ ap (λ n. sum_below n (λ o. cond (is_within off len o) (k file (o - off)) 0)) whole ∙ window off len rest (k file)

-- the same of what stands at the offsets themselves
own_range_sum : (file off len : ℕ) (k : ℕ → ℕ → ℕ) → file < FILES → off + len ≤ OFFSETS
    → sum_below FILES (λ f. sum_below OFFSETS (λ o. cond (eqb file f && is_within off len o) (k f o) 0)) ≡ sum_below len (λ j. k file (off + j))
own_range_sum file off len k is_file fits =
    sum_below-same FILES _ _ (λ f. sum_below-same OFFSETS _ _ (λ o. ⊎_elim
    (λ it. ap (λ n. cond (eqb file f && is_within off len o) (k f n) 0) (omega (arith, it.0)))
    (λ out. ap (λ t. cond (eqb file f && t) (k f o) 0) out ∙ none (eqb file f) (k f o) (k f (off + (o - off))) ∙ ap (λ t. cond (eqb file f && t) (k f (off + (o - off))) 0) (sym out))
    (in_or_out off len o)))
    ∙ range_sum file off len (λ f j. k f (off + j)) is_file fits
  where
    none : (s : Bool) (x y : ℕ) → cond (s && false) x 0 ≡ cond (s && false) y 0
    none true x y = refl
    none false x y = refl

eqb_sym : (m n : ℕ) → eqb m n ≡ eqb n m
eqb_sym m n = ⊎_elim (λ e. rw (eq-eqb m n e, eq-eqb n m (sym e)) refl) (λ ne. rw (ne_eqb m n ne, ne_eqb n m (λ e. ne (sym e))) refl) (cases_eq m n)

-- of two ranges that have nothing in common one slot is swapped into at most one
pick : (s t : Bool) (x y z : Option Addr) (h : Option Addr → ℕ) → (s ≡ true → t ≡ true → ⊥) → h (cond s x (cond t y z)) + (cond s (h z) 0 + cond t (h z) 0) ≡ h z + (cond s (h x) 0 + cond t (h y) 0)
pick true true x y z h not = absurd (not refl refl)
pick true false x y z h not = omega arith
pick false true x y z h not = omega arith
pick false false x y z h not = omega arith

both_true : (m n off len o : ℕ) → (eqb m n && is_within off len o) ≡ true → (m ≡ n) × (off ≤ o) × (o < off + len)
both_true m n off len o it = ⊎_elim
    (λ e. ⊎_elim
    (λ inside. (e, inside.0, inside.1))
    (λ out. absurd (omega (arith, ap one_if (sym it ∙ ap (λ t. eqb m n && t) out ∙ none (eqb m n)))))
    (in_or_out off len o))
    (λ ne. absurd (omega (arith, ap one_if (sym it ∙ ap (λ t. t && is_within off len o) (ne_eqb m n ne)))))
    (cases_eq m n)
  where
    none : (s : Bool) → (s && false) ≡ false
    none true = refl
    none false = refl

-- what an exchange does to what the maps hold
pub exchange_moves : ExchangeMoves
exchange_moves M file off other other_off len good fits f o b =
    let range = fits.0 in
    let other_range = fits.1 in
    let apart = fits.2 in
    let h : Option Addr → ℕ = λ slot. one_if (maps_to (address_of b) slot) in
    let x : Option Addr = address_at M other.0 (other_off + (o - off)) in
    let y : Option Addr = address_at M file.0 (off + (o - other_off)) in
    let z : Option Addr = address_at M f o in
    let is : address_at (applied (Exchange file off other other_off len) M) f o ≡ cond (eqb file.0 f && is_within off len o) x (cond (eqb other.0 f && is_within other_off len o) y z) =
    exchange_swaps M file off other other_off len good range other_range f o
    ∙ ap (λ t. cond (t && is_within off len o) x (cond (eqb f other.0 && is_within other_off len o) y z)) (eqb_sym f file.0)
    ∙ ap (λ t. cond (eqb file.0 f && is_within off len o) x (cond (t && is_within other_off len o) y z)) (eqb_sym f other.0) in
    omega (
      arith,
      ap h is,
      pick (eqb file.0 f && is_within off len o) (eqb other.0 f && is_within other_off len o) x y z h (λ s t.
          let p = both_true file.0 f off len o s in
          let q = both_true other.0 f other_off len o t in
          ⊎_elim
          (λ differs. differs (ap (λ n. let number : FileNo = record { 0 = n } in number) (p.0 ∙ sym q.0)))
          (λ order. ⊎_elim (λ below. absurd (omega (arith, p.2, q.1, below))) (λ above. absurd (omega (arith, q.2, p.1, above))) order)
          apart),
    )

-- each block has as many owners after it
pub exchange_keeps_owners : ExchangeKeepsOwners
exchange_keeps_owners M file off other other_off len good fits b =
    let range = fits.0 in
    let other_range = fits.1 in
    let M' : FileMaps = applied (Exchange file off other other_off len) M in
    let out : ℕ → ℕ → ℕ = λ f o. cond (eqb file.0 f && is_within off len o) (holds M f o b) 0 in
    let other_out : ℕ → ℕ → ℕ = λ f o. cond (eqb other.0 f && is_within other_off len o) (holds M f o b) 0 in
    let into : ℕ → ℕ → ℕ = λ f o. cond (eqb file.0 f && is_within off len o) (holds M other.0 (other_off + (o - off)) b) 0 in
    let other_into : ℕ → ℕ → ℕ = λ f o. cond (eqb other.0 f && is_within other_off len o) (holds M file.0 (off + (o - other_off)) b) 0 in
    let twice : (a c : ℕ → ℕ → ℕ) → sum_below FILES (λ f. sum_below OFFSETS (λ o. a f o + c f o)) ≡ sum_below FILES (λ f. sum_below OFFSETS (a f)) + sum_below FILES (λ f. sum_below OFFSETS (c f)) = λ a c.
    sum_below-same FILES _ _ (λ f. sym (below-add OFFSETS (a f) (c f))) ∙ sym (below-add FILES (λ f. sum_below OFFSETS (a f)) (λ f. sum_below OFFSETS (c f))) in
    let each : (f : ℕ) → owners_of_file M' b f + sum_below OFFSETS (λ o. out f o + other_out f o) ≡ owners_of_file M b f + sum_below OFFSETS (λ o. into f o + other_into f o) = λ f.
    sum_below-balance OFFSETS (λ o. holds M' f o b) (λ o. out f o + other_out f o) (λ o. holds M f o b) (λ o. into f o + other_into f o) (λ o _. exchange_moves M file off other other_off len good fits f o b) in
    let all = sum_below-balance FILES (owners_of_file M' b) (λ f. sum_below OFFSETS (λ o. out f o + other_out f o)) (owners_of_file M b) (λ f. sum_below OFFSETS (λ o. into f o + other_into f o)) (λ f _. each f) in
    omega (
      arith,
      all,
      twice out other_out,
      twice into other_into,
      own_range_sum file.0 off len (λ f o. holds M f o b) range.file_there range.within,
      own_range_sum other.0 other_off len (λ f o. holds M f o b) other_range.file_there other_range.within,
      range_sum file.0 off len (λ f j. holds M other.0 (other_off + j) b) range.file_there range.within,
      range_sum other.0 other_off len (λ f j. holds M file.0 (off + j) b) other_range.file_there other_range.within,
    )
