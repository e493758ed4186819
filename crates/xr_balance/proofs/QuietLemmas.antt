-- A file that no pending work names has no offset that one names.
use Rattle.std.proofs.Common.{◌≡◌, ℕ, ◌+◌, ◌<◌, ◌≤◌, List, [], ◌∷◌, cond, eqb, arith, refl, ap, sym, ◌∙◌, true, false, Bool, ⊎_elim}
use Rattle.std.specs.Prelude.{◌||◌}
use Rattle.std.proofs.lemmas.Bool.{cases_lt, cases_eq, ne_eqb}
use Rattle.std.proofs.lemmas.List.Sums.{sum_by-cons}
use Rattle.xr_base.specs.declared.address.FileNo.{FileNo}
use Rattle.xr_maps.specs.Steps.{is_within}
use Rattle.xr_items.specs.declared.work.Work.{Work}
use Rattle.xr_items.specs.declared.work.Work.TheVariants.{Free, Own, Count, Map, Swap}
use Rattle.xr_items.specs.declared.work.OwnKind.TheVariants as Owning
use Rattle.xr_items.specs.declared.work.MapKind.TheVariants as Mapping
use Rattle.xr_items.specs.Valid.{IsSwap}
use Rattle.xr_maps.specs.Holdings.{one_if}
use Rattle.xr_balance.specs.Works.{Debt, exchanging_at, mapping_at, naming_file, pairing_at, total, unmapping_at, unpairing_at}
use Rattle.xr_balance.proofs.SumLemmas.{at_most_one, run-range}

total-zero : (f g : Work → ℕ) (P : List Debt) → ((w : Work) → g w ≡ 0 → f w ≡ 0) → total g P ≡ 0 → total f P ≡ 0
total-zero f g [] zeros none = refl
total-zero f g (d ∷ P) zeros none =
    let more : total g (d ∷ P) ≡ g d.work + total g P = sum_by-cons (λ (e : Debt). g e.work) d P in
    omega (arith, sum_by-cons (λ (e : Debt). f e.work) d P, zeros d.work (omega (arith, none, more)), total-zero f g P zeros (omega (arith, none, more)))

cond_zero : (s : Bool) (n : ℕ) → one_if s ≡ 0 → cond s n 0 ≡ 0
cond_zero true n h = absurd (omega (arith, h))
cond_zero false n h = refl

pub or_zero : (s t : Bool) → one_if (s || t) ≡ 0 → (one_if s ≡ 0) × (one_if t ≡ 0)
or_zero true t h = absurd (omega (arith, h))
or_zero false true h = absurd (omega (arith, h))
or_zero false false h = (refl, refl)

-- where the file isn't named, none of its offsets is
pub record NoOffset (f o : ℕ) (w : Work) : Type 0 where
  pub maps : mapping_at f o w ≡ 0
  pub unmaps : unmapping_at f o w ≡ 0
  pub pairs : pairing_at f o w ≡ 0
  pub unpairs : unpairing_at f o w ≡ 0
  pub exchanges : exchanging_at f o w ≡ 0

pub no_offset : (f o : ℕ) (w : Work) → naming_file f w ≡ 0 → NoOffset f o w
no_offset f o (Map Mapping.Map file off run) none = record { maps = cond_zero (eqb file.0 f) _ none; unmaps = refl; pairs = refl; unpairs = refl; exchanges = refl }
no_offset f o (Map Mapping.Unmap file off run) none = record { maps = refl; unmaps = cond_zero (eqb file.0 f) _ none; pairs = refl; unpairs = refl; exchanges = refl }
no_offset f o (Own Owning.MapShared owner off run) none = record { maps = refl; unmaps = refl; pairs = cond_zero (eqb owner (128 + f)) _ none; unpairs = refl; exchanges = refl }
no_offset f o (Own Owning.UnmapShared owner off run) none = record { maps = refl; unmaps = refl; pairs = refl; unpairs = cond_zero (eqb owner (128 + f)) _ none; exchanges = refl }
no_offset f o (Own Owning.Alloc owner off run) none = record { maps = refl; unmaps = refl; pairs = refl; unpairs = refl; exchanges = refl }
no_offset f o (Own Owning.Free owner off run) none = record { maps = refl; unmaps = refl; pairs = refl; unpairs = refl; exchanges = refl }
no_offset f o (Free run) none = record { maps = refl; unmaps = refl; pairs = refl; unpairs = refl; exchanges = refl }
no_offset f o (Count kind run) none = record { maps = refl; unmaps = refl; pairs = refl; unpairs = refl; exchanges = refl }
no_offset f o (Swap file off other other_off len) none =
    let both = or_zero (eqb file.0 f) (eqb other.0 f) none in
    record { maps = refl; unmaps = refl; pairs = refl; unpairs = refl; exchanges = omega (arith, cond_zero (eqb file.0 f) (one_if (is_within off len o)) both.0, cond_zero (eqb other.0 f) (one_if (is_within other_off len o)) both.1) }

abbrev pub IsQuiet : List Debt → ℕ → ℕ → Type 0
IsQuiet P f o = total (mapping_at f o) P + total (unmapping_at f o) P + total (pairing_at f o) P + total (unpairing_at f o) P + total (exchanging_at f o) P ≡ 0

pub quiet_at : (P : List Debt) (f o : ℕ) → total (naming_file f) P ≡ 0 → IsQuiet P f o
quiet_at P f o none = omega (
  arith,
  total-zero (mapping_at f o) (naming_file f) P (λ w z. (no_offset f o w z).maps) none,
  total-zero (unmapping_at f o) (naming_file f) P (λ w z. (no_offset f o w z).unmaps) none,
  total-zero (pairing_at f o) (naming_file f) P (λ w z. (no_offset f o w z).pairs) none,
  total-zero (unpairing_at f o) (naming_file f) P (λ w z. (no_offset f o w z).unpairs) none,
  total-zero (exchanging_at f o) (naming_file f) P (λ w z. (no_offset f o w z).exchanges) none,
)

pub names_file : (f o : ℕ) (w : Work) → 0 < exchanging_at f o w → 0 < naming_file f w
names_file f o w some = ⊎_elim
    (λ l. l)
    (λ z. absurd (omega (arith, some, (no_offset f o w (omega (arith, z))).exchanges)))
    (cases_lt 0 (naming_file f w))

one_part : (s t : Bool) → 0 < cond s (one_if t) 0 → (s ≡ true) × (one_if t ≡ 1)
one_part true true h = (refl, refl)
one_part true false h = absurd (omega (arith, h))
one_part false t h = absurd (omega (arith, h))

is_eq : (m n : ℕ) → eqb m n ≡ true → m ≡ n
is_eq m n h = ⊎_elim (λ e. e) (λ ne. absurd (omega (arith, ap one_if (sym h ∙ ne_eqb m n ne)))) (cases_eq m n)

at_most : (s t : Bool) → cond s (one_if t) 0 ≤ 1
at_most true t = at_most_one t
at_most false t = omega arith

-- the ranges of an exchange have no offset in common
pub once : (f o : ℕ) (file other : FileNo) (off other_off len : ℕ) → IsSwap file off other other_off len → exchanging_at f o (Swap file off other other_off len) ≤ 1
once f o file other off other_off len valid =
    let here : ℕ = cond (eqb file.0 f) (one_if (is_within off len o)) 0 in
    let there : ℕ = cond (eqb other.0 f) (one_if (is_within other_off len o)) 0 in
    let a : here ≤ 1 = at_most (eqb file.0 f) (is_within off len o) in
    let b : there ≤ 1 = at_most (eqb other.0 f) (is_within other_off len o) in
    ⊎_elim
    (λ one. ⊎_elim
    (λ two. let p = one_part (eqb file.0 f) (is_within off len o) one in
    let q = one_part (eqb other.0 f) (is_within other_off len o) two in
    let r = run-range off len o p.1 in
    let s = run-range other_off len o q.1 in
    ⊎_elim
    (λ below. absurd (omega (arith, r.1, s.0, below)))
    (λ above. absurd (omega (arith, s.1, r.0, above)))
    (valid.apart (is_eq file.0 f p.0 ∙ sym (is_eq other.0 f q.0))))
    (λ two. omega (arith, a, two))
    (cases_lt 0 there))
    (λ one. omega (arith, b, one))
    (cases_lt 0 here)
