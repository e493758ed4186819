-- The owners that the reverse tree of a group has: at most one at each offset, and one more where a file loses one.
use Rattle.xr_maps.specs.StepLaws.{sum_below-same}
use Rattle.std.proofs.Common.{◌≡◌, ℕ, ◌+◌, ◌*◌, ◌<◌, ◌≤◌, zero, suc, List, [], ◌∷◌, cond, eqb, arith, refl, ap, sym, ◌∙◌, true, false, Bool, ⊎_elim, Option, Some, None}
use Rattle.std.specs.Prelude.{sum_by, ◌&&◌, IsTrue, nat_lt}
use Rattle.std.proofs.lemmas.Bool.{cases_lt, cases_eq, eq-eqb, ne_eqb, lt-ltb}
use Rattle.std.proofs.lemmas.List.Sums.{sum_by-cons}
use Rattle.xr_base.specs.declared.address.Addr.{Addr}
use Rattle.xr_base.specs.declared.geometry.TheConstants.{FILES, OFFSETS, GROUP_BLOCKS}
use Rattle.xr_base.specs.Address.{address_of}
use Rattle.xr_maps.specs.FileMaps.{FileMaps, address_at}
use Rattle.xr_maps.specs.Records.{maps_to}
use Rattle.xr_maps.specs.Steps.{is_within}
use Rattle.xr_maps.specs.Holdings.{holds, in_layout, one_if, sum_below}
use Rattle.xr_items.specs.declared.work.Work.{Work}
use Rattle.xr_items.specs.declared.work.Work.TheVariants.{Free, Own, Count, Map, Swap}
use Rattle.xr_items.specs.declared.work.OwnKind.TheVariants as Owning
use Rattle.xr_balance.specs.Chains.{IsChain}
use Rattle.xr_balance.specs.Ready.{FewPairs}
use Rattle.xr_balance.specs.Settled.{Committed, IsSettled, chain_of}
use Rattle.xr_balance.specs.Works.{Debt, in_offsets, naming_file, total, unpairing, unpairing_at}
use Rattle.xr_balance.proofs.AloneLemmas.{total-works, works_of}
use Rattle.xr_balance.proofs.CountSlots.{sum_below-none}
use Rattle.xr_balance.proofs.QuietLemmas.{quiet_at}
use Rattle.xr_balance.proofs.ReadyLemmas.{total-by-lanes}
use Rattle.xr_balance.proofs.StepLaneLemmas.{below-add, below-le, below-swap, below-unique}
use Rattle.xr_balance.proofs.SumLemmas.{at_most_one, total-le}

is_eq : (m n : ℕ) → IsTrue (eqb m n) → m ≡ n
is_eq m n h = ⊎_elim (λ e. e) (λ ne. absurd (omega (arith, ap one_if h, ap one_if (ne_eqb m n ne)))) (cases_eq m n)

-- an offset maps one block of a group at most
one_held : (slot : Option Addr) (n base : ℕ) → sum_below n (λ k. one_if (maps_to (address_of (base + k)) slot)) ≤ 1
one_held None n base = omega (arith, sum_below-none n (λ k. one_if (maps_to (address_of (base + k)) (let s : Option Addr = None in s))) (λ k _. refl))
one_held (Some a) n base = below-unique n 1 (λ k. eqb a.0 (base + k)) (λ k l x y. omega (arith, is_eq a.0 (base + k) x, is_eq a.0 (base + l) y))

-- a run is laid out with one block at an offset
one_laid : (s : Bool) (n base off x : ℕ) → sum_below n (λ k. one_if (s && eqb (base + k + off) x)) ≤ one_if s
one_laid true n base off x = below-unique n 1 (λ k. eqb (base + k + off) x) (λ k l p q. omega (arith, is_eq (base + k + off) x p, is_eq (base + l + off) x q))
one_laid false n base off x = omega (arith, sum_below-none n (λ _. 0) (λ _ _. refl))

sum_cond : (t : Bool) (n m : ℕ) (g : ℕ → ℕ) → sum_below n g ≤ m → sum_below n (λ k. cond t (g k) 0) ≤ cond t m 0
sum_cond true n m g le = le
sum_cond false n m g le = omega (arith, sum_below-none n (λ _. 0) (λ _ _. refl))

none_of : (n : ℕ) → sum_below n (λ _. 0) ≤ 0
none_of n = omega (arith, sum_below-none n (λ _. 0) (λ _ _. refl))

-- a work takes one pair of a group at most from an offset that it names
one_unpaired : (f o n base : ℕ) (w : Work) → sum_below n (λ k. unpairing f o (base + k) w) ≤ unpairing_at f o w
one_unpaired f o n base (Own Owning.UnmapShared owner off run) = sum_cond (eqb owner (128 + f)) n (in_offsets o off run) (λ k. in_layout (base + k) o off run) (one_laid (is_within off run.len o) n base off (run.start.0 + o))
one_unpaired f o n base (Own Owning.MapShared owner off run) = none_of n
one_unpaired f o n base (Own Owning.Alloc owner off run) = none_of n
one_unpaired f o n base (Own Owning.Free owner off run) = none_of n
one_unpaired f o n base (Free run) = none_of n
one_unpaired f o n base (Count kind run) = none_of n
one_unpaired f o n base (Map kind file off run) = none_of n
one_unpaired f o n base (Swap file off other other_off len) = none_of n

pub sum-total : (n : ℕ) (g : ℕ → Work → ℕ) (P : List Debt) → sum_below n (λ k. total (g k) P) ≡ total (λ w. sum_below n (λ k. g k w)) P
sum-total n g [] = sum_below-none n _ (λ _ _. refl)
sum-total n g (d ∷ P) =
    sum_below-same n _ _ (λ k. sum_by-cons (λ (e : Debt). g k e.work) d P)
    ∙ sym (below-add n (λ k. g k d.work) (λ k. total (g k) P))
    ∙ ap (λ m. sum_below n (λ k. g k d.work) + m) (sum-total n g P)
    ∙ sym (sum_by-cons (λ (e : Debt). sum_below n (λ k. g k e.work)) d P)

-- 1 where something is named
abbrev some : ℕ → ℕ
some n = one_if (nat_lt 0 n)

some-le : (n : ℕ) → n ≤ 1 → n ≤ some n
some-le n le = ⊎_elim (λ more. omega (arith, le, ap one_if (lt-ltb 0 n more))) (λ none. omega (arith, none)) (cases_lt 0 n)

some-one : (n : ℕ) → 0 < n → some n ≡ 1
some-one n more = ap one_if (lt-ltb 0 n more)

-- a chain names two files at most
two_named : (works : List Work) → IsChain works → sum_below FILES (λ f. some (sum_by (naming_file f) works)) ≤ 2
two_named works chain =
    let each : sum_below FILES (λ f. some (sum_by (naming_file f) works)) ≤ sum_below FILES (λ f. one_if (eqb f chain.one) + one_if (eqb f chain.two)) = below-le FILES _ _ (λ f. ⊎_elim
    (λ more. ⊎_elim
    (λ e. omega (arith, at_most_one (nat_lt 0 (sum_by (naming_file f) works)), ap one_if (eq-eqb f chain.one e)))
    (λ e. omega (arith, at_most_one (nat_lt 0 (sum_by (naming_file f) works)), ap one_if (eq-eqb f chain.two e)))
    (chain.files f more))
    (λ none. let zero_of : sum_by (naming_file f) works ≡ 0 = omega (arith, none) in omega (arith, ap some zero_of))
    (cases_lt 0 (sum_by (naming_file f) works))) in
    omega (
      arith,
      each,
      below-add FILES (λ f. one_if (eqb f chain.one)) (λ f. one_if (eqb f chain.two)),
      below-unique FILES 1 (λ f. eqb f chain.one) (λ k l x y. is_eq k chain.one x ∙ sym (is_eq l chain.one y)),
      below-unique FILES 1 (λ f. eqb f chain.two) (λ k l x y. is_eq k chain.two x ∙ sym (is_eq l chain.two y)),
    )

eight_twos : sum_below 8 (λ _. 2) ≡ 16
unfolding sum_below
eight_twos = refl

some_in : (n : ℕ) (g h : ℕ → ℕ) → ((k : ℕ) → g k ≡ h k) → 0 < sum_below n g → 1 ≤ sum_below n (λ k. some (h k))
unfolding sum_below
some_in zero g h same more = absurd (omega (arith, more))
some_in (suc n) g h same more = ⊎_elim
    (λ here. omega (arith, some-one (h n) (omega (arith, here, same n))))
    (λ none. omega (arith, some_in n g h same (omega (arith, more, none))))
    (cases_lt 0 (g n))

-- so all chains together name sixteen at most
few_named : {C : Committed} {P : List Debt} {M : FileMaps} {Q : ℕ → Bool} → IsSettled C P M Q → sum_below FILES (λ f. some (total (naming_file f) P)) ≤ 16
few_named {C} {P} {M} {Q} was =
    let of : ℕ → ℕ → ℕ = λ k f. some (sum_by (naming_file f) (works_of (chain_of P (suc k)))) in
    let each : sum_below FILES (λ f. some (total (naming_file f) P)) ≤ sum_below FILES (λ f. sum_below 8 (λ k. of k f)) = below-le FILES _ _ (λ f.
    let all : total (naming_file f) P ≡ sum_below 8 (λ k. total (naming_file f) (chain_of P (suc k))) = total-by-lanes (naming_file f) P was.parted.lanes in
    ⊎_elim
    (λ more. omega (arith, at_most_one (nat_lt 0 (total (naming_file f) P)), some_in 8 (λ k. total (naming_file f) (chain_of P (suc k))) (λ k. sum_by (naming_file f) (works_of (chain_of P (suc k)))) (λ k. sym (total-works (naming_file f) (chain_of P (suc k)))) (omega (arith, more, all))))
    (λ none. let zero_of : total (naming_file f) P ≡ 0 = omega (arith, none) in omega (arith, ap some zero_of))
    (cases_lt 0 (total (naming_file f) P))) in
    omega (arith, each, sym (below-swap 8 FILES of), below-le 8 (λ k. sum_below FILES (of k)) (λ _. 2) (λ k. two_named (works_of (chain_of P (suc k))) (was.parted.chains (suc k))), eight_twos)

-- the pairs at one offset
pairs_at : {C : Committed} {P : List Debt} {M : FileMaps} {Q : ℕ → Bool} (f o base : ℕ) → IsSettled C P M Q → sum_below GROUP_BLOCKS (λ k. one_if (C.has_pair f o (base + k))) ≤ 1 + some (total (naming_file f) P)
pairs_at {C} {P} {M} {Q} f o base was =
    let held : sum_below GROUP_BLOCKS (λ k. holds was.base f o (base + k)) ≤ 1 = one_held (address_at was.base f o) GROUP_BLOCKS base in
    let off : sum_below GROUP_BLOCKS (λ k. total (unpairing f o (base + k)) P) ≤ total (unpairing_at f o) P = omega (
      arith,
      sum-total GROUP_BLOCKS (λ k. unpairing f o (base + k)) P,
      total-le (λ w. sum_below GROUP_BLOCKS (λ k. unpairing f o (base + k) w)) (unpairing_at f o) P (one_unpaired f o GROUP_BLOCKS base),
    ) in
    let each : sum_below GROUP_BLOCKS (λ k. one_if (C.has_pair f o (base + k))) ≤ sum_below GROUP_BLOCKS (λ k. holds was.base f o (base + k) + total (unpairing f o (base + k)) P) =
    below-le GROUP_BLOCKS _ _ (λ k. omega (arith, was.pairs.owners f o (base + k))) in
    let bound : total (unpairing_at f o) P ≤ some (total (naming_file f) P) = ⊎_elim
    (λ more. omega (arith, some-one (total (naming_file f) P) more, was.offsets.removals f o))
    (λ none. omega (arith, quiet_at P f o (omega (arith, none))))
    (cases_lt 0 (total (naming_file f) P)) in
    omega (arith, each, below-add GROUP_BLOCKS (λ k. holds was.base f o (base + k)) (λ k. total (unpairing f o (base + k)) P), held, off, bound)

one_row : sum_below OFFSETS (λ _. 1) ≡ 512
unfolding sum_below
one_row = refl

two_rows : sum_below OFFSETS (λ _. 2) ≡ 1024
unfolding sum_below
two_rows = refl

all_rows : sum_below FILES (λ _. 512) ≡ 16384
unfolding sum_below
all_rows = refl

all_blocks : sum_below GROUP_BLOCKS (λ _. 1) ≡ 2048
unfolding sum_below
all_blocks = refl

scaled : (n : ℕ) (g : ℕ → ℕ) → sum_below n (λ k. 512 * g k) ≡ 512 * sum_below n g
unfolding sum_below
scaled zero g = refl
scaled (suc n) g = omega (arith, scaled n g)

row_of : (g : ℕ → ℕ) (t : Bool) → ((o : ℕ) → g o ≤ 1 + one_if t) → sum_below OFFSETS g ≤ 512 + 512 * one_if t
row_of g true le = omega (arith, two_rows, below-le OFFSETS g (λ _. 2) (λ o. omega (arith, le o)))
row_of g false le = omega (arith, one_row, below-le OFFSETS g (λ _. 1) (λ o. omega (arith, le o)))

pub few_pairs : FewPairs
few_pairs C P M Q group was =
    let base : ℕ = group * GROUP_BLOCKS in
    let named : ℕ → ℕ = λ f. some (total (naming_file f) P) in
    let files : sum_below FILES (λ f. sum_below OFFSETS (λ o. sum_below GROUP_BLOCKS (λ k. one_if (C.has_pair f o (base + k))))) ≤ sum_below FILES (λ f. 512 + 512 * named f) =
    below-le FILES _ _ (λ f. row_of (λ o. sum_below GROUP_BLOCKS (λ k. one_if (C.has_pair f o (base + k)))) (nat_lt 0 (total (naming_file f) P)) (λ o. pairs_at f o base was)) in
    let staging : sum_below GROUP_BLOCKS (λ k. one_if (C.has_staging_pair (base + k))) ≤ 2048 = omega (arith, all_blocks, below-le GROUP_BLOCKS (λ k. one_if (C.has_staging_pair (base + k))) (λ _. 1) (λ k. at_most_one _)) in
    omega (arith, files, staging, below-add FILES (λ _. 512) (λ f. 512 * named f), all_rows, scaled FILES named, few_named was)
