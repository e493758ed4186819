-- Sums over the pending works, compared.
use Rattle.std.proofs.Common.{◌≡◌, ℕ, ◌+◌, ◌-◌, ◌<◌, ◌≤◌, zero, suc, List, [], ◌∷◌, length, get_or, cond, eqb, arith, refl, ap, true, false, Bool, ⊎_elim, ◌⊎◌, inl, inr}
use Rattle.std.specs.Prelude.{sum_by, ◌&&◌}
use Rattle.std.proofs.lemmas.Bool.{cases_lt, cases_eq, lt-ltb, eq-eqb, le-leb}
use Rattle.std.proofs.lemmas.List.Sums.{sum_by-cons}
use Rattle.xr_base.specs.declared.address.Run.{Run}
use Rattle.xr_base.specs.declared.geometry.TheConstants.{FILES, OFFSETS}
use Rattle.xr_maps.specs.FileMaps.{FileMaps}
use Rattle.xr_maps.specs.Steps.{is_within}
use Rattle.xr_items.specs.declared.work.Work.{Work}
use Rattle.xr_items.specs.declared.work.Work.TheVariants.{Free, Own, Count, Map, Swap}
use Rattle.xr_items.specs.declared.work.OwnKind.TheVariants as Owning
use Rattle.xr_items.specs.declared.work.CountKind.TheVariants.{Increase, Decrease, AllocCow, FreeCow}
use Rattle.xr_items.specs.declared.work.MapKind.TheVariants as Mapping
use Rattle.xr_maps.specs.Holdings.{holds, in_layout, in_run, one_if, owners, owners_of_file, sum_below}
use Rattle.xr_balance.specs.Settled.{bringing, taking}
use Rattle.xr_balance.specs.Works.{Debt, IsLane, exchanging_at, freed, mapping, mapping_at, naming, pairing, pairing_at, raised, staging, staging_pair, staging_unpair, sum_of_lanes, total, unmapping, unmapping_at, unpairing, unpairing_at, unstaging}

pub total-le : (f g : Work → ℕ) (P : List Debt) → ((w : Work) → f w ≤ g w) → total f P ≤ total g P
total-le f g [] le = omega arith
total-le f g (d ∷ P) le =
    omega (arith, sum_by-cons (λ (e : Debt). f e.work) d P, sum_by-cons (λ (e : Debt). g e.work) d P, le d.work, total-le f g P le)

pub total-same : (f g : Work → ℕ) (P : List Debt) → ((k : ℕ) (d : Debt) → k < length P → f (get_or P k d).work ≡ g (get_or P k d).work) → total f P ≡ total g P
total-same f g [] same = refl
total-same f g (d ∷ P) same =
    omega (arith, sum_by-cons (λ (e : Debt). f e.work) d P, sum_by-cons (λ (e : Debt). g e.work) d P, same 0 d (omega arith), total-same f g P (λ k e l. same (suc k) e (omega (arith, l))))

pub at_most_one : (t : Bool) → one_if t ≤ 1
at_most_one true = omega arith
at_most_one false = omega arith

and-le : (s t : Bool) → one_if (s && t) ≤ one_if s
and-le true t = at_most_one t
and-le false t = omega arith

cond-le : (s : Bool) (m n : ℕ) → m ≤ n → cond s m 0 ≤ cond s n 0
cond-le true m n le = le
cond-le false m n le = omega arith

pub mapping-le : (f o b : ℕ) (w : Work) → mapping f o b w ≤ mapping_at f o w
mapping-le f o b (Map Mapping.Map file off run) = cond-le (eqb file.0 f) _ _ (and-le (is_within off run.len o) _)
mapping-le f o b (Map Mapping.Unmap file off run) = omega arith
mapping-le f o b (Free run) = omega arith
mapping-le f o b (Own kind owner off run) = omega arith
mapping-le f o b (Count kind run) = omega arith
mapping-le f o b (Swap file off other other_off len) = omega arith

pub pairing-le : (f o b : ℕ) (w : Work) → pairing f o b w ≤ pairing_at f o w
pairing-le f o b (Own Owning.MapShared owner off run) = cond-le (eqb owner (128 + f)) _ _ (and-le (is_within off run.len o) _)
pairing-le f o b (Own Owning.UnmapShared owner off run) = omega arith
pairing-le f o b (Own Owning.Alloc owner off run) = omega arith
pairing-le f o b (Own Owning.Free owner off run) = omega arith
pairing-le f o b (Map kind file off run) = omega arith
pairing-le f o b (Free run) = omega arith
pairing-le f o b (Count kind run) = omega arith
pairing-le f o b (Swap file off other other_off len) = omega arith

pub taken-le : (s t : Bool) (n : ℕ) → n ≤ 1 → cond (s && t) n 0 ≤ cond s (one_if t) 0
taken-le true true n le = le
taken-le true false n le = omega arith
taken-le false t n le = omega arith

pub taking-le : (B : FileMaps) (f o b : ℕ) (w : Work) → taking B f o b w ≤ exchanging_at f o w
taking-le B f o b (Swap file off other other_off len) =
    omega (arith, taken-le (eqb file.0 f) (is_within off len o) (holds B f o b) (at_most_one _), taken-le (eqb other.0 f) (is_within other_off len o) (holds B f o b) (at_most_one _))
taking-le B f o b (Free run) = omega arith
taking-le B f o b (Own kind owner off run) = omega arith
taking-le B f o b (Count kind run) = omega arith
taking-le B f o b (Map kind file off run) = omega arith

pub bringing-le : (B : FileMaps) (f o b : ℕ) (w : Work) → bringing B f o b w ≤ exchanging_at f o w
bringing-le B f o b (Swap file off other other_off len) =
    omega (arith, taken-le (eqb file.0 f) (is_within off len o) (holds B other.0 (other_off + (o - off)) b) (at_most_one _), taken-le (eqb other.0 f) (is_within other_off len o) (holds B file.0 (off + (o - other_off)) b) (at_most_one _))
bringing-le B f o b (Free run) = omega arith
bringing-le B f o b (Own kind owner off run) = omega arith
bringing-le B f o b (Count kind run) = omega arith
bringing-le B f o b (Map kind file off run) = omega arith

-- a term of a sum
pub term-le : (n k : ℕ) (f : ℕ → ℕ) → k < n → f k ≤ sum_below n f
unfolding sum_below
term-le zero k f l = absurd (omega (arith, l))
term-le (suc n) k f l = ⊎_elim
    (λ e. omega (arith, ap f e))
    (λ ne. omega (arith, term-le n k f (omega (arith, l, ne))))
    (cases_eq k n)

pub lane-term : (lane : ℕ) (f : ℕ → ℕ) → IsLane lane → f lane ≤ sum_of_lanes f
lane-term lane f seat =
    let same : suc (lane - 1) ≡ lane = omega (arith, seat.0) in
    omega (arith, ap f same, term-le 8 (lane - 1) (λ k. f (suc k)) (omega (arith, seat.0, seat.1)))

pub one_owner : (maps : FileMaps) (f o b : ℕ) → f < FILES → o < OFFSETS → holds maps f o b ≤ owners maps b
one_owner maps f o b fl ol = omega (arith, term-le OFFSETS o (λ k. holds maps f k b) ol, term-le FILES f (owners_of_file maps b) fl)

-- where a run that is laid out from an offset has its block
pub run-range : (off len o : ℕ) → one_if (is_within off len o) ≡ 1 → (off ≤ o) × (o < off + len)
run-range off len o it = ⊎_elim
    (λ high. ⊎_elim
    (λ low. (low, high))
    (λ low. absurd (omega (arith, it, out_low low)))
    (low_or off o))
    (λ past. absurd (omega (arith, it, out_high past)))
    (cases_lt o (off + len))
  where
    low_or : (m n : ℕ) → (m ≤ n) ⊎ (n < m)
    low_or m n = ⊎_elim (λ l. inr l) (λ h. inl h) (cases_lt n m)

    out_low : o < off → one_if (is_within off len o) ≡ 0
    out_low l = Rattle.xr_balance.proofs.LastLowering.below_none off len o l

    out_high : off + len ≤ o → one_if (is_within off len o) ≡ 0
    out_high l = Rattle.xr_balance.proofs.LastLowering.above_none off len o l

pub layout-there : (b off : ℕ) (run : Run) → in_run b run ≡ 1 → in_layout b (off + (b - run.start.0)) off run ≡ 1
layout-there b off run it =
    let in_it = run-range run.start.0 run.len b it in
    let at : ℕ = off + (b - run.start.0) in
    rw (le-leb off at (omega arith), lt-ltb at (off + run.len) (omega (arith, in_it.0, in_it.1)), eq-eqb (b + off) (run.start.0 + at) (omega (arith, in_it.0))) refl

pub unmapping-le : (f o b : ℕ) (w : Work) → unmapping f o b w ≤ unmapping_at f o w
unmapping-le f o b (Map Mapping.Unmap file off run) = cond-le (eqb file.0 f) _ _ (and-le (is_within off run.len o) _)
unmapping-le f o b (Map Mapping.Map file off run) = omega arith
unmapping-le f o b (Free run) = omega arith
unmapping-le f o b (Own kind owner off run) = omega arith
unmapping-le f o b (Count kind run) = omega arith
unmapping-le f o b (Swap file off other other_off len) = omega arith

pub unpairing-le : (f o b : ℕ) (w : Work) → unpairing f o b w ≤ unpairing_at f o w
unpairing-le f o b (Own Owning.UnmapShared owner off run) = cond-le (eqb owner (128 + f)) _ _ (and-le (is_within off run.len o) _)
unpairing-le f o b (Own Owning.MapShared owner off run) = omega arith
unpairing-le f o b (Own Owning.Alloc owner off run) = omega arith
unpairing-le f o b (Own Owning.Free owner off run) = omega arith
unpairing-le f o b (Map kind file off run) = omega arith
unpairing-le f o b (Free run) = omega arith
unpairing-le f o b (Count kind run) = omega arith
unpairing-le f o b (Swap file off other other_off len) = omega arith

-- what a work does to a block, it names the block for
pub names-all : (b : ℕ) (w : Work) → freed b w + raised b w + staging b w + unstaging b w + staging_pair b w + staging_unpair b w ≤ naming b w
names-all b (Free run) = omega arith
names-all b (Count Increase run) = omega arith
names-all b (Count Decrease run) = omega arith
names-all b (Count AllocCow run) = omega arith
names-all b (Count FreeCow run) = omega arith
names-all b (Own Owning.MapShared owner off run) = omega arith
names-all b (Own Owning.UnmapShared owner off run) = omega arith
names-all b (Own Owning.Alloc owner off run) = omega arith
names-all b (Own Owning.Free owner off run) = omega arith
names-all b (Map kind file off run) = omega arith
names-all b (Swap file off other other_off len) = omega arith

pub sum-le : (f g : Work → ℕ) (ws : List Work) → ((w : Work) → f w ≤ g w) → sum_by f ws ≤ sum_by g ws
sum-le f g [] le = omega arith
sum-le f g (w ∷ ws) le = omega (arith, sum_by-cons f w ws, sum_by-cons g w ws, le w, sum-le f g ws le)
