-- What the first work of a chain finds makes it ready, by its kind.
use Rattle.std.proofs.Common.{◌≡◌, ℕ, ◌+◌, ◌-◌, ◌<◌, ◌≤◌, List, [], ◌∷◌, length, cond, eqb, arith, refl, ap, true, false, Bool, ⊎_elim, Option, Some, None, subst}
use Rattle.std.specs.Prelude.{is_some, sum_by}
use Rattle.std.proofs.lemmas.Bool.{cases_eq, eq-eqb, ne_eqb, le-leb, lt-ltb}
use Rattle.std.proofs.lemmas.List.Sums.{sum_by-cons}
use Rattle.xr_base.specs.declared.address.Addr.{Addr}
use Rattle.xr_base.specs.declared.address.Run.{Run}
use Rattle.xr_base.specs.declared.geometry.TheConstants.{FIRST_INODE}
use Rattle.xr_base.specs.Address.{address_of, group_number}
use Rattle.xr_maps.specs.FileMaps.{address_at}
use Rattle.xr_maps.specs.Records.{maps_to}
use Rattle.xr_maps.specs.Holdings.{in_layout, in_run, one_if}
use Rattle.xr_items.specs.declared.work.Work.{Work}
use Rattle.xr_items.specs.declared.work.Work.TheVariants.{Free, Own, Count, Map, Swap}
use Rattle.xr_items.specs.declared.work.OwnKind.TheVariants as Owning
use Rattle.xr_items.specs.declared.work.CountKind.TheVariants.{Increase, Decrease, AllocCow, FreeCow}
use Rattle.xr_items.specs.declared.work.MapKind.TheVariants as Mapping
use Rattle.xr_items.specs.Valid.{IsWork}
use Rattle.xr_balance.specs.Chains.{giving, other_than_giving}
use Rattle.xr_balance.specs.Ready.{FirstIsReady, HasRoom, IsReady, LeastIsFirst, most_records}
use Rattle.xr_balance.specs.Rolls.{in_lane}
use Rattle.xr_balance.specs.Rows.{ChainsAreShort}
use Rattle.xr_balance.specs.Settled.{Committed}
use Rattle.xr_balance.specs.Works.{Debt, in_offsets, naming}
use Rattle.xr_balance.proofs.FindsWords.{Finds}
use Rattle.xr_balance.proofs.FirstCommits.{not_true}
use Rattle.xr_balance.proofs.LastLowering.{inside_one}
use Rattle.xr_balance.proofs.PairCounts.{few_pairs}
use Rattle.xr_balance.proofs.ReadyLemmas.{first_finds, rolls_of}
use Rattle.xr_balance.proofs.TotalLemmas.{work-le-total}

-- the place k of a run and of its layout
place_in : (run : Run) (k : ℕ) → k < run.len → in_run (run.start.0 + k) run ≡ 1
place_in run k l = inside_one run.start.0 run.len (run.start.0 + k) (omega arith) (omega (arith, l))

laid_at : (off : ℕ) (run : Run) (k : ℕ) → k < run.len → in_layout (run.start.0 + k) (off + k) off run ≡ 1
laid_at off run k l = rw (le-leb off (off + k) (omega arith), lt-ltb (off + k) (off + run.len) (omega (arith, l)), eq-eqb (run.start.0 + k + off) (run.start.0 + (off + k)) (omega arith)) refl

offset_in : (off : ℕ) (run : Run) (k : ℕ) → k < run.len → in_offsets (off + k) off run ≡ 1
offset_in off run k l = inside_one off run.len (off + k) (omega arith) (omega (arith, l))

is_that : (slot : Option Addr) (b : ℕ) → 1 ≤ one_if (maps_to (address_of b) slot) → slot ≡ Some (address_of b)
is_that None b one = absurd (omega (arith, one))
is_that (Some a) b one = ⊎_elim (λ (e : a.0 ≡ b). ap (λ n. Some (address_of n)) e) (λ ne. absurd (omega (arith, one, ap one_if (ne_eqb a.0 b ne)))) (cases_eq a.0 b)

is_hole : (slot : Option Addr) → one_if (is_some slot) ≡ 0 → slot ≡ None
is_hole None z = refl
is_hole (Some a) z = absurd (omega (arith, z))

is_so : (t : Bool) → 1 ≤ one_if t → t ≡ true
is_so true h = refl
is_so false h = absurd (omega (arith, h))

here : (a n : ℕ) → cond (eqb a a) n 0 ≡ n
here a n = ap (λ t. cond t n 0) (eq-eqb a a refl)

-- the owner of a valid work is the inode of a file
owner_here : (owner n : ℕ) → FIRST_INODE ≤ owner → cond (eqb owner (FIRST_INODE + (owner - FIRST_INODE))) n 0 ≡ n
owner_here owner n big = ap (λ t. cond t n 0) (eq-eqb owner (FIRST_INODE + (owner - FIRST_INODE)) (omega (arith, big)))

ready_by_kind : (C : Committed) (w : Work) → IsWork w → Finds C w → IsReady C w
ready_by_kind C (Map Mapping.Unmap file off run) valid it = λ k l.
    is_that (address_at C.maps file.0 (off + k)) (run.start.0 + k) (omega (arith, it.unmaps file.0 (off + k) (run.start.0 + k), here file.0 (in_layout (run.start.0 + k) (off + k) off run), laid_at off run k l))
ready_by_kind C (Map Mapping.Map file off run) valid it = λ k l.
    is_hole (address_at C.maps file.0 (off + k)) (it.maps file.0 (off + k) (omega (arith, here file.0 (in_offsets (off + k) off run), offset_in off run k l)))
ready_by_kind C (Own Owning.MapShared owner off run) valid it = λ k l. let b : ℕ = run.start.0 + k in let f : ℕ = owner - FIRST_INODE in
    not_true (C.has_pair f (off + k) b) (omega (arith, it.additions f (off + k) b, owner_here owner (in_layout b (off + k) off run) valid.1.0, laid_at off run k l))
ready_by_kind C (Own Owning.UnmapShared owner off run) valid it = λ k l. let b : ℕ = run.start.0 + k in let f : ℕ = owner - FIRST_INODE in
    is_so (C.has_pair f (off + k) b) (omega (arith, it.removals f (off + k) b, owner_here owner (in_layout b (off + k) off run) valid.1.0, laid_at off run k l))
ready_by_kind C (Own Owning.Alloc owner off run) valid it = λ k l. not_true (C.has_staging_pair (run.start.0 + k)) (omega (arith, it.staging_additions (run.start.0 + k), place_in run k l))
ready_by_kind C (Own Owning.Free owner off run) valid it = λ k l. is_so (C.has_staging_pair (run.start.0 + k)) (omega (arith, it.staging_removals (run.start.0 + k), place_in run k l))
ready_by_kind C (Count Increase run) valid it = λ k l. let b : ℕ = run.start.0 + k in
    (it.unfree b (omega (arith, place_in run k l)), it.unstaged b (omega (arith, place_in run k l)), it.below b (omega (arith, place_in run k l)))
ready_by_kind C (Count Decrease run) valid it = λ k l. let b : ℕ = run.start.0 + k in (it.unfree b (omega (arith, place_in run k l)), it.unstaged b (omega (arith, place_in run k l)))
ready_by_kind C (Count AllocCow run) valid it = λ k l. let b : ℕ = run.start.0 + k in let s = it.stagings b (omega (arith, place_in run k l)) in
    (it.unfree b (omega (arith, place_in run k l)), s.0, s.1)
ready_by_kind C (Count FreeCow run) valid it = λ k l. is_so (C.is_staged (run.start.0 + k)) (omega (arith, it.unstagings (run.start.0 + k), place_in run k l))
ready_by_kind C (Free run) valid it = λ k l. it.unfree (run.start.0 + k) (omega (arith, place_in run k l))
ready_by_kind C (Swap file off other other_off len) valid it = tt

-- a good run's group is there where its blocks' groups are
has_room : (C : Committed) (records : ℕ → ℕ) (w : Work) → IsWork w → ((b : ℕ) → 0 < naming b w → group_number (address_of b) < C.groups)
    → ((group : ℕ) → group < C.groups → records group ≤ most_records) → HasRoom records w
has_room C records (Own kind owner off run) valid named few =
    let start : in_run run.start.0 run ≡ 1 = inside_one run.start.0 run.len run.start.0 (omega arith) (omega (arith, valid.0.some)) in
    few (group_number run.start) (named run.start.0 (omega (arith, start)))
has_room C records (Free run) valid named few = tt
has_room C records (Count kind run) valid named few = tt
has_room C records (Map kind file off run) valid named few = tt
has_room C records (Swap file off other other_off len) valid named few = tt

pub first_is_ready : FirstIsReady
first_is_ready C P M Q i lane w records few was it =
    let valid : IsWork w = subst (λ (d : Debt). IsWork d.work) (it.is_work (in_lane lane w)) (was.valid i (in_lane lane w) it.inside) in
    let finds = first_finds C P M Q i lane w was it in
    let named : (b : ℕ) → 0 < naming b w → group_number (address_of b) < C.groups = λ b some. was.blocks.named_groups b (omega (arith, some, work-le-total (naming b) (rolls_of it))) in
    ((ready_by_kind C w valid finds, has_room C records w valid named (λ group there. omega (arith, few group there, few_pairs C P M Q group was))), finds.unfree)

pub least_is_first : LeastIsFirst
least_is_first P d = record { inside = omega arith; is_work = λ e. refl; none_before = λ k e l. absurd (omega (arith, l)) }

pub chains_are_short : ChainsAreShort
chains_are_short works chain = omega (arith, count works, chain.short, chain.given_once)
  where
    one : (w : Work) → other_than_giving w + giving w ≡ 1
    one (Free run) = refl
    one (Own kind owner off run) = refl
    one (Count kind run) = refl
    one (Map kind file off run) = refl
    one (Swap file off other other_off len) = refl

    count : (ws : List Work) → length ws ≡ sum_by other_than_giving ws + sum_by giving ws
    count [] = refl
    count (w ∷ ws) = omega (arith, sum_by-cons other_than_giving w ws, sum_by-cons giving w ws, one w, count ws)
