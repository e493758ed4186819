-- The first record that a tree finds is the next one of the group's records by addresses.
use Rattle.std.proofs.Common.{◌≡◌, ◌↔◌, ℕ, zero, suc, ◌+◌, ◌*◌, ◌<◌, ◌≤◌, Bool, true, false, List, [], ◌∷◌, map, Option, Some, refl, sym, ap, subst, inl, inr, ⊎_elim, arith}
use Rattle.std.proofs.lemmas.List.Elements.{All-contains}
use Rattle.std.proofs.lemmas.Bool.Decides.{nat_tests}
use Rattle.std.specs.List.{Contains}
use Rattle.std.specs.Ordering.{is_lt}
use Rattle.xr_base.specs.declared.address.Run.{Run}
use Rattle.xr_base.specs.declared.geometry.TheConstants.{GROUP_BLOCKS}
use Rattle.xr_block.specs.Tree.{AreRecords}
use Rattle.xr_group.proofs.GroupPoolLemmas.{records_read}
use Rattle.xr_group.specs.Next.{ComesAfter, IsCountedBefore, IsFirstAfter, IsShorter, StartsBefore, counted_at, counteds_now, free_run_at, frees_now}
use Rattle.xr_group.specs.Next.{rev_at, revs_now, sized_run_at, sizes_now}
use Rattle.xr_group.specs.Parts.{HasGroup, group_state_of}
use Rattle.xr_group.specs.Trees.{GroupRecords}
use Rattle.xr_group.specs.declared.trees.Trees.{Trees}
use Rattle.xr_pool.specs.Overlay.{Blocks}
use Rattle.xr_refcount.specs.Refcount.{reference_records}
use Rattle.xr_rmap.specs.Rmap.{owner_records}
use Rattle.xr_space.specs.Space.{block_records, size_records}
use Rattle.xr_group.specs.Probes.{WantsLater}
use Rattle.xr_kinds.specs.Form.{Form}
use Rattle.xr_kinds.specs.FreeRuns.{block_form, by_block, by_size, size_form}
use Rattle.xr_kinds.specs.Reference.{reference_form}
use Rattle.xr_kinds.specs.Reverse.{reverse_form}
use Rattle.xr_kinds.specs.Spans.{span}
use Rattle.xr_kinds.specs.declared.free_runs.ByBlock.{ByBlock}
use Rattle.xr_kinds.specs.declared.free_runs.BySize.{BySize}
use Rattle.xr_kinds.specs.declared.reference.Reference.{Reference}
use Rattle.xr_kinds.specs.declared.reverse.Reverse.{Reverse}
use Rattle.xr_lookup.specs.Lookup.{AreUnwanted, IsLeast, from}
use Rattle.xr_maps.specs.Records.{IsBefore}
use Rattle.xr_maps.specs.declared.records.Counted.{Counted}

pub from_map : {X Y : Type 0} (f : X → Y) (xs : List X) (y : Y) → Contains (map f xs) y → (x : X) × Contains xs x × (f x ≡ y)
from_map f [] y (k, within, is) = absurd (omega (arith, within))
from_map f (x ∷ xs) y (zero, within, is) = (x, (0, omega arith, refl), is)
from_map f (x ∷ xs) y (suc k, within, is) =
    let found = from_map f xs y (k, omega (arith, within), is) in
    (found.0, (suc found.1.0, omega (arith, found.1.1), found.1.2), found.2)

pub into_map : {X Y : Type 0} (f : X → Y) (xs : List X) (x : X) → Contains xs x → Contains (map f xs) (f x)
into_map f [] x (k, within, is) = absurd (omega (arith, within))
into_map f (x' ∷ xs) x (zero, within, is) = (0, omega arith, ap f is)
into_map f (x' ∷ xs) x (suc k, within, is) =
    let found = into_map f xs x (k, omega (arith, within), is) in (suc found.0, omega (arith, found.1), found.2)

module _ {X Y : Type 0} (form : Form X) (at : X → Y) (Before : Y → Y → Type 0) (after : Option Y) (wanted : X → Bool) (xs : List X)
    (rules : AreRecords form xs) (wants : WantsLater form at Before after wanted) where
  valid : (x : X) → Contains xs x → form.is_valid x ≡ true
  valid x held = All-contains (λ (y : X). form.is_valid y ≡ true) xs x rules.valid held

  pub none_later : AreUnwanted wanted xs → (y : Y) → Contains (map at xs) y → ¬ (ComesAfter Before after y)
  none_later none y held follows =
      let found = from_map at xs y held in
      let out = All-contains (λ (x : X). wanted x ≡ false) xs found.0 none found.1 in
      let is = (wants found.0 (valid found.0 found.1)).1 (subst (ComesAfter Before after) (sym found.2) follows) in
      absurd cc

  pub first_later : (x : X) → IsLeast form xs wanted x
      → ((a b : X) → form.is_valid a ≡ true → form.is_valid b ≡ true → Before (at a) (at b) → is_lt (form.order a b) ≡ true)
      → IsFirstAfter Before (map at xs) after (at x)
  first_later x least ordered = record {
    held = into_map at xs x least.held;
    follows = (wants x (valid x least.held)).0 least.fits;
    first = λ y held follows before.
        let found = from_map at xs y held in
        let is = (wants found.0 (valid found.0 found.1)).1 (subst (ComesAfter Before after) (sym found.2) follows) in
        let above = All-contains (λ (z : X). wanted z ≡ true → is_lt (form.order z x) ≡ false) xs found.0 least.least found.1 is in
        let low = ordered found.0 x (valid found.0 found.1) (valid x least.held) (subst (λ (z : Y). Before z (at x)) (sym found.2) before) in
        absurd cc;
  }

  -- the same of all records of the group under that name
  pub none_now : (all : List Y) → all ≡ map at xs → AreUnwanted wanted xs → (y : Y) → Contains all y → ¬ (ComesAfter Before after y)
  none_now all same none y held = none_later none y (subst (λ (ys : List Y). Contains ys y) same held)

  pub first_now : (all : List Y) (x : X) (y : Y) → all ≡ map at xs → y ≡ at x → IsLeast form xs wanted x
      → ((a b : X) → form.is_valid a ≡ true → form.is_valid b ≡ true → Before (at a) (at b) → is_lt (form.order a b) ≡ true)
      → IsFirstAfter Before all after y
  first_now all x y same is least ordered =
      subst (λ (ys : List Y). IsFirstAfter Before ys after y) (sym same)
      (subst (λ (z : Y). IsFirstAfter Before (map at xs) after z) (sym is) (first_later x least ordered))

-- the records of the trees are those of the group
module _ (b : Blocks) (t : Trees) (h : HasGroup b t) where
  pub frees_read : frees_now (group_state_of b) ≡ map (free_run_at b.owner) (block_records b t.space)
  frees_read = ap (λ (x : GroupRecords). map (free_run_at b.owner) x.by_block) (records_read b t h)

  pub sizes_read : sizes_now (group_state_of b) ≡ map (sized_run_at b.owner) (size_records b t.space)
  sizes_read = ap (λ (x : GroupRecords). map (sized_run_at b.owner) x.by_size) (records_read b t h)

  pub revs_read : revs_now (group_state_of b) ≡ map (rev_at b.owner) (owner_records b t.rmap)
  revs_read = ap (λ (x : GroupRecords). map (rev_at b.owner) x.reverse) (records_read b t h)

  pub counteds_read : counteds_now (group_state_of b) ≡ map (counted_at b.owner) (reference_records b t.counts)
  counteds_read = ap (λ (x : GroupRecords). map (counted_at b.owner) x.reference) (records_read b t h)

-- the orders by addresses are those of the trees
module _ (number : ℕ) where
  pub free_order : (a b : ByBlock) → StartsBefore (free_run_at number a) (free_run_at number b) → is_lt (block_form.order a b) ≡ true
  free_order a b low = grind (arith, nat_tests, low)

  pub size_order_at : (a b : BySize) → IsShorter (sized_run_at number a) (sized_run_at number b) → is_lt (size_form.order a b) ≡ true
  size_order_at a b low = grind (arith, nat_tests, low)

  pub rev_order : (a b : Reverse) → IsBefore (rev_at number a) (rev_at number b) → is_lt (reverse_form.order a b) ≡ true
  rev_order a b low = grind (arith, nat_tests, low)

  pub count_order : (a b : Reference) → reference_form.is_valid a ≡ true → reference_form.is_valid b ≡ true
      → IsCountedBefore (counted_at number a) (counted_at number b) → is_lt (reference_form.order a b) ≡ true
  count_order a b good other low = grind (arith, nat_tests, good, other, low)

  module _ (at place : ℕ) (behind : (n : ℕ) → n < GROUP_BLOCKS → (place ≤ n) ↔ (at < GROUP_BLOCKS * number + n)) (within : place ≤ GROUP_BLOCKS) where
    pub free_wants : (run : Run) → run.start.0 ≡ at → WantsLater block_form (free_run_at number) StartsBefore (Some run) (from block_form (by_block (span place 0)))
    free_wants run same r good =
        let small : r.start < GROUP_BLOCKS = grind (arith, nat_tests, good) in
        let both = behind r.start small in (
          λ is. let low : place ≤ r.start = grind (arith, nat_tests, is) in omega (arith, same, both.0 low),
          λ follows. let low = both.1 (omega (arith, same, follows)) in grind (arith, nat_tests, low),
        )

    pub size_wants : (run : Run) → run.start.0 ≡ at → WantsLater size_form (sized_run_at number) IsShorter (Some run) (from size_form (by_size (span place run.len)))
    size_wants run same r good =
        let small : r.start < GROUP_BLOCKS = grind (arith, nat_tests, good) in
        let both = behind r.start small in (
          λ is. ⊎_elim
              (λ (longer : run.len < r.len). inl longer)
              (λ (rest : (run.len ≡ r.len) × (place ≤ r.start)). inr (rest.0, omega (arith, same, both.0 rest.1)))
              (grind (arith, nat_tests, is)),
          λ follows. ⊎_elim
              (λ (longer : run.len < r.len). grind (arith, nat_tests, longer))
              (λ (rest : (run.len ≡ r.len) × (run.start.0 < GROUP_BLOCKS * number + r.start)).
              let low = both.1 (omega (arith, same, rest.1)) in let alike = rest.0 in grind (arith, nat_tests, low, alike))
              follows,
        )

    pub count_wants : (c : Counted) (len count : ℕ) → c.run.start.0 ≡ at → WantsLater reference_form (counted_at number) IsCountedBefore (Some c)
        (from reference_form (record { start = place; len = len; count = count; staged = c.staged }))
    count_wants c len count same r good =
        let small : r.start < GROUP_BLOCKS = grind (arith, nat_tests, good) in
        let both = behind r.start small in (
          λ is. ⊎_elim
              (λ (kinds : (c.staged ≡ false) × (r.staged ≡ true)). inl kinds)
              (λ (rest : (c.staged ≡ r.staged) × (place ≤ r.start)). inr (rest.0, omega (arith, same, both.0 rest.1)))
              (grind (arith, nat_tests, is, small, within)),
          λ follows. ⊎_elim
              (λ (kinds : (c.staged ≡ false) × (r.staged ≡ true)).
              let one = kinds.0 in let other = kinds.1 in grind (arith, nat_tests, one, other, small, within))
              (λ (rest : (c.staged ≡ r.staged) × (c.run.start.0 < GROUP_BLOCKS * number + r.start)).
              let low = both.1 (omega (arith, same, rest.1)) in let kind = rest.0 in grind (arith, nat_tests, low, kind))
              follows,
        )
