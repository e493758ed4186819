-- The pairs of a run with an owner, by the trees' words and by those of works.
use Rattle.std.proofs.Common.{◌≡◌, ◌≢◌, ℕ, ◌+◌, ◌<◌, Bool, true, false, not, ⊎_elim, refl, sym, ◌∙◌, ap, arith}
use Rattle.std.proofs.lemmas.Bool.{cases_Bool, cases_eq, eq-eqb, lt-ltb, ne_eqb}
use Rattle.std.proofs.lemmas.Bool.Decides.{nat_tests}
use Rattle.std.specs.Prelude.{◌&&◌, ◌||◌, ◌==◌, if◌then◌else◌, nat_lt}
use Rattle.xr_base.specs.declared.address.Run.{Run}
use Rattle.xr_base.specs.declared.geometry.TheConstants.{FILES, FIRST_INODE, OWN_COW}
use Rattle.xr_group.specs.Sets.{is_run_pair}
use Rattle.xr_items.specs.Valid.{IsInode}
use Rattle.xr_maps.specs.Holdings.{in_layout, one_if}
use Rattle.xr_maps.specs.StepLaws.{in_or_out, in_range}
use Rattle.xr_maps.specs.Steps.{is_within}

-- a test that comes to hold, or no longer holds, where the test t does; and so behind another test
pub comes : (u x y t : Bool) → y ≡ (x || t) → (t ≡ true → x ≡ false) → one_if (u && y) ≡ one_if (u && x) + one_if (u && t)
comes u x y t is apart = elim u as (λ u. one_if (u && y) ≡ one_if (u && x) + one_if (u && t)) [
  | true ↦ ⊎_elim
      (λ (yes : t ≡ true). rw (is, apart yes, yes) refl)
      (λ (no : t ≡ false). rw (is, no) (elim x as (λ x. one_if (x || false) ≡ one_if x + 0) [ true ↦ refl | false ↦ refl ]))
      (cases_Bool t)
  | false ↦ refl
]

pub goes : (u x y t : Bool) → y ≡ (x && not t) → (t ≡ true → x ≡ true) → one_if (u && y) + one_if (u && t) ≡ one_if (u && x)
goes u x y t is there = elim u as (λ u. one_if (u && y) + one_if (u && t) ≡ one_if (u && x)) [
  | true ↦ ⊎_elim
      (λ (yes : t ≡ true). rw (is, there yes, yes) refl)
      (λ (no : t ≡ false). rw (is, no) (elim x as (λ x. one_if (x && true) + 0 ≡ one_if x) [ true ↦ refl | false ↦ refl ]))
      (cases_Bool t)
  | false ↦ refl
]

and_none : (t : Bool) → (t && false) ≡ false
and_none t = elim t as (λ t. (t && false) ≡ false) [ true ↦ refl | false ↦ refl ]

and_all : (t : Bool) → (t && true) ≡ t
and_all t = elim t as (λ t. (t && true) ≡ t) [ true ↦ refl | false ↦ refl ]

-- a block of the run stands as far behind its start as its offset behind the first
same_places : (off o b : ℕ) (run : Run) → o + run.start.0 ≡ off + b → is_within run.start.0 run.len b ≡ is_within off run.len o
same_places off o b run on = ⊎_elim
    (λ it. in_range run.start.0 run.len b (omega (arith, it.0, on)) (omega (arith, it.1, on)) ∙ sym it.2)
    (λ out. ⊎_elim
    (λ back. let lie : is_within off run.len o ≡ true = in_range off run.len o (omega (arith, back.0, on)) (omega (arith, back.1, on)) in absurd cc)
    (λ too. too ∙ sym out)
    (in_or_out run.start.0 run.len b))
    (in_or_out off run.len o)

module _ (run : Run) (off o b : ℕ) where
  laid : (is_within run.start.0 run.len b && (o + run.start.0 == off + b)) ≡ (is_within off run.len o && (b + off == run.start.0 + o))
  laid = ⊎_elim
      (λ (on : o + run.start.0 ≡ off + b).
      let swapped : b + off ≡ run.start.0 + o = omega (arith, on) in
      rw (eq-eqb (o + run.start.0) (off + b) on, eq-eqb (b + off) (run.start.0 + o) swapped, same_places off o b run on) refl)
      (λ (apart : o + run.start.0 ≢ off + b).
      let swapped : b + off ≢ run.start.0 + o = λ h. apart (omega (arith, h)) in
      rw (ne_eqb (o + run.start.0) (off + b) apart, ne_eqb (b + off) (run.start.0 + o) swapped)
      (and_none (is_within run.start.0 run.len b) ∙ sym (and_none (is_within off run.len o))))
      (cases_eq (o + run.start.0) (off + b))

  pub not_laid : is_within run.start.0 run.len b ≡ false → in_layout b o off run ≡ 0
  not_laid out = ap one_if (sym laid ∙ ap (λ t. t && (o + run.start.0 == off + b)) out)

  module _ (owner : ℕ) (inode : IsInode owner) where
    no_cow : (owner == OWN_COW) ≡ false
    no_cow = ne_eqb owner OWN_COW (λ h. omega (arith, h, inode.1))

    -- the pairs of a file's run
    pub file_pair : (f : ℕ) → one_if (nat_lt f FILES && is_run_pair run owner off (FIRST_INODE + f) o b) ≡ (if owner == FIRST_INODE + f then in_layout b o off run else 0)
    file_pair f = ⊎_elim
        (λ (same : owner ≡ FIRST_INODE + f).
        rw (lt-ltb f FILES (omega (arith, same, inode.1)), eq-eqb owner (FIRST_INODE + f) same, no_cow) (ap one_if laid))
        (λ (other : owner ≢ FIRST_INODE + f). rw (ne_eqb owner (FIRST_INODE + f) other) (ap one_if (and_none (nat_lt f FILES))))
        (cases_eq owner (FIRST_INODE + f))

    -- are none of staged blocks
    pub file_pair_unstaged : is_run_pair run owner off OWN_COW o b ≡ false
    file_pair_unstaged = rw no_cow refl

  -- the pairs of staged blocks are theirs alone
  pub staging_pair_is : is_run_pair run OWN_COW 0 OWN_COW 0 b ≡ is_within run.start.0 run.len b
  staging_pair_is = and_all (is_within run.start.0 run.len b)

  pub staging_pair_files : (f : ℕ) → (nat_lt f FILES && is_run_pair run OWN_COW off (FIRST_INODE + f) o b) ≡ false
  staging_pair_files f = ⊎_elim
      (λ (yes : nat_lt f FILES ≡ true).
      let below : f < FILES = grind (arith, nat_tests) in
      rw (ne_eqb OWN_COW (FIRST_INODE + f) (λ h. omega (arith, h, below))) (and_none (nat_lt f FILES)))
      (λ (no : nat_lt f FILES ≡ false). rw no refl)
      (cases_Bool (nat_lt f FILES))
