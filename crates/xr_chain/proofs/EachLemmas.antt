-- What is so of each place of a run, and of each block or pair of it.
use Rattle.std.proofs.Common.{◌≡◌, ℕ, ◌+◌, ◌-◌, ◌<◌, Bool, true, false, cond, refl, sym, ◌∙◌, ap, subst, arith}
use Rattle.std.proofs.lemmas.Bool.{and_from, and_parts, eq-eqb, eqb-true, ne_eqb}
use Rattle.std.specs.Prelude.{◌&&◌, ◌==◌, if◌then◌else◌}
use Rattle.xr_balance.specs.Ready.{EachOf}
use Rattle.xr_base.specs.declared.address.Run.{Run}
use Rattle.xr_base.specs.declared.geometry.TheConstants.{OWN_COW}
use Rattle.xr_chain.proofs.AwayLemmas.{bounds}
use Rattle.xr_group.specs.Sets.{is_run_pair}
use Rattle.xr_items.specs.Valid.{IsInode}
use Rattle.xr_maps.specs.StepLaws.{in_range}
use Rattle.xr_maps.specs.Steps.{is_within}

module _ (run : Run) where
  pub at_each : (P : ℕ → Type 0) → EachOf run (λ k. P (run.start.0 + k)) → (a : ℕ) → is_within run.start.0 run.len a ≡ true → P a
  at_each P each a within =
      let inside = bounds run.start.0 run.len a within in
      let same : run.start.0 + (a - run.start.0) ≡ a = omega (arith, inside.0) in
      subst P same (each (a - run.start.0) (omega (arith, inside.0, inside.1)))

  pub within_run : (k : ℕ) → k < run.len → is_within run.start.0 run.len (run.start.0 + k) ≡ true
  within_run k inside = in_range run.start.0 run.len (run.start.0 + k) (omega arith) (omega (arith, inside))

  pub each_at : (P : ℕ → Type 0) → ((a : ℕ) → is_within run.start.0 run.len a ≡ true → P a) → EachOf run (λ k. P (run.start.0 + k))
  each_at P all k inside = all (run.start.0 + k) (within_run k inside)

  -- the pairs of a run with a file
  module _ (owner off : ℕ) (inode : IsInode owner) (has : ℕ → ℕ → ℕ → Bool) (t : Bool) where
    file_owner : (owner == OWN_COW) ≡ false
    file_owner = ne_eqb owner OWN_COW (λ h. omega (arith, h, inode.1))

    pub pairs_at_each : EachOf run (λ k. has owner (off + k) (run.start.0 + k) ≡ t) → (w o a : ℕ) → is_run_pair run owner off w o a ≡ true → has w o a ≡ t
    pairs_at_each each w o a pair =
        let parts = and_parts ((owner == w) && is_within run.start.0 run.len a) (if owner == OWN_COW then o == 0 else o + run.start.0 == off + a) pair in
        let front = and_parts (owner == w) (is_within run.start.0 run.len a) parts.0 in
        let named : owner ≡ w = eqb-true owner w front.0 in
        let inside = bounds run.start.0 run.len a front.1 in
        let placed : (o + run.start.0 == off + a) ≡ true = ap (λ t. cond t (o == 0) (o + run.start.0 == off + a)) (sym file_owner) ∙ parts.1 in
        let on : o + run.start.0 ≡ off + a = eqb-true (o + run.start.0) (off + a) placed in
        let block : run.start.0 + (a - run.start.0) ≡ a = omega (arith, inside.0) in
        let offset : off + (a - run.start.0) ≡ o = omega (arith, inside.0, on) in
        ap (λ x. has x o a) (sym named) ∙ ap (λ x. has owner x a) (sym offset) ∙ ap (has owner (off + (a - run.start.0))) (sym block)
        ∙ each (a - run.start.0) (omega (arith, inside.0, inside.1))

    pub each_pair : ((w o a : ℕ) → is_run_pair run owner off w o a ≡ true → has w o a ≡ t) → EachOf run (λ k. has owner (off + k) (run.start.0 + k) ≡ t)
    each_pair all k inside =
        let on : off + k + run.start.0 ≡ off + (run.start.0 + k) = omega arith in
        all owner (off + k) (run.start.0 + k)
        (and_from ((owner == owner) && is_within run.start.0 run.len (run.start.0 + k)) (if owner == OWN_COW then off + k == 0 else off + k + run.start.0 == off + (run.start.0 + k))
        (and_from (owner == owner) (is_within run.start.0 run.len (run.start.0 + k)) (eq-eqb owner owner refl) (within_run k inside))
        (ap (λ t. cond t (off + k == 0) (off + k + run.start.0 == off + (run.start.0 + k))) file_owner ∙ eq-eqb (off + k + run.start.0) (off + (run.start.0 + k)) on))

  -- the pairs of staged blocks
  module _ (has : ℕ → ℕ → ℕ → Bool) (t : Bool) where
    pub staged_at_each : EachOf run (λ k. has OWN_COW 0 (run.start.0 + k) ≡ t) → (w o a : ℕ) → is_run_pair run OWN_COW 0 w o a ≡ true → has w o a ≡ t
    staged_at_each each w o a pair =
        let parts = and_parts ((OWN_COW == w) && is_within run.start.0 run.len a) (o == 0) pair in
        let front = and_parts (OWN_COW == w) (is_within run.start.0 run.len a) parts.0 in
        let named : OWN_COW ≡ w = eqb-true OWN_COW w front.0 in
        let first : o ≡ 0 = eqb-true o 0 parts.1 in
        ap (λ x. has x o a) (sym named) ∙ ap (λ x. has OWN_COW x a) first ∙ at_each (λ b. has OWN_COW 0 b ≡ t) each a front.1

    pub each_staged : ((w o a : ℕ) → is_run_pair run OWN_COW 0 w o a ≡ true → has w o a ≡ t) → EachOf run (λ k. has OWN_COW 0 (run.start.0 + k) ≡ t)
    each_staged all k inside = all OWN_COW 0 (run.start.0 + k) (and_from (is_within run.start.0 run.len (run.start.0 + k)) true (within_run k inside) refl)
