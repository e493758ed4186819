-- The pairs of a record, one for each of its blocks.
use Rattle.std.proofs.Common.{◌≡◌, ℕ, ◌+◌, ◌-◌, ◌<◌, refl, arith}
use Rattle.std.proofs.lemmas.Bool.Decides.{nat_tests}
use Rattle.xr_kinds.specs.declared.reverse.Reverse.{Reverse}
use Rattle.xr_rmap.specs.Pairs.{IsPair, offset_at}

module _ (r : Reverse) where
  pub pair_at : (i : ℕ) → i < r.len → IsPair r r.owner (offset_at r i) (r.start + i)
  pair_at i within = record { same_owner = refl; from = omega arith; below = omega (arith, within); at = grind (arith, nat_tests) }

  -- what is so of the pair of each block is so of each pair
  pub all_pairs : (P : ℕ → ℕ → ℕ → Type 0) → ((i : ℕ) → i < r.len → P r.owner (offset_at r i) (r.start + i)) → (w o n : ℕ) → IsPair r w o n → P w o n
  all_pairs P each w o n says =
      let i : ℕ = n - r.start in
      let block : r.start + i ≡ n = omega (arith, says.from) in
      let off : offset_at r i ≡ o = grind (arith, nat_tests, says.same_owner, says.at, block) in
      let here = each i (omega (arith, says.from, says.below)) in
      rw (block, off, says.same_owner) at here
