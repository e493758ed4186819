use Rattle.std.proofs.Common.{◌≡◌, ◌⊎◌, ◌<◌, ℕ, List, [], ◌∷◌, length, refl, inl, inr, arith}
use Rattle.xr_scan.proofs.tests.push.Goals as goal

some_or_none : (region : List ℕ) → (0 < length region) ⊎ ((◌≡◌ {A = ℕ} 0 0) × (length region ≡ 0))
some_or_none [] = inr (refl, refl)
some_or_none (x ∷ region) = inl (omega arith)

pub push-requires : goal.push-requires
push-requires g c = some_or_none c.args.region.now
