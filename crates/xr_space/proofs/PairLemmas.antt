-- That the two trees hold the same runs stays so where both change alike.
use Rattle.std.proofs.Common.{◌≡◌, ◌≢◌, ◌⊎◌, ◌↔◌}
use Rattle.std.proofs.Math.Logic.{⊎_map}
use Rattle.xr_kinds.specs.declared.span.Span.{Span}
use Rattle.xr_pool.specs.Overlay.{Blocks}
use Rattle.xr_change.specs.Sets.{Gains, Loses, Swaps}
use Rattle.xr_space.specs.Space.{ArePaired, IsFreeRun, IsRunBySize}
use Rattle.xr_space.specs.declared.space.Space.{Space}

-- one less and one more is one in the place of another
pub lose_gain : (P Q R : Span → Type 0) (old new : Span) → Loses P old Q → Gains Q new R → Swaps P old new R
lose_gain P Q R old new less more other = (
  (λ after. ⊎_map (λ is. is) (less other).0 ((more other).0 after)),
  (λ known. (more other).1 (⊎_map (λ is. is) (less other).1 known)),
)

module _ (a b : Blocks) (s t : Space) (paired : ArePaired a s) where
  alike : (change : (Span → Type 0) → Span → Type 0) → ((P R : Span → Type 0) → ((x : Span) → P x → R x) → (x : Span) → change P x → change R x)
      → ((x : Span) → IsFreeRun b t x ↔ change (IsFreeRun a s) x) → ((x : Span) → IsRunBySize b t x ↔ change (IsRunBySize a s) x) → ArePaired b t
  alike change keeps one two = record {
    sized = λ x held. (two x).1 (keeps (IsFreeRun a s) (IsRunBySize a s) paired.sized x ((one x).0 held));
    free = λ x held. (one x).1 (keeps (IsRunBySize a s) (IsFreeRun a s) paired.free x ((two x).0 held));
  }

  pub gain_pairs : (run : Span) → Gains (IsFreeRun a s) run (IsFreeRun b t) → Gains (IsRunBySize a s) run (IsRunBySize b t) → ArePaired b t
  gain_pairs run one two = alike (λ P x. (x ≡ run) ⊎ P x) (λ P R from x. ⊎_map (λ is. is) (from x)) one two

  pub lose_pairs : (run : Span) → Loses (IsFreeRun a s) run (IsFreeRun b t) → Loses (IsRunBySize a s) run (IsRunBySize b t) → ArePaired b t
  lose_pairs run one two = alike (λ P x. (x ≢ run) × P x) (λ P R from x kept. (kept.0, from x kept.1)) one two

  pub swap_pairs : (old new : Span) → Swaps (IsFreeRun a s) old new (IsFreeRun b t) → Swaps (IsRunBySize a s) old new (IsRunBySize b t) → ArePaired b t
  swap_pairs old new one two =
      alike (λ P x. (x ≡ new) ⊎ ((x ≢ old) × P x)) (λ P R from x. ⊎_map (λ is. is) (λ kept. (kept.0, from x kept.1))) one two
