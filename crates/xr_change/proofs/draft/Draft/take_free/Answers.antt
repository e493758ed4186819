use Rattle.std.proofs.Common.{◌≡◌, ◌<◌, ◌≤◌, true, false, refl, sym, ap, subst, ◌∙◌, arith}
use Rattle.xr_pool.specs.Overlay.{Blocks, free_count, pool_size}
use Rattle.xr_change.proofs.SealLemmas.{sealed_size}
use Rattle.xr_change.proofs.WriteLemmas.{same_count, some_free}
use Rattle.xr_change.specs.Draft.{all_sealed}
use Rattle.xr_change.proofs.draft.Draft.take_free.Goals as goal

pub unreachable-requires : goal.unreachable-requires
unreachable-requires g c =
    let form = g.R.Record.form in
    let b = c.self.inside.over in
    let size = sealed_size form b c.self.inside.edited.items in
    let some : 1 ≤ free_count b =
    subst (λ (n : _). 1 ≤ n) (same_count b (all_sealed form c.self.inside.edited.items b) refl size) (subst (λ (z : Blocks). 1 ≤ free_count z) (sym c.self.view_is) c.requires) in
    let found = some_free b (pool_size b) some in
    let lie : true ≡ false = sym found.3 ∙ c.in-None.ensures.none.0 refl found.0 found.1 found.2 in
    absurd cc

pub returns-clause-within : goal.returns-clause-within
returns-clause-within g c =
    let size = sealed_size g.R.Record.form c.self.inside.over c.self.inside.edited.items in
    let within : (1 ≤ c.in-Some.n) × (c.in-Some.n < pool_size c.self.inside.over) = c.in-Some.ensures.within in
    (within.0, omega (arith, within.1, size, ap pool_size c.self.view_is))
