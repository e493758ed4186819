use Rattle.std.proofs.Common.{List, ℕ, ap, ◌∙◌}
use Rattle.xr_pool.specs.Overlay.{pool_size}
use Rattle.xr_change.proofs.SealLemmas.{none_edited, sealed_size}
use Rattle.xr_change.specs.Draft.{all_sealed}
use Rattle.xr_change.proofs.draft.make_room.Goals as goal

pub returns-then-is_full-clause-same : goal.returns-then-is_full-clause-same
returns-then-is_full-clause-same g c =
    let form = g.R.Record.form in
    ap (λ (es : List ℕ). all_sealed form es c.seal_all.new.over) c.seal_all.ensures.none ∙ none_edited form c.seal_all.new.over ∙ c.seal_all.ensures.sealed

pub returns-then-is_full-clause-pool : goal.returns-then-is_full-clause-pool
returns-then-is_full-clause-pool g c = ap pool_size c.seal_all.ensures.sealed ∙ sealed_size g.R.Record.form c.args.over.now c.args.edited.now.items
