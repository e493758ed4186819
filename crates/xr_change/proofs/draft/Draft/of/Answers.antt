use Rattle.std.proofs.Common.{ℕ, List, ap, ◌∙◌}
use Rattle.xr_change.proofs.SealLemmas.{none_edited}
use Rattle.xr_change.specs.Draft.{all_sealed}
use Rattle.xr_change.proofs.draft.Draft.of.Goals as goal

pub returns : goal.returns
returns g c = ap (λ (es : List ℕ). all_sealed g.R.Record.form es c.args.over) c.new.ensures ∙ none_edited g.R.Record.form c.args.over
