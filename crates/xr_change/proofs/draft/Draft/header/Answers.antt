use Rattle.xr_change.proofs.SealLemmas.{within_draft}
use Rattle.xr_change.proofs.draft.Draft.header.Goals as goal

pub new-requires : goal.new-requires
new-requires g c = within_draft g.R.Record.form c.self.inside.over c.self.inside.edited.items _ c.args.n c.self.view_is c.requires
