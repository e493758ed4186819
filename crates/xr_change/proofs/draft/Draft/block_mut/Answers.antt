use Rattle.xr_change.proofs.SealLemmas.{within_draft}
use Rattle.xr_change.proofs.draft.Draft.block_mut.Goals as goal

pub note-requires-clause-within : goal.note-requires-clause-within
note-requires-clause-within g c = within_draft g.R.Record.form c.self.inside.over c.self.inside.edited.items _ c.args.n c.self.view_is c.requires
