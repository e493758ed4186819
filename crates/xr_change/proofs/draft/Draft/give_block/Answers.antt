use Rattle.xr_change.proofs.SealLemmas.{within_draft}
use Rattle.xr_change.proofs.draft.Draft.give_block.Goals as goal

pub give_block-requires : goal.give_block-requires
give_block-requires g c = within_draft g.R.Record.form c.self.inside.over c.self.inside.edited.items _ c.args.n c.self.view_is c.requires
