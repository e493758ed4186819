use Rattle.std.proofs.Common.{◌<◌, List, ℕ, subst, sym}
use Rattle.xr_pool.specs.Overlay.{Blocks, block_at, pool_size}
use Rattle.xr_change.proofs.SealLemmas.{block_reads, within_draft}
use Rattle.xr_change.specs.Draft.{ReadsAs}
use Rattle.xr_change.proofs.draft.Draft.block.Goals as goal

pub block-requires : goal.block-requires
block-requires g c = within_draft g.R.Record.form c.self.inside.over c.self.inside.edited.items _ c.args.n c.self.view_is c.requires

pub returns : goal.returns
returns g c =
    let form = g.R.Record.form in
    let b = c.self.inside.over in
    let es = c.self.inside.edited.items in
    let within : c.args.n < pool_size b = within_draft form b es _ c.args.n c.self.view_is c.requires in
    subst (λ (bytes : List ℕ). ReadsAs form bytes (block_at c.args.self.now c.args.n)) (sym c.block.ensures)
    (subst (λ (z : Blocks). ReadsAs form (block_at b c.args.n) (block_at z c.args.n)) c.self.view_is
    (block_reads form b es c.args.n within (c.has_blocks.ensures.blocks c.args.n within).long))
