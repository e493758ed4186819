use Rattle.std.proofs.Common.{◌≡◌, ℕ, Some, List, sym, subst, ◌∙◌}
use Rattle.xr_pool.specs.Overlay.{block_at, with_block}
use Rattle.xr_pool.specs.OverlayLaws.{block_written}
use Rattle.xr_block.specs.Tree.{site_of}
use Rattle.xr_block.specs.TreeBlock.{tree_block}
use Rattle.xr_change.proofs.EditLemmas.{tree_read}
use Rattle.xr_change.proofs.WriteLemmas.{block_writes, writes_if}
use Rattle.xr_block.specs.Edits.{sealed}
use Rattle.xr_change.proofs.write.set_left_sibling.Goals as goal

pub returns-in-Some-clause-writes : goal.returns-in-Some-clause-writes
returns-in-Some-clause-writes g c =
    writes_if _ _ c.args.next c.in-Some.n c.in-Some.is (block_writes c.args.draft.now c.in-Some.n _ c.is_known.ensures.all (c.requires c.in-Some.n c.in-Some.is))

pub returns-in-Some-clause-relinked : goal.returns-in-Some-clause-relinked
returns-in-Some-clause-relinked g c = λ q old is place count items _ _ whole.
    let form = g.R.Record.form in
    let b = c.args.draft.now in
    let n = c.in-Some.n in
    let site = site_of b in
    let same : n ≡ q = cc in
    let here : block_at b n ≡ tree_block form site place count items = subst (λ (m : ℕ). block_at b m ≡ tree_block form site place count items) (sym same) whole in
    let bytes : List ℕ = sealed form c.set_left.new.block in
    let made : bytes ≡ tree_block form site (record place { left = Some c.args.left }) count items =
    c.set_left.ensures site place count items c.is_known.ensures.identified
    (tree_read form c.block_mut.result.now _ c.block_mut.ensures.value site place count items c.is_known.ensures.identified here ∙ here) in
    subst (λ (m : ℕ). block_at (with_block b n bytes) m ≡ tree_block form site (record place { left = Some c.args.left }) count items) same
    (block_written b n bytes (c.requires n c.in-Some.is) ∙ made)
