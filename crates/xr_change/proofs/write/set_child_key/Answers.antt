use Rattle.xr_block.specs.Rows.{key_held}
use Rattle.xr_block.specs.Tree.{tree_held}
use Rattle.xr_change.proofs.EditLemmas.{edited_node}
use Rattle.xr_change.proofs.WriteLemmas.{block_writes}
use Rattle.xr_block.specs.Edits.{with_key}
use Rattle.xr_change.proofs.write.set_child_key.Goals as goal

pub returns-clause-writes : goal.returns-clause-writes
returns-clause-writes g c = block_writes _ _ _ c.is_known.ensures.all c.requires.here.0

pub returns-clause-node : goal.returns-clause-node
returns-clause-node g c =
    let form = g.R.Record.form in
    let b = c.args.draft.now in
    edited_node form b c.args.n _ (with_key c.args.k (key_held form (tree_held form b) c.args.level c.args.c)) c.requires.here.0 c.block_mut.ensures.value
    (rw c.key_of-key.ensures.key at c.set_key.ensures)
