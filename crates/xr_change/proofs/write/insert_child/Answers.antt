use Rattle.std.specs.List.{insert}
use Rattle.xr_change.proofs.EditLemmas.{edited_node}
use Rattle.xr_change.proofs.WriteLemmas.{block_writes}
use Rattle.xr_change.specs.Regroups.{entry_for}
use Rattle.xr_change.proofs.write.insert_child.Goals as goal

pub returns-clause-writes : goal.returns-clause-writes
returns-clause-writes g c = block_writes _ _ _ c.is_known.ensures.all c.requires.here.0

pub returns-clause-node : goal.returns-clause-node
returns-clause-node g c =
    let form = g.R.Record.form in
    let b = c.args.draft.now in
    edited_node form b c.args.n _ (λ entries. insert entries c.args.k (entry_for form b c.args.level c.args.m)) c.requires.here.0 c.block_mut.ensures.value
    (rw c.key_of-key.ensures.key at c.insert_entry.ensures)
