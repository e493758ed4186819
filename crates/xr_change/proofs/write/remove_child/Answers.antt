use Rattle.std.specs.List.{remove}
use Rattle.xr_change.proofs.EditLemmas.{edited_node}
use Rattle.xr_change.proofs.WriteLemmas.{block_writes}
use Rattle.xr_change.proofs.write.remove_child.Goals as goal

pub returns-clause-writes : goal.returns-clause-writes
returns-clause-writes g c = block_writes _ _ _ c.is_known.ensures.all c.requires.here

pub returns-clause-node : goal.returns-clause-node
returns-clause-node g c =
    edited_node g.R.Record.form c.args.draft.now c.args.n _ (λ entries. remove entries c.args.k) c.requires.here c.block_mut.ensures.value c.remove_entry.ensures
