use Rattle.std.proofs.Common.{◌≡◌, ◌∙◌, List, [], ◌∷◌, sym, subst}
use Rattle.xr_pool.specs.Overlay.{block_at}
use Rattle.xr_block.specs.Rows.{min_records, key_held}
use Rattle.xr_block.specs.Tree.{tree_held}
use Rattle.xr_block.specs.TreeBlock.{Entry}
use Rattle.xr_change.proofs.EditLemmas.{edited_node}
use Rattle.xr_change.proofs.ReadLemmas.{read_key}
use Rattle.xr_change.proofs.StepLemmas.{keyed_again, row_below, row_keyed}
use Rattle.xr_change.proofs.WriteLemmas.{block_writes}
use Rattle.xr_change.specs.Writes.{Writes}
use Rattle.xr_block.specs.Edits.{IsNodeOf, sealed, with_key}
use Rattle.xr_block.specs.NodeEntries.{key_in}
use Rattle.xr_change.proofs.write.update_key.Goals as goal

pub key_of-key-requires-clause-here : goal.key_of-key-requires-clause-here
key_of-key-requires-clause-here g c =
    row_below g.R.Record.form c.args.draft.now (min_records g.R.Record.form c.args.level) c.args.level c.requires.pre c.args.c c.requires.post c.requires.rows

pub key_of-key-requires-clause-keyed : goal.key_of-key-requires-clause-keyed
key_of-key-requires-clause-keyed g c =
    row_keyed g.R.Record.form g.met.R.Record.is_form c.args.draft.now c.is_known.ensures c.args.level c.requires.pre c.args.c c.requires.post c.requires.rows

pub returns-clause-marks : goal.returns-clause-marks
returns-clause-marks g c =
    let writes : Writes c.args.draft.now _ (c.args.n ∷ []) =
    block_writes c.args.draft.now c.args.n (sealed g.R.Record.form c.set_key.new.block) c.is_known.ensures.all c.requires.here in
    writes.marks

pub returns-clause-node : goal.returns-clause-node
returns-clause-node g c =
    let form = g.R.Record.form in
    let b = c.args.draft.now in
    edited_node form b c.args.n _ (with_key c.args.k (key_held form (tree_held form b) c.args.level c.args.c)) c.requires.here c.block_mut.ensures.value
    (rw c.key_of-key.ensures.key at c.set_key.ensures)

pub returns-then-is_same-clause-node : goal.returns-then-is_same-clause-node
returns-then-is_same-clause-node g c = λ site place entries whole.
    let form = g.R.Record.form in
    let b = c.args.draft.now in
    let same = c.is_same.ensures.0 c.if-is_same.true in
    let had : key_in form c.args.k (block_at b c.args.n) ≡ key_held form (tree_held form b) c.args.level c.args.c =
    sym (read_key form c.block.result.now _ c.block.ensures c.args.k) ∙ sym c.key_at.ensures ∙ same ∙ c.key_of-key.ensures.key in
    subst (λ (es : List Entry). IsNodeOf form site place es (block_at b c.args.n))
    (sym (keyed_again form g.met.R.Record.is_form site place entries (block_at b c.args.n) whole c.args.k _ c.requires.within had)) whole
