use Rattle.std.proofs.Common.{◌≡◌, ◌+◌, ◌^◌, ◌<◌, ℕ, [], ◌∷◌, None, arith}
use Rattle.xr_kinds.specs.Form.{Form, IsForm, pointer_size}
use Rattle.xr_pool.specs.Overlay.{Blocks, AreKnown}
use Rattle.xr_pool.specs.OverlayLaws.{block_written}
use Rattle.xr_block.specs.Rows.{min_records}
use Rattle.xr_block.specs.Tree.{site_of}
use Rattle.xr_block.specs.TreeBlock.{Entry, Place}
use Rattle.xr_change.proofs.WholeTreeLemmas.{pointer_fits}
use Rattle.xr_change.proofs.StepLemmas.{row_below, row_keyed}
use Rattle.xr_change.proofs.ParentLemmas.{level_small}
use Rattle.xr_change.proofs.WriteLemmas.{block_writes}
use Rattle.xr_change.specs.Alters.{AreRowsIn}
use Rattle.xr_change.specs.Regroups.{entry_for}
use Rattle.xr_block.specs.Edits.{sealed}
use Rattle.xr_block.specs.UnderLaws.{min_records_some}
use Rattle.xr_change.proofs.root.put_node_above.Goals as goal

-- few levels stand below a root
few_levels : {X : Type 0} (form : Form X) (laws : IsForm form) (b : Blocks) → AreKnown b → (level n : ℕ) → AreRowsIn form b (min_records form level) level (n ∷ []) → level + 1 < 2 ^ 16
few_levels form laws b known level n rows = level_small form laws b known (min_records form level) level (n ∷ []) (min_records_some form laws level) rows (omega arith)

pub overflow_add-root : goal.overflow_add-root
overflow_add-root g c =
    let small = few_levels g.R.Record.form g.met.R.Record.is_form c.args.draft.now c.is_known.ensures c.args.root.level c.args.root.block c.requires.rows in
    search (arith, small)

pub key_of-key-requires-clause-here : goal.key_of-key-requires-clause-here
key_of-key-requires-clause-here g c = row_below g.R.Record.form c.args.draft.now (min_records g.R.Record.form c.args.root.level) c.args.root.level [] c.args.root.block [] c.requires.rows

pub key_of-key-requires-clause-keyed : goal.key_of-key-requires-clause-keyed
key_of-key-requires-clause-keyed g c =
    row_keyed g.R.Record.form g.met.R.Record.is_form c.args.draft.now c.is_known.ensures c.args.root.level [] c.args.root.block [] c.requires.rows

pub put_single-requires-clause-level : goal.put_single-requires-clause-level
put_single-requires-clause-level g c =
    let small = few_levels g.R.Record.form g.met.R.Record.is_form c.args.draft.now c.is_known.ensures c.args.root.level c.args.root.block c.requires.rows in
    omega (arith, small, c.header-fields.ensures.level)

pub returns-clause-writes : goal.returns-clause-writes
returns-clause-writes g c = block_writes c.args.draft.now c.args.p (sealed g.R.Record.form c.put_single.new.out) c.is_known.ensures.all c.requires.here

pub returns-clause-node : goal.returns-clause-node
returns-clause-node g c =
    let form = g.R.Record.form in
    let b = c.args.draft.now in
    let place : Place = record { number = c.args.p; level = c.args.root.level + 1; left = None; right = None } in
    let entry : Entry = entry_for form b c.args.root.level c.args.root.block in
    let key : c.key_of-key.result.now ≡ entry.key = c.key_of-key.ensures.key in
    let number : c.args.root.block < 256 ^ pointer_size form =
    pointer_fits form b c.is_known.ensures c.args.root.block
    (row_below form b (min_records form c.args.root.level) c.args.root.level [] c.args.root.block [] c.requires.rows) in
    rw (block_written b c.args.p (sealed form c.put_single.new.out) c.requires.here, ← key) (c.put_single.ensures (site_of b) place c.header-fields.ensures number)

pub returns-clause-level : goal.returns-clause-level
returns-clause-level g c = few_levels g.R.Record.form g.met.R.Record.is_form c.args.draft.now c.is_known.ensures c.args.root.level c.args.root.block c.requires.rows
