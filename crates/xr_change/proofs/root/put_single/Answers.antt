use Rattle.std.proofs.Common.{◌∙◌, [], ◌∷◌, sym, ap, append-nil}
use Rattle.byteorder.specs.Endian.{big_bytes}
use Rattle.xr_kinds.specs.Form.{pointer_size}
use Rattle.xr_block.specs.TreeBlock.{Entry}
use Rattle.xr_change.proofs.WholeTreeLemmas.{one_entry}
use Rattle.xr_change.proofs.root.put_single.Goals as goal

pub returns : goal.returns
returns g c = λ site place names small.
    let form = g.R.Record.form in
    let entry : Entry = record { key = c.args.key.now; child = c.args.child } in
    c.build_node.ensures site place (entry ∷ []) names (one_entry form entry c.requires.key small) (sym (append-nil c.args.key.now))
    (c.put_number.ensures ∙ ap (big_bytes (pointer_size form)) c.from.ensures ∙ sym (append-nil (big_bytes (pointer_size form) c.args.child)))
