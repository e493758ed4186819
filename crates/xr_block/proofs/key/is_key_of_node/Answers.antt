use Rattle.std.proofs.Common.{◌∙◌, ◌≡◌, ◌<◌, ap, sym, arith, length, take}
use Rattle.std.proofs.lemmas.List.{length-take-le}
use Rattle.xr_block.specs.KeyLaws.{entries_key, length-key, checked_key}
use Rattle.xr_kinds.specs.Form.{key_size}
use Rattle.xr_block.specs.NodeEntryLaws.{entry_read, length-entries}
use Rattle.xr_block.specs.Rows.{key_of_entries}
use Rattle.xr_block.specs.TreeBlock.{Entry, entries_in}
use Rattle.xr_block.proofs.key.is_key_of_node.Goals as goal

pub returns : goal.returns
returns g c =
    let form = g.R.Record.form in
    let laws = g.met.R.Record.is_form in
    let same = g.met.R.Record.numbers.same_low in
    let block = c.args.block.now in
    let entries = entries_in form block in
    let key = c.key_at.result.now in
    let some : 0 < length entries = omega (arith, length-entries form block, c.requires.some) in
    let long : length key ≡ key_size form = ap length c.key_at.ensures ∙ length-key form laws 0 block c.told-block (omega (arith, laws.node_some)) in
    let bound : c.LOW-2.result ≡ form.low = c.LOW-2.ensures ∙ sym same in
    let low : length (take c.LOW-2.result key) ≡ form.low = length-take-le c.LOW-2.result key (omega (arith, long, bound)) ∙ bound in
    let first = λ (d : Entry). ap (λ (e : Entry). e.key) (entry_read form block 0 d c.requires.some) ∙ sym c.key_at.ensures in
    checked_key c.both.result c.is_same-low.result c.is_same-high.result c.args.key.now (take c.LOW-2.result key)
    c.greatest_high.result.now (key_of_entries form entries) c.LOW.result c.LOW-3.result form.low
    (c.LOW.ensures ∙ sym same) (c.LOW-3.ensures ∙ sym same) low
    (entries_key form entries key c.greatest_high.result.now c.LOW-2.result some first bound c.greatest_high.ensures)
    c.is_same-low.ensures c.is_same-high.ensures c.both.ensures
