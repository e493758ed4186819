use Rattle.std.proofs.Common.{◌++◌, List, ℕ, length, sym, ap, ◌∙◌, arith, refl}
use Rattle.xr_block.specs.TreeBlock.{Entry, entries_in}
use Rattle.xr_block.specs.KeyLaws.{entries_key}
use Rattle.xr_block.specs.NodeEntries.{key_in, low_key_in}
use Rattle.xr_block.specs.NodeEntryLaws.{entry_read, length-entries}
use Rattle.xr_block.proofs.KeyLemmas.{length-greatest_high}
use Rattle.xr_block.proofs.put_key.put_key_of_node.Goals as goal

pub copy_from_slice-requires-2 : goal.copy_from_slice-requires-2
copy_from_slice-requires-2 g c =
    let long = ap length c.greatest_high.ensures
    ∙ length-greatest_high g.R.Record.form g.met.R.Record.is_form c.args.block.now c.told-block c.requires.some c.requires.few in
    omega (arith, long, c.split_at_mut-low.ensures.back_len, c.requires.long, c.LOW.ensures, g.met.R.Record.numbers.same_low)

pub returns : goal.returns
returns g c =
    let form = g.R.Record.form in
    let block = c.args.block.now in
    let entries = entries_in form block in
    let first = λ (d : Entry). ap (λ (e : Entry). e.key) (entry_read form block 0 d c.requires.some) in
    ap (λ (xs : List ℕ). xs ++ c.copy_from_slice-2.new.self) (c.copy_from_slice.ensures.after ∙ c.low_key_at.ensures.value)
    ∙ ap (λ (xs : List ℕ). low_key_in form 0 block ++ xs) c.copy_from_slice-2.ensures.after
    ∙ sym (entries_key form entries (key_in form 0 block) c.greatest_high.result.now form.low
    (omega (arith, length-entries form block, c.requires.some)) first refl c.greatest_high.ensures)
