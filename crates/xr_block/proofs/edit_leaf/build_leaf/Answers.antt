use Rattle.std.proofs.Common.{◌*◌, ◌/◌, ℕ, sym, length, ◌∙◌, ap, arith}
use Rattle.std.proofs.lemmas.List.{append-nil}
use Rattle.xr_block.proofs.LeafBuildLemmas.{leaf_built}
use Rattle.xr_block.proofs.edit_leaf.build_leaf.Goals as goal

pub returns : goal.returns
returns g c = λ site place listed names valid same.
    let form = g.R.Record.form in
    let size = c.SIZE.ensures ∙ sym g.met.R.Record.numbers.same_size in
    let room = ap (λ (n : ℕ). form.size * n) g.met.R.Record.numbers.same_leaf_max in
    let split = c.split_at_mut-head in
    leaf_built form g.met.R.Record.is_form site place c.args.fields.now names _ (length split.result.1.now) c.put_header.new.out c.put_both.new.out
    (c.put_header.ensures site place names) (omega (arith, split.ensures.back_len, c.told-out, c.header_size.ensures))
    listed c.args.records.now valid (append-nil c.args.records.now ∙ same) (omega (arith, c.requires.room, room)) (ap (λ (n : ℕ). length c.args.records.now / n) size) c.put_both.ensures
