use Rattle.std.proofs.Common.{◌≡◌, ◌*◌, ℕ, sym, length, ◌∙◌, ap, arith, refl}
use Rattle.xr_kinds.specs.Form.{key_size}
use Rattle.xr_block.proofs.NodeBuildLemmas.{node_gathered}
use Rattle.xr_block.proofs.edit_node.gather_node.Goals as goal

pub returns : goal.returns
returns g c = λ site place one other xs ys names is_first is_second.
    let form = g.R.Record.form in
    let numbers = g.met.R.Record.numbers in
    let split = c.split_at_mut-keys in
    let room : length split.result.0.now ≡ form.node_max * key_size form =
    split.ensures.front_len ∙ ap (λ (n : ℕ). n * c.key_bytes.result) (c.NODE_MAX.ensures ∙ sym numbers.same_node_max)
    ∙ ap (λ (n : ℕ). form.node_max * n) c.key_bytes.ensures.value in
    node_gathered form g.met.R.Record.is_form site place c.args.fields.now names _ (length split.result.0.now) (length split.result.1.now)
    c.put_header.new.out c.gather_keys.new.keys c.gather_pointers.new.pointers (c.put_header.ensures site place names) room
    (omega (arith, split.ensures.front_len, split.ensures.back_len, c.split_at_mut-head.ensures.back_len, c.told-out, c.header_size.ensures))
    one other xs ys c.args.from c.args.to c.args.first.now c.args.second.now c.told-first c.told-second is_first is_second c.requires.order c.requires.within
    (omega (arith, c.requires.room, numbers.same_node_max)) refl c.gather_keys.ensures c.gather_pointers.ensures
