use Rattle.std.proofs.Common.{◌≡◌, ◌*◌, ◌/◌, ℕ, sym, length, ◌∙◌, ap, arith}
use Rattle.xr_kinds.specs.Form.{key_size}
use Rattle.xr_block.proofs.NodeBuildLemmas.{node_built}
use Rattle.xr_block.proofs.edit_node.build_node.Goals as goal

pub returns : goal.returns
returns g c = λ site place entries names fit same_keys same_pointers.
    let form = g.R.Record.form in
    let split = c.split_at_mut-first in
    let room : length split.result.0.now ≡ form.node_max * key_size form =
    split.ensures.front_len ∙ ap (λ (n : ℕ). n * c.key_bytes.result) (c.NODE_MAX.ensures ∙ sym g.met.R.Record.numbers.same_node_max)
    ∙ ap (λ (n : ℕ). form.node_max * n) c.key_bytes.ensures.value in
    node_built form g.met.R.Record.is_form site place c.args.fields.now names _ (length split.result.0.now) (length split.result.1.now)
    c.put_header.new.out c.put_both.new.out c.put_both-2.new.out (c.put_header.ensures site place names) room
    (omega (arith, split.ensures.front_len, split.ensures.back_len, c.split_at_mut-head.ensures.back_len, c.told-out, c.header_size.ensures))
    entries c.args.keys.now c.args.pointers.now fit same_keys same_pointers c.requires.pointers
    (ap (λ (n : ℕ). length c.args.pointers.now / n) c.pointer_bytes.ensures) c.put_both.ensures c.put_both-2.ensures
