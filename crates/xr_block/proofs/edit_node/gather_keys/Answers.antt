use Rattle.std.proofs.Common.{◌*◌, ℕ, ap, arith}
use Rattle.xr_kinds.specs.Form.{key_size}
use Rattle.xr_block.proofs.LeafBuildLemmas.{stretch_within, stretch_size}
use Rattle.xr_block.proofs.edit_node.gather_keys.Goals as goal

pub gather_items-requires-clause-within : goal.gather_items-requires-clause-within
gather_items-requires-clause-within g c =
    let within = stretch_within (key_size g.R.Record.form) c.args.from c.args.to _ _ c.requires.within in
    let same = ap (λ (n : ℕ). n * c.args.to) c.key_bytes-size.ensures.value in
    omega (arith, within, same, c.keys_in.ensures.long, c.keys_in-2.ensures.long)

pub gather_items-requires-clause-room : goal.gather_items-requires-clause-room
gather_items-requires-clause-room g c =
    let to = ap (λ (n : ℕ). n * c.args.to) c.key_bytes-size.ensures.value in
    let from = ap (λ (n : ℕ). n * c.args.from) c.key_bytes-size.ensures.value in
    omega (arith, to, from, stretch_size (key_size g.R.Record.form) c.args.from c.args.to c.requires.order, c.requires.room)
