use Rattle.std.proofs.Common.{◌*◌, ℕ, ap, arith}
use Rattle.xr_kinds.specs.Form.{pointer_size}
use Rattle.xr_block.proofs.LeafBuildLemmas.{stretch_within, stretch_size}
use Rattle.xr_block.proofs.edit_node.gather_pointers.Goals as goal

pub gather_items-requires-clause-within : goal.gather_items-requires-clause-within
gather_items-requires-clause-within g c =
    let within = stretch_within (pointer_size g.R.Record.form) c.args.from c.args.to _ _ c.requires.within in
    let same = ap (λ (n : ℕ). n * c.args.to) c.pointer_bytes-size.ensures in
    omega (arith, within, same, c.pointers_in.ensures.long, c.pointers_in-2.ensures.long)

pub gather_items-requires-clause-room : goal.gather_items-requires-clause-room
gather_items-requires-clause-room g c =
    let to = ap (λ (n : ℕ). n * c.args.to) c.pointer_bytes-size.ensures in
    let from = ap (λ (n : ℕ). n * c.args.from) c.pointer_bytes-size.ensures in
    omega (arith, to, from, stretch_size (pointer_size g.R.Record.form) c.args.from c.args.to c.requires.order, c.requires.room)
