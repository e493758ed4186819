use Rattle.std.proofs.Common.{◌-◌, ◌*◌, ◌≤◌, ◌++◌, ℕ, sym, length, ◌∙◌, ap, arith, refl}
use Rattle.std.proofs.Math.Nat.{mul-le-mul_right}
use Rattle.xr_base.specs.Image.{part}
use Rattle.xr_block.specs.TreeBlock.{zero_filled}
use Rattle.xr_block.proofs.LeafBuildLemmas.{leaf_gathered, stretch_within, stretch_size}
use Rattle.xr_block.proofs.edit_leaf.gather_leaf.Goals as goal

pub gather_items-requires-clause-within : goal.gather_items-requires-clause-within
gather_items-requires-clause-within g c =
    let size = c.SIZE-size.ensures ∙ sym g.met.R.Record.numbers.same_size in
    let within = stretch_within g.R.Record.form.size c.args.from c.args.to _ _ c.requires.within in
    let same = ap (λ (n : ℕ). n * c.args.to) size in
    omega (arith, within, same, c.record_bytes.ensures.long, c.record_bytes-2.ensures.long)

pub gather_items-requires-clause-room : goal.gather_items-requires-clause-room
gather_items-requires-clause-room g c =
    let form = g.R.Record.form in
    let size = c.SIZE-size.ensures ∙ sym g.met.R.Record.numbers.same_size in
    let to = ap (λ (n : ℕ). n * c.args.to) size in
    let from = ap (λ (n : ℕ). n * c.args.from) size in
    let most : (c.args.to - c.args.from) * form.size ≤ form.leaf_max * form.size =
    mul-le-mul_right form.size (omega (arith, c.requires.room, g.met.R.Record.numbers.same_leaf_max)) in
    omega (
      arith,
      to,
      from,
      most,
      stretch_size form.size c.args.from c.args.to c.requires.order,
      g.met.R.Record.is_form.leaf_fits,
      c.split_at_mut-head.ensures.back_len,
      c.told-out,
      c.header_size.ensures,
    )

pub returns : goal.returns
returns g c = λ site place one other xs ys names is_first is_second.
    let form = g.R.Record.form in
    let split = c.split_at_mut-head in
    let size = c.SIZE-size.ensures ∙ sym g.met.R.Record.numbers.same_size in
    leaf_gathered form g.met.R.Record.is_form site place c.args.fields.now names _ (length split.result.1.now) c.put_header.new.out c.gather_items.new.out
    (c.put_header.ensures site place names) (omega (arith, split.ensures.back_len, c.told-out, c.header_size.ensures))
    one other xs ys c.args.from c.args.to c.args.first.now c.args.second.now c.record_bytes.result.now c.record_bytes-2.result.now c.told-first c.told-second is_first is_second
    c.record_bytes.ensures.value c.record_bytes-2.ensures.value c.requires.order c.requires.within (omega (arith, c.requires.room, g.met.R.Record.numbers.same_leaf_max)) refl
    (c.gather_items.ensures ∙ ap (λ (n : ℕ). zero_filled (length split.result.1.now)
    (part (n * c.args.from) (n * c.args.to - n * c.args.from) (c.record_bytes.result.now ++ c.record_bytes-2.result.now))) size)
