use Rattle.std.proofs.Common.{refl, arith, length-set, slice_set}
use Rattle.xr_pool.specs.Overlay.{block_at}
use Rattle.xr_block.specs.TreeBlock.{records_in}
use Rattle.xr_change.proofs.BlockInTreeLemmas.{in_pool, leaf_changes, leaf_found, leaf_sought, leaf_counts, leaf_stands}
use Rattle.xr_change.proofs.SetLemmas.{replaced_at}
use Rattle.xr_change.specs.Sets.{replaced}
use Rattle.xr_block.specs.Edits.{sealed}
use Rattle.xr_block.specs.declared.bound.Bound.TheVariants.{Before}
use Rattle.xr_change.proofs.replace.replace_in_leaf.Goals as goal

pub block-requires : goal.block-requires
block-requires g c = in_pool g.R.Record.form c.args.draft.now 0 c.args.n c.requires.here

pub record_place-k-requires : goal.record_place-k-requires
record_place-k-requires g c =
    let sought = leaf_sought g.R.Record.form g.met.R.Record.is_form c.args.draft.now c.is_known.ensures c.args.n c.requires.here c.block.result.now c.block.ensures (Before c.args.old.now) in
    record { leaf = sought.0; parted = sought.1 }

pub block_mut-requires : goal.block_mut-requires
block_mut-requires g c = in_pool g.R.Record.form c.args.draft.now 0 c.args.n c.requires.here

pub replace_record-requires : goal.replace_record-requires
replace_record-requires g c =
    let place = leaf_found g.R.Record.form g.met.R.Record.is_form c.args.draft.now c.is_known.ensures c.args.n c.requires.here c.block.result.now c.block.ensures c.args.old.now c.record_place-k.result c.record_place-k.ensures in
    let form = g.R.Record.form in
    let laws = g.met.R.Record.is_form in
    let leaf = leaf_counts form laws c.args.draft.now c.is_known.ensures c.args.n c.requires.here c.block_mut.result.now c.block_mut.ensures.value in
    let stands = leaf_stands form laws c.args.draft.now c.is_known.ensures c.args.n c.requires.here c.args.old.now c.record_place-k.result place c.requires.held in
    record { place = omega (arith, leaf, stands.0); few = omega (arith, leaf, g.met.R.Record.numbers.same_leaf_max); valid = c.requires.valid }

pub returns : goal.returns
returns g c =
    let place = leaf_found g.R.Record.form g.met.R.Record.is_form c.args.draft.now c.is_known.ensures c.args.n c.requires.here c.block.result.now c.block.ensures c.args.old.now c.record_place-k.result c.record_place-k.ensures in
    let form = g.R.Record.form in
    let laws = g.met.R.Record.is_form in
    let k = c.record_place-k.result in
    let old = c.args.old.now in
    let new = c.args.new.now in
    let held = records_in form (block_at c.args.draft.now c.args.n) in
    let stands = leaf_stands form laws c.args.draft.now c.is_known.ensures c.args.n c.requires.here old k place c.requires.held in
    record {
      changes = leaf_changes form laws c.args.draft.now c.is_known.ensures c.args.n c.requires.here _ (sealed form c.replace_record.new.block) c.block_mut.ensures.value (slice_set held k new)
          (λ site place. c.replace_record.ensures site place held) 0 (replaced form.order old new)
          (replaced_at form.order old new held k place stands.0 stands.1) (omega (arith, length-set held k new));
      free = refl;
    }
