use Rattle.std.proofs.Common.{arith, remove}
use Rattle.std.proofs.lemmas.List.Edits.{length-remove}
use Rattle.xr_pool.specs.Overlay.{block_at}
use Rattle.xr_block.specs.TreeBlock.{Place, Site, records_in}
use Rattle.xr_change.proofs.BlockInTreeLemmas.{in_pool, leaf_changes, leaf_found, leaf_sought, leaf_free, leaf_counts, leaf_stands}
use Rattle.xr_change.proofs.SetLemmas.{removed_at}
use Rattle.xr_change.specs.Sets.{removed}
use Rattle.xr_block.specs.Edits.{sealed}
use Rattle.xr_block.specs.declared.bound.Bound.TheVariants.{Before}
use Rattle.xr_change.proofs.remove.remove_from_leaf.Goals as goal

pub block-requires : goal.block-requires
block-requires g c = in_pool g.R.Record.form c.args.draft.now 0 c.args.n c.requires.here

pub record_place-k-requires : goal.record_place-k-requires
record_place-k-requires g c =
    let sought = leaf_sought g.R.Record.form g.met.R.Record.is_form c.args.draft.now c.is_known.ensures c.args.n c.requires.here c.block.result.now c.block.ensures (Before c.args.r.now) in
    record { leaf = sought.0; parted = sought.1 }

pub block_mut-requires : goal.block_mut-requires
block_mut-requires g c = in_pool g.R.Record.form c.args.draft.now 0 c.args.n c.requires.here

pub remove_record-requires : goal.remove_record-requires
remove_record-requires g c =
    let place = leaf_found g.R.Record.form g.met.R.Record.is_form c.args.draft.now c.is_known.ensures c.args.n c.requires.here c.block.result.now c.block.ensures c.args.r.now c.record_place-k.result c.record_place-k.ensures in
    let form = g.R.Record.form in
    let laws = g.met.R.Record.is_form in
    let leaf = leaf_counts form laws c.args.draft.now c.is_known.ensures c.args.n c.requires.here c.block_mut.result.now c.block_mut.ensures.value in
    let stands = leaf_stands form laws c.args.draft.now c.is_known.ensures c.args.n c.requires.here c.args.r.now c.record_place-k.result place c.requires.held in
    record { place = omega (arith, leaf, stands.0); few = omega (arith, leaf, g.met.R.Record.numbers.same_leaf_max) }

pub returns : goal.returns
returns g c =
    let place = leaf_found g.R.Record.form g.met.R.Record.is_form c.args.draft.now c.is_known.ensures c.args.n c.requires.here c.block.result.now c.block.ensures c.args.r.now c.record_place-k.result c.record_place-k.ensures in
    let form = g.R.Record.form in
    let laws = g.met.R.Record.is_form in
    let k = c.record_place-k.result in
    let r = c.args.r.now in
    let held = records_in form (block_at c.args.draft.now c.args.n) in
    let stands = leaf_stands form laws c.args.draft.now c.is_known.ensures c.args.n c.requires.here r k place c.requires.held in
    let made = λ (site : Site) (place : Place). c.remove_record.ensures site place held in
    let free = leaf_free form laws c.args.draft.now c.is_known.ensures c.args.n c.requires.here _ (sealed form c.remove_record.new.block) c.block_mut.ensures.value (remove held k) made in
    record {
      changes = leaf_changes form laws c.args.draft.now c.is_known.ensures c.args.n c.requires.here _ (sealed form c.remove_record.new.block) c.block_mut.ensures.value (remove held k) made 1 (removed form.order r)
          (removed_at form.order r held k place stands.0 stands.1) (omega (arith, length-remove held k stands.0));
      free = omega (arith, free);
    }
