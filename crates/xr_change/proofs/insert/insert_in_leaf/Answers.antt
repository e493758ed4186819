use Rattle.std.proofs.Common.{arith, insert}
use Rattle.std.proofs.lemmas.List.Edits.{length-insert}
use Rattle.xr_pool.specs.Overlay.{block_at}
use Rattle.xr_block.specs.TreeBlock.{Place, Site, records_in}
use Rattle.xr_change.proofs.BlockInTreeLemmas.{in_pool, leaf_changes, leaf_found, leaf_sought, leaf_free, leaf_long, leaf_counts}
use Rattle.xr_change.proofs.SetLemmas.{inserted_at}
use Rattle.xr_change.specs.Sets.{inserted}
use Rattle.xr_block.specs.Edits.{sealed}
use Rattle.xr_block.specs.declared.bound.Bound.TheVariants.{Before}
use Rattle.xr_change.proofs.insert.insert_in_leaf.Goals as goal

pub block-requires : goal.block-requires
block-requires g c = in_pool g.R.Record.form c.args.draft.now 0 c.args.n c.requires.here

pub record_place-k-requires : goal.record_place-k-requires
record_place-k-requires g c =
    let sought = leaf_sought g.R.Record.form g.met.R.Record.is_form c.args.draft.now c.is_known.ensures c.args.n c.requires.here c.block.result.now c.block.ensures (Before c.args.r.now) in
    record { leaf = sought.0; parted = sought.1 }

pub block_mut-requires : goal.block_mut-requires
block_mut-requires g c = in_pool g.R.Record.form c.args.draft.now 0 c.args.n c.requires.here

pub insert_record-requires : goal.insert_record-requires
insert_record-requires g c =
    let place = leaf_found g.R.Record.form g.met.R.Record.is_form c.args.draft.now c.is_known.ensures c.args.n c.requires.here c.block.result.now c.block.ensures c.args.r.now c.record_place-k.result c.record_place-k.ensures in
    let leaf = leaf_counts g.R.Record.form g.met.R.Record.is_form c.args.draft.now c.is_known.ensures c.args.n c.requires.here c.block_mut.result.now c.block_mut.ensures.value in
    record { place = omega (arith, leaf, place.within); room = omega (arith, leaf, c.requires.room, g.met.R.Record.numbers.same_leaf_max); valid = c.requires.valid }

pub returns : goal.returns
returns g c =
    let place = leaf_found g.R.Record.form g.met.R.Record.is_form c.args.draft.now c.is_known.ensures c.args.n c.requires.here c.block.result.now c.block.ensures c.args.r.now c.record_place-k.result c.record_place-k.ensures in
    let form = g.R.Record.form in
    let laws = g.met.R.Record.is_form in
    let k = c.record_place-k.result in
    let r = c.args.r.now in
    let held = records_in form (block_at c.args.draft.now c.args.n) in
    let long = length-insert held k r place.within in
    let made = λ (site : Site) (place : Place). c.insert_record.ensures site place held in
    let now = leaf_long form laws c.args.draft.now c.is_known.ensures c.args.n c.requires.here _ (sealed form c.insert_record.new.block) c.block_mut.ensures.value (insert held k r) made in
    let free = leaf_free form laws c.args.draft.now c.is_known.ensures c.args.n c.requires.here _ (sealed form c.insert_record.new.block) c.block_mut.ensures.value (insert held k r) made in
    record {
      changes = leaf_changes form laws c.args.draft.now c.is_known.ensures c.args.n c.requires.here _ (sealed form c.insert_record.new.block) c.block_mut.ensures.value (insert held k r) made 0 (inserted form.order r)
          (inserted_at form.order r held k place) (omega (arith, long));
      grown = omega (arith, now, long);
      free = omega (arith, free);
    }
