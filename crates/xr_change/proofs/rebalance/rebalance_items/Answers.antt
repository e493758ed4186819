use Rattle.std.proofs.Common.{◌∙◌, arith}
use Rattle.xr_change.proofs.ItemMoveLemmas.{copy_count, copy_sealed, rebalance_moved}
use Rattle.xr_change.proofs.rebalance.rebalance_items.Goals as goal

pub gather-requires : goal.gather-requires
gather-requires g c =
    let first = copy_count g.R.Record.form g.met.R.Record.is_form c.args.draft.now c.is_known.ensures c.args.level c.args.c _ c.copy_of-first.ensures c.requires.placed.0 in
    let second = copy_count g.R.Record.form g.met.R.Record.is_form c.args.draft.now c.is_known.ensures c.args.level c.args.d _ c.copy_of-second.ensures c.requires.placed.1 in
    record {
      here = c.requires.placed.0.below;
      level = c.requires.level;
      order = omega arith;
      within = omega (arith, first.0, second.0, c.requires.high);
      few = (first.1, second.1);
      room = omega (arith, c.requires.low.1);
    }

pub gather-requires-2 : goal.gather-requires-2
gather-requires-2 g c =
    let first = copy_count g.R.Record.form g.met.R.Record.is_form c.args.draft.now c.is_known.ensures c.args.level c.args.c _ c.copy_of-first.ensures c.requires.placed.0 in
    let second = copy_count g.R.Record.form g.met.R.Record.is_form c.args.draft.now c.is_known.ensures c.args.level c.args.d _ c.copy_of-second.ensures c.requires.placed.1 in
    let low = c.count_of.ensures.count ∙ first.0 in
    let high = c.count_of-2.ensures.count ∙ second.0 in
    record {
      here = omega (arith, c.requires.placed.1.below, c.gather.ensures.writes.same.pool);
      level = c.requires.level;
      order = omega (arith, low, high, c.requires.high);
      within = omega (arith, c.count_of.ensures.count, c.count_of-2.ensures.count);
      few = (first.1, second.1);
      room = omega (arith, low, high, c.requires.high_most);
    }

pub returns : goal.returns
returns g c =
    let known = c.is_known.ensures in
    let form = g.R.Record.form in
    let a = c.args.draft.now in
    let level = c.args.level in
    let first = c.copy_of-first.ensures in
    let second = c.copy_of-second.ensures in
    let first_sealed = copy_sealed form g.met.R.Record.is_form a known level c.args.c _ first c.requires.placed.0 in
    let second_sealed = copy_sealed form g.met.R.Record.is_form a known level c.args.d _ second c.requires.placed.1 in
    let low = c.siblings-left in
    let high = c.siblings-left-2 in
    let moved = rebalance_moved form g.met.R.Record.is_form a known level c.args.c c.args.d c.requires.placed.0 c.requires.placed.1 c.count_of.result c.count_of-2.result
    (c.count_of.ensures.count ∙ first.count) (c.count_of-2.ensures.count ∙ second.count) c.requires.apart c.requires.beside c.args.count
    c.gather.new.draft c.gather-2.new.draft c.gather.ensures.writes c.gather-2.ensures.writes c.requires.low.0 c.requires.high
    (rw (first_sealed, second_sealed, low.ensures.left ∙ first.left, low.ensures.right ∙ first.right) at c.gather.ensures.block)
    (rw (first_sealed, second_sealed, high.ensures.left ∙ second.left, high.ensures.right ∙ second.right) at c.gather-2.ensures.block) in
    record { rebalances = moved.0; count = moved.1 }
