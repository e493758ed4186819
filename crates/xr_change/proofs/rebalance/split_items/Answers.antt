use Rattle.std.proofs.Common.{Option, ◌∙◌, subst, arith}
use Rattle.std.specs.Option.{option_to_list}
use Rattle.xr_change.proofs.ItemMoveLemmas.{copy_count, copy_sealed, split_moved}
use Rattle.xr_change.specs.Writes.{Writes}
use Rattle.xr_change.proofs.rebalance.split_items.Goals as goal

pub gather-requires : goal.gather-requires
gather-requires g c =
    let size = copy_count g.R.Record.form g.met.R.Record.is_form c.args.draft.now c.is_known.ensures c.args.level c.args.c _ c.copy_of-block.ensures c.requires.placed in
    record {
      here = c.requires.placed.below;
      level = c.requires.level;
      order = omega arith;
      within = omega (arith, c.count_of-count.ensures.count);
      few = (size.1, size.1);
      room = omega (arith, size.1, c.count_of-count.ensures.count);
    }

pub gather-requires-2 : goal.gather-requires-2
gather-requires-2 g c =
    let size = copy_count g.R.Record.form g.met.R.Record.is_form c.args.draft.now c.is_known.ensures c.args.level c.args.c _ c.copy_of-block.ensures c.requires.placed in
    record {
      here = omega (arith, c.requires.within, c.gather.ensures.writes.same.pool);
      level = c.requires.level;
      order = omega arith;
      within = omega (arith, c.count_of-count.ensures.count);
      few = (size.1, size.1);
      room = omega (arith, size.1, c.count_of-count.ensures.count);
    }

pub returns : goal.returns
returns g c =
    let known = c.is_known.ensures in
    let form = g.R.Record.form in
    let a = c.args.draft.now in
    let level = c.args.level in
    let reads = c.copy_of-block.ensures in
    let same = copy_sealed form g.met.R.Record.is_form a known level c.args.c _ reads c.requires.placed in
    let count = c.count_of-count.result in
    let sides = c.siblings-left in
    let left = sides.ensures.left ∙ reads.left in
    let right = sides.ensures.right ∙ reads.right in
    split_moved form g.met.R.Record.is_form a known level c.args.c c.args.m c.requires.placed c.requires.full c.requires.apart c.requires.beside
    c.gather.new.draft c.gather-2.new.draft c.set_left_sibling.new.draft count (c.count_of-count.ensures.count ∙ reads.count)
    c.gather.ensures.writes c.gather-2.ensures.writes
    (subst (λ (next : Option _). Writes c.gather-2.new.draft c.set_left_sibling.new.draft (option_to_list next)) right c.set_left_sibling.ensures.writes)
    (rw (same, left) at c.gather.ensures.block) (rw (same, right) at c.gather-2.ensures.block) (λ q old is. c.set_left_sibling.ensures.relinked q old (right ∙ is))
