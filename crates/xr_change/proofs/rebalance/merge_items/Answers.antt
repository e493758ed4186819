use Rattle.std.proofs.Common.{Option, ◌∙◌, subst, arith}
use Rattle.std.specs.Option.{option_to_list}
use Rattle.xr_change.proofs.ItemMoveLemmas.{copy_count, copy_sealed, merge_moved}
use Rattle.xr_change.specs.Writes.{Writes}
use Rattle.xr_change.proofs.rebalance.merge_items.Goals as goal

pub gather-requires : goal.gather-requires
gather-requires g c =
    let first = copy_count g.R.Record.form g.met.R.Record.is_form c.args.draft.now c.is_known.ensures c.args.level c.args.c _ c.copy_of-first.ensures c.requires.placed.0 in
    let second = copy_count g.R.Record.form g.met.R.Record.is_form c.args.draft.now c.is_known.ensures c.args.level c.args.d _ c.copy_of-second.ensures c.requires.placed.1 in
    record {
      here = c.requires.placed.0.below;
      level = c.requires.level;
      order = omega arith;
      within = omega (arith, c.count_of.ensures.count, c.count_of-2.ensures.count);
      few = (first.1, second.1);
      room = omega (arith, first.0, second.0, c.requires.fits, c.count_of.ensures.count, c.count_of-2.ensures.count);
    }

pub returns : goal.returns
returns g c =
    let known = c.is_known.ensures in
    let form = g.R.Record.form in
    let a = c.args.draft.now in
    let level = c.args.level in
    let first = c.copy_of-first.ensures in
    let second = c.copy_of-second.ensures in
    let first_sealed = copy_sealed form g.met.R.Record.is_form a known level c.args.c _ first c.requires.placed.0 in
    let second_sealed = copy_sealed form g.met.R.Record.is_form a known level c.args.d _ second c.requires.placed.1 in
    let left = c.siblings-left.ensures.left ∙ first.left in
    let right = c.siblings-right.ensures.right ∙ second.right in
    merge_moved form g.met.R.Record.is_form a known level c.args.c c.args.d c.requires.placed.0 c.requires.placed.1 c.count_of.result c.count_of-2.result
    (c.count_of.ensures.count ∙ first.count) (c.count_of-2.ensures.count ∙ second.count)
    c.requires.beside c.gather.new.draft c.set_left_sibling.new.draft c.gather.ensures.writes
    (subst (λ (next : Option _). Writes c.gather.new.draft c.set_left_sibling.new.draft (option_to_list next)) right c.set_left_sibling.ensures.writes)
    (rw (first_sealed, second_sealed, left, right) at c.gather.ensures.block) (λ q old is. c.set_left_sibling.ensures.relinked q old (right ∙ is))
