use Rattle.std.proofs.Common.{◌∙◌, ◌-◌, ap, length, arith}
use Rattle.xr_block.specs.TreeBlock.{zero_filled}
use Rattle.xr_block.specs.ItemByteLaws.{part_of_both}
use Rattle.xr_block.proofs.items.gather_items.Goals as goal

pub returns : goal.returns
returns c = c.put_both.ensures ∙ ap (zero_filled (length c.args.out.now))
    (part_of_both c.args.from c.args.to c.min.result c.min-2.result (c.max.result - length c.args.front.now) (c.max-2.result - length c.args.front.now)
    c.args.front.now c.args.after.now c.requires.order c.min.ensures c.min-2.ensures (omega (arith, c.max.ensures)) (omega (arith, c.max-2.ensures)))
