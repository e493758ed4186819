use Rattle.std.proofs.Common.{◌∙◌, ◌+◌, ◌-◌, ◌/◌, sym, arith}
use Rattle.xr_block.specs.Bounds.{is_before}
use Rattle.xr_block.specs.TreeBlock.{records_in}
use Rattle.xr_block.proofs.SearchLemmas.{anywhere, lower_half, upper_half}
use Rattle.xr_block.proofs.search.record_place.Goals as goal

pub loop-low-init : goal.loop-low-init
loop-low-init g c =
    let form = g.R.Record.form in
    anywhere (is_before form c.args.bound.now) (records_in form c.args.block.now) c.count_of-high.result
    (c.count_of-high.ensures.count ∙ sym c.requires.leaf.counted)

pub loop-low-preserved-then-is_record_passed : goal.loop-low-preserved-then-is_record_passed
loop-low-preserved-then-is_record_passed g c =
    let form = g.R.Record.form in
    upper_half (is_before form c.args.bound.now) (records_in form c.args.block.now) c.requires.parted c.loop-low.low c.loop-low.high
    (c.loop-low.low + (c.loop-low.high - c.loop-low.low) / 2) (omega arith) (omega arith) c.loop-low.invariant c.if-is_record_passed.ensures

pub loop-low-preserved : goal.loop-low-preserved
loop-low-preserved g c =
    let form = g.R.Record.form in
    lower_half (is_before form c.args.bound.now) (records_in form c.args.block.now) c.requires.parted c.loop-low.low c.loop-low.high
    (c.loop-low.low + (c.loop-low.high - c.loop-low.low) / 2) (omega arith) (omega arith) c.loop-low.invariant c.if-is_record_passed.ensures
