use Rattle.std.proofs.Common.{◌∙◌, ◌+◌, ◌-◌, ◌/◌, sym, arith}
use Rattle.xr_block.specs.Bounds.{entry_is_before}
use Rattle.xr_block.specs.NodeEntryLaws.{length-entries}
use Rattle.xr_block.specs.TreeBlock.{entries_in}
use Rattle.xr_block.proofs.SearchLemmas.{anywhere, lower_half, upper_half}
use Rattle.xr_block.proofs.search.child_place.Goals as goal

pub loop-low-init : goal.loop-low-init
loop-low-init g c =
    let form = g.R.Record.form in
    anywhere (entry_is_before form c.args.bound.now) (entries_in form c.args.block.now) c.count_of-high.result
    (c.count_of-high.ensures.count ∙ sym (length-entries form c.args.block.now))

pub loop-low-preserved-then-is_child_passed : goal.loop-low-preserved-then-is_child_passed
loop-low-preserved-then-is_child_passed g c =
    let form = g.R.Record.form in
    upper_half (entry_is_before form c.args.bound.now) (entries_in form c.args.block.now) c.requires.parted c.loop-low.low c.loop-low.high
    (c.loop-low.low + (c.loop-low.high - c.loop-low.low) / 2) (omega arith) (omega arith) c.loop-low.invariant c.if-is_child_passed.ensures

pub loop-low-preserved : goal.loop-low-preserved
loop-low-preserved g c =
    let form = g.R.Record.form in
    lower_half (entry_is_before form c.args.bound.now) (entries_in form c.args.block.now) c.requires.parted c.loop-low.low c.loop-low.high
    (c.loop-low.low + (c.loop-low.high - c.loop-low.low) / 2) (omega arith) (omega arith) c.loop-low.invariant c.if-is_child_passed.ensures

pub is_child_passed-requires-clause-within : goal.is_child_passed-requires-clause-within
is_child_passed-requires-clause-within g c =
    let all = length-entries g.R.Record.form c.args.block.now in
    let within = c.loop-low.invariant.within in
    omega arith
