use Rattle.std.proofs.Common.{◌∙◌, ◌-◌, ◌+◌, ◌≡◌, arith, length}
use Rattle.xr_block.specs.KeyLaws.{greatest_last, greatest_more}
use Rattle.xr_block.specs.NodeEntryLaws.{length-entries}
use Rattle.xr_block.specs.TreeBlock.{entries_in}
use Rattle.xr_block.specs.NodeEntries.{high_part}
use Rattle.xr_block.proofs.key.greatest_high.Goals as goal

pub loop-k-init : goal.loop-k-init
loop-k-init g c =
    let form = g.R.Record.form in
    let entries = entries_in form c.args.block.now in
    let k = c.count_of-k.result - 1 in
    let long : length entries ≡ k + 1 = omega (arith, length-entries form c.args.block.now, c.count_of-k.ensures.count, c.requires.some) in
    (omega (arith, c.count_of-k.ensures.count, c.requires.some), greatest_last (high_part form) entries k c.high_at-best.result.now long c.high_at-best.ensures)

pub loop-k-preserved : goal.loop-k-preserved
loop-k-preserved g c =
    let form = g.R.Record.form in
    let before = c.loop-k.invariant in
    let k = c.loop-k.k in (
      omega (arith, before.0),
      c.greater-best.ensures ∙ greatest_more (high_part form) (entries_in form c.args.block.now) k (k - 1) c.high_at.result.now c.loop-k.best.now
          (omega (arith, c.loop-k-test.true)) (omega (arith, length-entries form c.args.block.now, before.0)) c.high_at.ensures before.1,
    )
