use Rattle.std.proofs.Common.{arith, ◌∙◌, length-set}
use Rattle.xr_log.proofs.SlotLemmas.{apart_more, entries_go_on}
use Rattle.xr_log.proofs.slots.place_works.Goals as goal

pub loop-i-preserved : goal.loop-i-preserved
loop-i-preserved c =
    let i = c.loop-i.invariant in
    let t = c.loop-i-test.true in
    let most = c.requires.most in
    let long = i.4 in
    let len = c.place_work.ensures.len in
    let so_far = i.2 in
    let fits = c.place_work.ensures.fits in
    let fitted = i.3 in (
      entries_go_on c.args.table.now.items c.loop-i.table.items c.place_work.new.table.items c.args.next c.loop-i.slots c.args.works.now c.loop-i.i c.place_work.result _
          (omega (arith, t, most, long)) t i.0 c.place_work.ensures.table,
      λ apart. apart_more c.loop-i.table.items c.place_work.new.table.items _ c.place_work.result _ c.place_work.ensures.free c.place_work.ensures.table (i.1 apart),
      omega (arith, len, so_far),
      omega (arith, fits, fitted),
      length-set c.loop-i.slots c.loop-i.i c.place_work.result ∙ long,
    )
