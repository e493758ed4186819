use Rattle.std.proofs.Common.{arith}
use Rattle.xr_log.proofs.TableLemmas.{kept_apart, kept_fits}
use Rattle.xr_log.proofs.entering.enter_works.Goals as goal

pub place_works-requires-clause-few : goal.place_works-requires-clause-few
place_works-requires-clause-few c =
    let h = kept_fits c.args.table.now.items c.end_works.new.table.items c.done.result.now c.works.result.now c.args.trans.now c.requires.may c.end_works.ensures.table
    c.done.ensures.list c.works.ensures.list in
    omega (arith, h, c.end_works.new.table.ok.0)

pub returns-clause-apart : goal.returns-clause-apart
returns-clause-apart c = λ apart.
    c.place_works.ensures.apart (kept_apart c.done.result.now c.args.table.now.items c.end_works.new.table.items c.end_works.ensures.table apart)

pub returns-clause-few : goal.returns-clause-few
returns-clause-few c =
    let h = kept_fits c.args.table.now.items c.end_works.new.table.items c.done.result.now c.works.result.now c.args.trans.now c.requires.may c.end_works.ensures.table
    c.done.ensures.list c.works.ensures.list in
    omega (arith, h, c.end_works.new.table.ok.0, c.place_works.ensures.len)
