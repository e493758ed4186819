use Rattle.xr_base.specs.Image.{block_of}
use Rattle.xr_headers.specs.FreshImage.{fresh_block_of}
use Rattle.xr_cmd.proofs.MkfsLemmas.{making_more}
use Rattle.xr_cmd.proofs.MkfsCrashLemmas.{first_kept}
use Rattle.xr_cmd.proofs.make_fresh.write_body.Goals as goal

pub loop-block-preserved : goal.loop-block-preserved
loop-block-preserved g c =
    making_more _ _ _ _ (g.D.Disk.view c.loop-block.disk) _ c.write_fresh.result c.loop-block-test.true c.loop-block.invariant
    c.in_ok-write_fresh.ensures.written c.in_ok-write_fresh.ensures.call.cause.uncounted c.write_fresh.ensures.call c.write_fresh.ensures.torn

pub returns-in_err-write_fresh-clause-first : goal.returns-in_err-write_fresh-clause-first
returns-in_err-write_fresh-clause-first g c = λ s rest.
    let view = g.D.Disk.view in
    let making = c.loop-block.invariant in
    first_kept (block_of s 0) c.loop-block.block (fresh_block_of c.args.uuid.now c.args.cycle c.loop-block.block) (view c.args.disk.now) (view c.loop-block.disk)
    (view c.write_fresh.new.disk) c.write_fresh.result making.later (making.first s rest) c.write_fresh.ensures.call c.write_fresh.ensures.torn
