use Rattle.xr_disk.specs.Runs.{leaves_more}
use Rattle.xr_headers.specs.FreshImage.{fresh_block_of}
use Rattle.xr_headers.specs.FreshImageLaws.{length-fresh_block_of}
use Rattle.xr_cmd.specs.Mkfs.{HasFreshBody}
use Rattle.xr_cmd.proofs.MkfsLemmas.{settles_whole}
use Rattle.xr_cmd.proofs.MkfsCrashLemmas.{body_kept, one_call, sync_keeps}
use Rattle.xr_cmd.proofs.make_fresh.set_super.Goals as goal

pub returns-in_err-write_fresh-clause-crash : goal.returns-in_err-write_fresh-clause-crash
returns-in_err-write_fresh-clause-crash g c = λ rests.
    let uuid = c.args.uuid.now in
    leaves_more c.write_fresh.ensures.call.time
    (body_kept uuid c.args.cycle (fresh_block_of uuid c.args.cycle 0) (g.D.Disk.view c.args.disk.now) (g.D.Disk.view c.write_fresh.new.disk)
    (length-fresh_block_of uuid c.args.cycle 0) rests c.write_fresh.ensures.torn)

pub returns-clause-made : goal.returns-clause-made
returns-clause-made g c =
    let view = g.D.Disk.view in
    settles_whole c.args.uuid.now c.args.cycle (view c.args.disk.now) (view c.write_fresh.new.disk) (view c.sync.new.self) c.sync.result
    c.in_ok-write_fresh.ensures.written c.sync.ensures.durable

pub returns-clause-crash : goal.returns-clause-crash
returns-clause-crash g c = λ rests.
    let view = g.D.Disk.view in
    let uuid = c.args.uuid.now in
    let mid = view c.write_fresh.new.disk in
    let torn = body_kept uuid c.args.cycle (fresh_block_of uuid c.args.cycle 0) (view c.args.disk.now) mid (length-fresh_block_of uuid c.args.cycle 0) rests
    c.write_fresh.ensures.torn in
    one_call (leaves_more c.write_fresh.ensures.call.time torn) c.sync.ensures.call
    (sync_keeps (HasFreshBody uuid c.args.cycle) mid (view c.sync.new.self) _ c.sync.result torn c.sync.ensures.durable c.sync.ensures.failed
    (c.in_ok-write_fresh.ensures.written rests.image rests.rest.seen) (g.met.D.Disk.seen_may_stay c.write_fresh.new.disk))
