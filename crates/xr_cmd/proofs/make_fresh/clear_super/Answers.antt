use Rattle.std.proofs.Common.{replicate, refl}
use Rattle.xr_base.specs.Image.{overlaid}
use Rattle.xr_base.specs.declared.geometry.TheConstants.{BLOCK_BYTES}
use Rattle.xr_disk.specs.Runs.{leaves_more}
use Rattle.xr_cmd.specs.Mkfs.{KeepsBody}
use Rattle.xr_cmd.proofs.MkfsCrashLemmas.{one_call, settles, sync_keeps, torn_keeps}
use Rattle.xr_cmd.proofs.make_fresh.clear_super.Goals as goal

pub returns-clause-cleared : goal.returns-clause-cleared
returns-clause-cleared g c =
    let view = g.D.Disk.view in
    settles (overlaid 0 (replicate BLOCK_BYTES 0)) (view c.args.disk.now) (view c.write_block.new.disk) (view c.sync.new.self) c.sync.result
    c.in_ok-write_block.ensures.written c.sync.ensures.durable

pub returns-clause-crash : goal.returns-clause-crash
returns-clause-crash g c = λ s seen.
    let view = g.D.Disk.view in
    let start = view c.args.disk.now in
    let mid = view c.write_block.new.disk in
    let torn = torn_keeps (replicate BLOCK_BYTES 0) start mid refl c.write_block.ensures.torn in
    one_call (leaves_more c.write_block.ensures.call.time torn) c.sync.ensures.call
    (sync_keeps (KeepsBody start) mid (view c.sync.new.self) _ c.sync.result torn c.sync.ensures.durable c.sync.ensures.failed
    (c.in_ok-write_block.ensures.written s seen) (g.met.D.Disk.seen_may_stay c.write_block.new.disk))
