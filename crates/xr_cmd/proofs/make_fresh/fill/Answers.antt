use Rattle.std.proofs.Common.{◌≡◌, ℕ, List}
use Rattle.xr_base.specs.Image.{block_of}
use Rattle.xr_cmd.proofs.MkfsLemmas.{seen_is_long}
use Rattle.xr_cmd.proofs.MkfsCrashLemmas.{one_call, settles_body, sync_keeps}
use Rattle.xr_cmd.proofs.make_fresh.fill.Goals as goal

pub returns-clause-filled : goal.returns-clause-filled
returns-clause-filled g c =
    let view = g.D.Disk.view in
    settles_body c.args.uuid.now c.args.cycle (view c.args.disk.now) (view c.write_body.new.disk) (view c.sync.new.self) c.sync.result
    (λ s seen. seen_is_long (view c.args.disk.now) s (g.met.D.Disk.seen_may_stay c.args.disk.now) (g.met.D.Disk.sized c.args.disk.now) seen)
    c.in_ok-write_body.ensures.written c.sync.ensures.durable

pub returns-clause-crash : goal.returns-clause-crash
returns-clause-crash g c = λ s rest.
    let view = g.D.Disk.view in
    let long = seen_is_long (view c.args.disk.now) s (g.met.D.Disk.seen_may_stay c.args.disk.now) (g.met.D.Disk.sized c.args.disk.now) rest.seen in
    let body = c.in_ok-write_body.ensures.written s rest.seen long in
    let runs = c.write_body.ensures.first s rest in
    one_call runs.so_far c.sync.ensures.call
    (sync_keeps (λ (image : List ℕ). block_of image 0 ≡ block_of s 0) (view c.write_body.new.disk) (view c.sync.new.self) body.0 c.sync.result runs.now
    c.sync.ensures.durable c.sync.ensures.failed body.1 (g.met.D.Disk.seen_may_stay c.write_body.new.disk))

pub returns-in_err-write_body-clause-crash : goal.returns-in_err-write_body-clause-crash
returns-in_err-write_body-clause-crash g c = λ s rest. let runs = c.write_body.ensures.first s rest in runs.so_far
