use Rattle.std.proofs.Common.{inl, inr, replicate}
use Rattle.xr_base.specs.Image.{overlaid}
use Rattle.xr_base.specs.declared.geometry.TheConstants.{BLOCK_BYTES}
use Rattle.xr_disk.specs.Runs.{and_then, leaves_more}
use Rattle.xr_cmd.proofs.MkfsLemmas.{made_at_rest, seen_is_long}
use Rattle.xr_cmd.proofs.MkfsCrashLemmas.{zeros_no_super}
use Rattle.xr_cmd.proofs.make_fresh.mkfs.Goals as goal

pub returns-in_err-clear_super-clause-crash : goal.returns-in_err-clear_super-clause-crash
returns-in_err-clear_super-clause-crash g c = λ s seen. leaves_more (c.clear_super.ensures.crash s seen) (λ left keeps. inr (inl keeps))

pub returns-in_err-fill-clause-crash : goal.returns-in_err-fill-clause-crash
returns-in_err-fill-clause-crash g c = λ s seen.
    let long = seen_is_long (g.D.Disk.view c.args.disk.now) s (g.met.D.Disk.seen_may_stay c.args.disk.now) (g.met.D.Disk.sized c.args.disk.now) seen in
    and_then (leaves_more (c.clear_super.ensures.crash s seen) (λ left keeps. inr (inl keeps)))
    (leaves_more (c.fill.ensures.crash _ (c.in_ok-clear_super.ensures.cleared s seen)) (λ left same. inl (zeros_no_super left.image s long same)))

pub returns-clause-crash : goal.returns-clause-crash
returns-clause-crash g c = λ s seen.
    let long = seen_is_long (g.D.Disk.view c.args.disk.now) s (g.met.D.Disk.seen_may_stay c.args.disk.now) (g.met.D.Disk.sized c.args.disk.now) seen in
    let cleared = c.in_ok-clear_super.ensures.cleared s seen in
    and_then (and_then (leaves_more (c.clear_super.ensures.crash s seen) (λ left keeps. inr (inl keeps)))
    (leaves_more (c.fill.ensures.crash _ cleared) (λ left same. inl (zeros_no_super left.image s long same))))
    (leaves_more (c.set_super.ensures.crash (c.in_ok-fill.ensures.filled _ cleared)) (λ left body. inr (inr body)))

pub returns-clause-made : goal.returns-clause-made
returns-clause-made g c =
    let view = g.D.Disk.view in
    made_at_rest c.args.uuid.now c.args.cycle (view c.args.disk.now) (view c.clear_super.new.disk) (view c.fill.new.disk) (view c.set_super.new.disk)
    (overlaid 0 (replicate BLOCK_BYTES 0)) c.set_super.result c.in_ok-clear_super.ensures.cleared c.in_ok-fill.ensures.filled c.set_super.ensures.made
