use Rattle.std.proofs.Common.{refl, [], ◌∷◌}
use Rattle.std.proofs.lemmas.Result.{err_from_is_err_and}
use Rattle.xr_items.specs.Items.{item_bytes}
use Rattle.xr_commit.specs.LoggedItems.{logged_regions}
use Rattle.xr_log.specs.TransactionItems.{logged_of}
use Rattle.xr_log.specs.TransactionPushes.{region_after}
use Rattle.xr_log.proofs.TransactionPushLemmas.{regions_fail, regions_fills, regions_front, regions_rest, regions_then, regions_up}
use Rattle.xr_log.proofs.pushing.push_item.Goals as goal

pub push_format-requires-clause-space : goal.push_format-requires-clause-space
push_format-requires-clause-space g c =
    let l = logged_of c.args.blocks.now c.args.planned.now in
    regions_front c.args.held.now (item_bytes l.item ∷ []) (region_after l) (logged_regions l) refl c.requires.space

pub returns-in_err-push_format : goal.returns-in_err-push_format
returns-in_err-push_format g c =
    let l = logged_of c.args.blocks.now c.args.planned.now in
    let p = err_from_is_err_and c.from_residual.result c.from_residual.ensures.1 in
    rw (p.1, p.2) (regions_fail (g.D.Disk.view c.args.disk.now) (g.D.Disk.view c.push_format.new.disk) c.args.held.now c.push_format.new.held c.args.tid
    (item_bytes l.item ∷ []) (region_after l) (logged_regions l) c.in_err-push_format.field-0.0 refl c.in_err-push_format.ensures)

pub push_after-requires-clause-up : goal.push_after-requires-clause-up
push_after-requires-clause-up g c =
    regions_up (g.D.Disk.view c.args.disk.now) (g.D.Disk.view c.push_format.new.disk) c.args.held.now c.push_format.new.held c.args.tid
    (item_bytes c.args.planned.now.item ∷ []) c.in_ok-push_format.field-0 c.push_format.result c.in_ok-push_format.was c.push_format.ensures

pub push_after-requires-clause-space : goal.push_after-requires-clause-space
push_after-requires-clause-space g c =
    let l = logged_of c.args.blocks.now c.args.planned.now in
    regions_rest c.args.held.now c.push_format.new.held (item_bytes l.item ∷ []) (region_after l) (logged_regions l) refl
    (regions_fills (g.D.Disk.view c.args.disk.now) (g.D.Disk.view c.push_format.new.disk) c.args.held.now c.push_format.new.held c.args.tid
    (item_bytes l.item ∷ []) c.in_ok-push_format.field-0 c.push_format.result c.in_ok-push_format.was c.push_format.ensures) c.requires.space

pub returns : goal.returns
returns g c =
    let l = logged_of c.args.blocks.now c.args.planned.now in
    regions_then (g.D.Disk.view c.args.disk.now) (g.D.Disk.view c.push_format.new.disk) (g.D.Disk.view c.push_after.new.disk) c.args.held.now
    c.push_format.new.held c.push_after.new.held c.args.tid (item_bytes l.item ∷ []) (region_after l) (logged_regions l) c.in_ok-push_format.field-0
    c.push_format.result c.push_after.result c.in_ok-push_format.was refl c.push_format.ensures c.push_after.ensures
