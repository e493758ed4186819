use Rattle.std.proofs.Common.{[], refl}
use Rattle.std.specs.List.{flat_map}
use Rattle.std.proofs.lemmas.Result.{err_from_is_err_and}
use Rattle.xr_record.specs.Rules.{AtRegion}
use Rattle.xr_commit.specs.LoggedItems.{logged_regions}
use Rattle.xr_log.specs.Filling.{fill_of, filled_regions, filled_whole}
use Rattle.xr_log.specs.TransactionItems.{logged_in}
use Rattle.xr_log.proofs.FillLemmas.{whole_filling}
use Rattle.xr_log.proofs.TransactionPushLemmas.{before_items, ends_with, for_items, front_less_all, space_then, transaction_fails, with_items}
use Rattle.xr_log.proofs.pushing.push_transaction.Goals as goal

pub push_front_of-requires-clause-space : goal.push_front_of-requires-clause-space
push_front_of-requires-clause-space g c =
    before_items c.args.held.now (flat_map logged_regions (logged_in c.args.blocks.now c.args.plan.now)) (filled_whole 16 (filled_whole 0 (fill_of c.args.held.now)))
    c.requires.space

pub returns-in_err-push_front_of : goal.returns-in_err-push_front_of
returns-in_err-push_front_of g c =
    let p = err_from_is_err_and c.from_residual.result c.from_residual.ensures.1 in
    let logged = logged_in c.args.blocks.now c.args.plan.now in
    let front = filled_whole 16 (filled_whole 0 (fill_of c.args.held.now)) in
    rw (p.1, p.2) record {
      pushes = (transaction_fails (g.D.Disk.view c.args.disk.now) (g.D.Disk.view c.push_front_of.new.disk) c.args.held.now c.push_front_of.new.held
          (AtRegion c.args.tid c.regions_in.result []) front logged c.in_err-push_front_of.field-0.0 (front_less_all (flat_map logged_regions logged) front)
          c.in_err-push_front_of.ensures);
    }

pub push_items-requires-clause-space : goal.push_items-requires-clause-space
push_items-requires-clause-space g c =
    let front = filled_whole 16 (filled_whole 0 (fill_of c.args.held.now)) in
    for_items c.args.held.now c.push_front_of.new.held (flat_map logged_regions (logged_in c.args.blocks.now c.args.plan.now)) front
    c.in_ok-push_front_of.ensures.fills c.requires.space

pub returns-in_err-push_items : goal.returns-in_err-push_items
returns-in_err-push_items g c =
    let p = err_from_is_err_and c.from_residual-in_err-push_items.result c.from_residual-in_err-push_items.ensures.1 in
    let logged = logged_in c.args.blocks.now c.args.plan.now in
    let regions = flat_map logged_regions logged in
    let front = filled_whole 16 (filled_whole 0 (fill_of c.args.held.now)) in
    rw (p.1, p.2) record {
      pushes = (transaction_fails (g.D.Disk.view c.args.disk.now) (g.D.Disk.view c.push_items.new.disk) c.args.held.now c.push_items.new.held
          (AtRegion c.args.tid c.regions_in.result regions) (filled_regions regions front) logged c.in_err-push_items.field-0.0
          ((whole_filling 0).rises (filled_regions regions front))
          (with_items (g.D.Disk.view c.args.disk.now) (g.D.Disk.view c.push_front_of.new.disk) (g.D.Disk.view c.push_items.new.disk) c.args.held.now
          c.push_front_of.new.held c.push_items.new.held c.args.tid c.regions_in.result regions front c.in_ok-push_front_of.field-0 c.push_front_of.result _
          c.in_ok-push_front_of.was c.push_front_of.ensures c.in_err-push_items.ensures));
    }

pub push_commit-requires-clause-up : goal.push_commit-requires-clause-up
push_commit-requires-clause-up g c = (c.in_ok-push_items.ensures 0 []).step.up

pub push_commit-requires-clause-space : goal.push_commit-requires-clause-space
push_commit-requires-clause-space g c =
    let regions = flat_map logged_regions (logged_in c.args.blocks.now c.args.plan.now) in
    let front = filled_whole 16 (filled_whole 0 (fill_of c.args.held.now)) in
    space_then (filled_whole 0) (whole_filling 0) c.args.held.now c.push_items.new.held (filled_regions regions front)
    (with_items (g.D.Disk.view c.args.disk.now) (g.D.Disk.view c.push_front_of.new.disk) (g.D.Disk.view c.push_items.new.disk) c.args.held.now
    c.push_front_of.new.held c.push_items.new.held c.args.tid c.regions_in.result regions front c.in_ok-push_front_of.field-0 c.push_front_of.result _
    c.in_ok-push_front_of.was c.push_front_of.ensures c.in_ok-push_items.ensures).fills c.requires.space

pub returns : goal.returns
returns g c =
    let logged = logged_in c.args.blocks.now c.args.plan.now in
    let regions = flat_map logged_regions logged in
    let front = filled_whole 16 (filled_whole 0 (fill_of c.args.held.now)) in
    record {
      pushes = ends_with (g.D.Disk.view c.args.disk.now) (g.D.Disk.view c.push_items.new.disk) (g.D.Disk.view c.push_commit.new.disk) c.args.held.now c.push_items.new.held
          c.push_commit.new.held c.args.tid c.regions_in.result logged (filled_regions regions front) c.in_ok-push_items.field-0 c.push_items.result c.push_commit.result
          c.in_ok-push_items.was
          (with_items (g.D.Disk.view c.args.disk.now) (g.D.Disk.view c.push_front_of.new.disk) (g.D.Disk.view c.push_items.new.disk) c.args.held.now
          c.push_front_of.new.held c.push_items.new.held c.args.tid c.regions_in.result regions front c.in_ok-push_front_of.field-0 c.push_front_of.result
          c.push_items.result c.in_ok-push_front_of.was c.push_front_of.ensures c.push_items.ensures)
          refl (c.regions_in.ensures c.args.blocks.now) c.requires.whole c.push_commit.ensures.runs c.push_commit.ensures.kept c.push_commit.ensures.fills
          c.push_commit.ensures.some c.push_commit.ensures.limit c.push_commit.ensures.step;
    }
