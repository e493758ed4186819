use Rattle.std.proofs.Common.{◌+◌, List, sym, subst, arith}
use Rattle.xr_pool.specs.Overlay.{block_at}
use Rattle.xr_block.specs.TreeBlock.{Entry, entries_in}
use Rattle.xr_change.proofs.BlockInTreeLemmas.{in_pool, is_under, node_in, node_items}
use Rattle.xr_change.proofs.FullPathLemmas.{passing_is, path_at}
use Rattle.xr_change.proofs.ReadLemmas.{read_entries}
use Rattle.xr_block.specs.DescentLaws.{node_few, node_parted}
use Rattle.xr_block.specs.Bounds.{IsParted, IsPlaceOf, entry_is_before}
use Rattle.xr_block.specs.declared.bound.Bound.TheVariants.{After}
use Rattle.xr_change.proofs.path.path_index.Goals as goal

pub block-requires : goal.block-requires
block-requires g c = in_pool g.R.Record.form c.args.draft.now (c.args.level + 1) c.args.n c.requires.here

pub child_place-requires-clause-few : goal.child_place-requires-clause-few
child_place-requires-clause-few g c =
    let form = g.R.Record.form in
    let few = node_few form g.met.R.Record.is_form c.args.draft.now (c.args.level + 1) c.args.level c.args.n (omega arith)
    (is_under form c.args.draft.now (c.args.level + 1) c.args.n c.requires.here) in
    omega (arith, few, c.block.ensures.count)

pub child_place-requires-clause-parted : goal.child_place-requires-clause-parted
child_place-requires-clause-parted g c =
    let form = g.R.Record.form in
    let over = c.args.draft.now in
    subst (IsParted (entry_is_before form (After c.args.r.now))) (sym (read_entries form c.block.result.now (block_at over c.args.n) c.block.ensures))
    (node_parted form g.met.R.Record.is_form over (c.args.level + 1) c.args.level c.args.n (omega arith)
    (is_under form over (c.args.level + 1) c.args.n c.requires.here) (After c.args.r.now))

pub returns : goal.returns
returns g c =
    let form = g.R.Record.form in
    let over = c.args.draft.now in
    let test = entry_is_before form (After c.args.r.now) in
    let place = subst (λ (es : List Entry). IsPlaceOf test es c.child_place.result)
    (read_entries form c.block.result.now (block_at over c.args.n) c.block.ensures) c.child_place.ensures in
    record {
      path = path_at form g.met.R.Record.is_form over c.args.level c.args.n (node_in form over c.args.level c.args.n c.requires.here) c.args.r.now c.child_place.result
          c.saturating_sub.result place c.saturating_sub.ensures (omega (arith, c.requires.some, node_items form over c.args.level c.args.n));
      place = omega (arith, passing_is test (entries_in form (block_at over c.args.n)) c.child_place.result place, c.saturating_sub.ensures);
    }
