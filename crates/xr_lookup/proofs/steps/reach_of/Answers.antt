use Rattle.std.proofs.Common.{◌+◌, ◌<◌, ◌≤◌, ℕ, List, sym, subst, arith}
use Rattle.xr_block.specs.NodeEntries.{high_key_in, low_key_from, low_key_in}
use Rattle.xr_block.specs.NodeEntryLaws.{length-entries}
use Rattle.xr_pool.specs.Overlay.{block_at}
use Rattle.xr_lookup.specs.Reach.{IsInside, IsUnderKeys}
use Rattle.xr_block.specs.TreeBlock.{count_in}
use Rattle.xr_block.specs.DescentLaws.{in_pool, node_few}
use Rattle.xr_lookup.proofs.DescentLemmas.{keys_tell}
use Rattle.xr_lookup.proofs.steps.reach_of.Goals as goal

pub block-requires : goal.block-requires
block-requires g c = in_pool g.R.Record.form c.args.over.now (c.args.level + 1) c.args.n c.requires.node

pub reach_at-requires-clause-few : goal.reach_at-requires-clause-few
reach_at-requires-clause-few g c =
    let form = g.R.Record.form in
    subst (λ (bytes : List ℕ). count_in bytes ≤ form.node_max) (sym c.block.ensures)
    (node_few form g.met.R.Record.is_form c.args.over.now (c.args.level + 1) c.args.level c.args.n (omega arith) c.requires.node)

pub reach_at-requires-clause-within : goal.reach_at-requires-clause-within
reach_at-requires-clause-within g c =
    subst (λ (bytes : List ℕ). c.args.k < count_in bytes) (sym c.block.ensures)
    (omega (arith, c.requires.within, length-entries g.R.Record.form (block_at c.args.over.now c.args.n)))

pub returns : goal.returns
returns g c = λ d m x inside.
    let form = g.R.Record.form in
    (subst (λ (bytes : List ℕ). (y : g.row.R.Denot) → IsUnderKeys form (low_key_in form c.args.k bytes) (high_key_in form c.args.k bytes) (low_key_from form (c.args.k + 1) bytes) y
    → IsInside (g.R.Reach.span_of y) c.reach_at.result) c.block.ensures c.reach_at.ensures) _
    (keys_tell form g.met.R.Record.is_form c.args.over.now (c.args.level + 1) c.args.level c.args.n (omega arith) c.requires.node c.args.k d c.requires.within m x inside)
