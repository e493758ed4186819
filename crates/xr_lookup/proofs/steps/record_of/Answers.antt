use Rattle.std.proofs.Common.{◌∙◌, ◌*◌, ◌+◌, ℕ, List, ap, arith}
use Rattle.xr_base.specs.Image.{part}
use Rattle.xr_kinds.specs.Form.{header_size}
use Rattle.xr_pool.specs.Overlay.{block_at}
use Rattle.xr_block.specs.DescentLaws.{in_pool, leaf_is}
use Rattle.xr_block.specs.LeafLaws.{record_read}
use Rattle.xr_lookup.proofs.steps.record_of.Goals as goal

pub block-requires : goal.block-requires
block-requires g c = in_pool g.R.Record.form c.args.over.now 0 c.args.n c.requires.leaf

pub record_at-requires : goal.record_at-requires
record_at-requires g c =
    let leaf = leaf_is g.R.Record.form g.met.R.Record.is_form c.args.over.now c.args.n c.requires.leaf in
    omega (arith, leaf.counted, leaf.few, g.met.R.Record.numbers.same_leaf_max, c.requires.within)

pub returns : goal.returns
returns g c =
    let form = g.R.Record.form in
    let leaf = leaf_is form g.met.R.Record.is_form c.args.over.now c.args.n c.requires.leaf in
    c.record_at.ensures
    ∙ ap (λ (bytes : List ℕ). form.taken (part (header_size form + form.size * c.args.k) form.size bytes)) c.block.ensures
    ∙ record_read form (block_at c.args.over.now c.args.n) c.args.k leaf (omega (arith, leaf.counted, c.requires.within))
