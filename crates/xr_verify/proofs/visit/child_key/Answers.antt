use Rattle.std.proofs.Common.{◌∙◌, ap, length, arith}
use Rattle.xr_block.specs.KeyLaws.{length-key}
use Rattle.xr_verify.proofs.visit.child_key.Goals as goal

pub returns-clause-long : goal.returns-clause-long
returns-clause-long g c =
    ap length c.key_at.ensures
    ∙ length-key g.R.Record.form g.met.R.Record.is_form c.args.k c.args.block.now c.told-block (omega (arith, c.requires, g.met.R.Record.numbers.same_node_max))
