use Rattle.std.proofs.Common.{◌∙◌, refl}
use Rattle.xr_change.proofs.EditLemmas.{key_read}
use Rattle.xr_change.proofs.ReadLemmas.{read_keyed}
use Rattle.xr_change.proofs.write.key_of.Goals as goal

pub put_key-requires-clause-keyed : goal.put_key-requires-clause-keyed
put_key-requires-clause-keyed g c = read_keyed g.R.Record.form c.block.result.now _ c.block.ensures c.args.level c.requires.keyed

pub returns-clause-key : goal.returns-clause-key
returns-clause-key g c =
    c.put_key.ensures c.args.c (λ m. c.block.result.now) refl
    ∙ key_read g.R.Record.form c.args.draft.now c.block.result.now c.args.level c.args.c c.block.ensures
