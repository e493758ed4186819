use Rattle.std.proofs.Common.{◌∙◌, ◌≡◌, ap, sym, drop, ℕ}
use Rattle.xr_block.specs.KeyLaws.{rest_all}
use Rattle.xr_block.specs.NodeEntries.{key_in}
use Rattle.xr_block.specs.NodeEntryLaws.{entry_read}
use Rattle.xr_block.specs.TreeBlock.{Entry}
use Rattle.xr_block.specs.NodeEntries.{high_part}
use Rattle.xr_block.proofs.key.high_at.Goals as goal

pub returns : goal.returns
returns g c = λ d.
    let form = g.R.Record.form in
    let low : c.LOW.result ≡ form.low = c.LOW.ensures ∙ sym g.met.R.Record.numbers.same_low in
    rest_all c.key_at.result.now c.LOW.result ∙ ap (drop c.LOW.result) c.key_at.ensures
    ∙ ap (λ (n : ℕ). drop n (key_in form c.args.k c.args.block.now)) low
    ∙ ap (λ (e : Entry). high_part form e) (sym (entry_read form c.args.block.now c.args.k d c.requires.within))
