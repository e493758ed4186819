use Rattle.std.proofs.Common.{arith, None, Some}
use Rattle.std.specs.Fmt.{decimal}
use Rattle.std.proofs.lemmas.Str.Pattern.{split_after}
use Rattle.xr_cmd.proofs.NumberLemmas.{decimal_no_space}
use Rattle.xr_cmd.proofs.fields.field.Goals as goal

pub returns-in_err-word : goal.returns-in_err-word
returns-in_err-word c =
    rw c.from_residual.ensures (λ n rest is.
    split_after 32 c.args.text.now (decimal n) rest None c.in_err-word.ensures.cases (omega arith) is.printed (decimal_no_space n is.small))

pub returns-in_err-number : goal.returns-in_err-number
returns-in_err-number c =
    rw c.from_residual-in_err-number.ensures (λ n rest is.
    let parts = split_after 32 c.args.text.now (decimal n) rest (Some (c.in_ok-word.word, c.in_ok-word.rest)) c.in_ok-word.ensures.cases (omega arith) is.printed (decimal_no_space n is.small) in
    c.in_err-number.ensures n (record { small = is.small; printed = parts.0 }))
