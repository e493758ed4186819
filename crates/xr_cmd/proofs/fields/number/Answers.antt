use Rattle.std.proofs.Common.{arith, ◌∙◌}
use Rattle.xr_cmd.proofs.NumberLemmas.{decimal_first, number_from_parse}
use Rattle.xr_cmd.proofs.fields.number.Goals as goal
use Rattle.xr_cmd.proofs.fields.number.Goals.{else-word-gt1-via-then-word-gt1+else-as_bytes-le48, else-word-gt1-via-else-word-gt1}

pub returns-then-as_bytes-le48 : goal.returns-then-as_bytes-le48
returns-then-as_bytes-le48 c = λ n is.
    absurd (omega (arith, decimal_first c.as_bytes.result.now n is.small (c.as_bytes.ensures.value ∙ is.printed) (omega arith)))

pub returns : goal.returns
returns c =
    rw c.ok.ensures.value (number_from_parse c.args.word.now c.parse.result c.parse.ensures.value.0 (λ longer.
    elim c.else-word-gt1.branch [
      | else-word-gt1-via-then-word-gt1+else-as_bytes-le48 w ↦ rw (← w.as_bytes.ensures.value) (omega arith)
      | else-word-gt1-via-else-word-gt1 w ↦ omega arith
    ]))
