use Rattle.std.proofs.Common.{◌∙◌, arith}
use Rattle.xr_record.proofs.header.put_fields_before.Goals as goal

pub returns-clause-rest : goal.returns-clause-rest
returns-clause-rest c =
    c.put_word-11.ensures.rest 44 (omega arith) ∙ c.put_word-10.ensures.rest 44 (omega arith) ∙ c.put_word-9.ensures.rest 44 (omega arith) ∙ c.put_word-8.ensures.rest 44 (omega arith) ∙ c.put_word-7.ensures.rest 44 (omega arith) ∙ c.put_word-6.ensures.rest 44 (omega arith) ∙ c.put_word-5.ensures.rest 44 (omega arith) ∙ c.put_word-4.ensures.rest 44 (omega arith) ∙ c.put_word-3.ensures.rest 44 (omega arith) ∙ c.put_word-2.ensures.rest 44 (omega arith) ∙ c.put_word.ensures.rest 44 (omega arith)
