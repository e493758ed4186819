use Rattle.std.specs.Cow.{cow_str_bytes}
use Rattle.xr_cmd.proofs.AnswerLemmas.{said_done, said_memory}
use Rattle.xr_cmd.proofs.ExactAnswerLemmas.{own_statuses}
use Rattle.xr_cmd.proofs.program.xreflink.Goals as goal

pub returns-clause-ends : goal.returns-clause-ends
returns-clause-ends g c = record {
  said = c.answer_to-answer.result.said;
  text = cow_str_bytes c.answer_to-answer.result.text;
  says = c.answer_to-answer.ensures.says;
  finishes = c.finish.ensures.ends;
}

pub returns-clause-read_to_end : goal.returns-clause-read_to_end
returns-clause-read_to_end g c = λ asked zero. c.answer_to-answer.ensures.read_to_end asked (said_done _ _ _ _ _ _ c.finish.ensures.ends zero)

pub returns-clause-alone : goal.returns-clause-alone
returns-clause-alone g c = λ formats eight. c.answer_to-answer.ensures.alone formats (said_memory _ _ _ _ _ _ c.finish.ensures.ends eight)

pub returns-clause-own : goal.returns-clause-own
returns-clause-own g c = own_statuses c.load_refusals_are_exact.ensures.taken c.load_refusals_are_exact.ensures.alone c.images_have_one_verdict.ensures
    _ _ _ _ _ _ _ _ c.answer_to-answer.ensures.says _ _ _ _ c.finish.ensures.ends
