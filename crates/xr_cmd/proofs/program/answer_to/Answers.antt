use Rattle.std.proofs.Common.{Err, ap, subst}
use Rattle.std.specs.Cow.{cow_str_bytes}
use Rattle.xr_cmd.specs.Answer.{Refuses}
use Rattle.xr_cmd.specs.CommandLine.{texts_of}
use Rattle.xr_cmd.proofs.AnswerLemmas.{format_wants_memory, says_refused}
use Rattle.xr_cmd.proofs.program.answer_to.Goals as goal

pub returns-in-Err-clause-says : goal.returns-in-Err-clause-says
returns-in-Err-clause-says g c = says_refused (texts_of c.args.words.now) (g.I.Source.left c.args.script.now) _ _ _ _ c.refusal.result.said (cow_str_bytes c.refusal.result.text) (record {
  command = c.in-Some.command;
  failure = c.in-Err.failure;
  asked = c.in-Some.ensures;
  has = c.in-Err.ensures.failure;
  refuses = c.refusal.ensures;
})

pub returns-in-Err-clause-alone : goal.returns-in-Err-clause-alone
returns-in-Err-clause-alone g c = λ asks memory.
    let formats = asks c.in-Some.command c.in-Some.ensures in
    let text = cow_str_bytes c.refusal.result.text in
    let refuses = subst (λ said. Refuses c.in-Err.failure said text) memory c.refusal.ensures in
    c.in-Err.ensures.alone formats (ap Err (format_wants_memory _ _ _ (g.D.Disk.view c.args.disk.now) (g.D.Disk.view c.perform.new.disk) c.in-Some.command c.in-Err.failure text formats c.in-Err.ensures.failure refuses))

pub returns-in-Ok-clause-crash : goal.returns-in-Ok-clause-crash
returns-in-Ok-clause-crash g c = λ uuid asks. c.perform.ensures.crash uuid (asks c.in-Some.command c.in-Some.ensures)

pub returns-in-Err-clause-crash : goal.returns-in-Err-clause-crash
returns-in-Err-clause-crash g c = λ uuid asks. c.perform.ensures.crash uuid (asks c.in-Some.command c.in-Some.ensures)
