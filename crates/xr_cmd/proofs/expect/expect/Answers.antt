use Rattle.std.proofs.Common.{Err, ap, ◌∙◌, subst}
use Rattle.std.specs.String.{string_bytes}
use Rattle.std.proofs.lemmas.Result.{err_from_is_err_and}
use Rattle.xr_cmd.specs.Expect.{Expects}
use Rattle.xr_cmd.specs.Script.{IsScriptFault}
use Rattle.xr_cmd.proofs.AnswerLemmas.{expects_of, read_to_end, read_failure, script_failure}
use Rattle.xr_cmd.proofs.expect.expect.Goals as goal

pub returns-in_err-script-clause-failure : goal.returns-in_err-script-clause-failure
returns-in_err-script-clause-failure g c =
    let p = err_from_is_err_and c.from_residual.result c.from_residual.ensures.1 in
    rw (p.1, p.2) (read_failure (g.I.Source.left c.args.source.now) (g.I.Source.faults c.args.source.now) (g.I.Source.faults c.read_front.new.source)
    c.in_err-script.field-0.0 (λ e. c.read_front.ensures.cause (c.in_err-script.was ∙ ap Err e)))

pub returns-in_err-records_text-clause-failure : goal.returns-in_err-records_text-clause-failure
returns-in_err-records_text-clause-failure g c =
    let p = err_from_is_err_and c.from_residual-in_err-records_text.result c.from_residual-in_err-records_text.ensures.1 in
    rw (p.1, p.2) (script_failure (g.I.Source.left c.args.source.now) (g.I.Source.faults c.args.source.now) (g.I.Source.faults c.read_front.new.source)
    c.in_ok-script.script.items c.in_err-records_text.field-0.0 c.in_ok-script.ensures.uncounted c.in_ok-script.ensures.front
    (subst (λ bytes. IsScriptFault bytes c.in_err-records_text.field-0.0) c.deref.ensures.value c.in_err-records_text.ensures.fault))

pub returns-clause-text : goal.returns-clause-text
returns-clause-text g c =
    expects_of (g.I.Source.left c.args.source.now) c.in_ok-script.script.items (string_bytes c.in_ok-records_text.field-0) c.in_ok-script.ensures.front
    (subst (λ bytes. Expects bytes (string_bytes c.in_ok-records_text.field-0)) c.deref.ensures.value c.in_ok-records_text.ensures.text)

pub returns-clause-end : goal.returns-clause-end
returns-clause-end g c =
    read_to_end (g.I.Source.left c.args.source.now) (g.I.Source.left c.read_front.new.source) c.in_ok-script.script.items (string_bytes c.in_ok-records_text.field-0)
    c.in_ok-script.ensures.front c.in_ok-script.ensures.taken
    (subst (λ bytes. Expects bytes (string_bytes c.in_ok-records_text.field-0)) c.deref.ensures.value c.in_ok-records_text.ensures.text)
