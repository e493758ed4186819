use Rattle.std.specs.String.{string_bytes}
use Rattle.std.proofs.lemmas.Result.{err_from_is_err_and}
use Rattle.xr_cmd.proofs.FailureLemmas.{load_shows_none}
use Rattle.xr_cmd.proofs.ImageTextLemmas.{shows_part}
use Rattle.xr_cmd.proofs.show.show.Goals as goal

pub returns-in_err-loaded-clause-failure : goal.returns-in_err-loaded-clause-failure
returns-in_err-loaded-clause-failure g c =
    let p = err_from_is_err_and c.from_residual.result c.from_residual.ensures.1 in
    let refused = c.in_err-loaded.ensures in
    rw (p.1, p.2) (load_shows_none (g.D.Disk.view c.args.disk.now).seen _ _ c.in_err-loaded.field-0.0 refused.refused refused.refusable refused.cause)

pub returns-clause-done : goal.returns-clause-done
returns-clause-done g c =
    let loaded = c.in_ok-loaded in
    shows_part (g.D.Disk.view c.args.disk.now).seen c.args.part loaded.loaded (string_bytes c.in_ok-part_text.field-0) loaded.ensures.readable loaded.ensures.loaded
    c.in_ok-part_text.ensures
