use Rattle.std.proofs.Common.{List, ℕ, ◌∙◌, ap, subst}
use Rattle.std.proofs.lemmas.Result.{err_from_is_err_and}
use Rattle.xr_base.specs.declared.geometry.TheConstants.{FILE_BLOCKS}
use Rattle.xr_bmap.specs.File.{IsFile}
use Rattle.xr_bmap.specs.OpenFile.{RefusesFile, opened_file}
use Rattle.xr_check.proofs.FaultLemmas.{names_more, not_counted, not_opened}
use Rattle.xr_check.specs.CleanImages.{bytes_of_file}
use Rattle.xr_pool.specs.Overlay.{blocks_in}
use Rattle.xr_check.proofs.loading.load_file.Goals as goal

pub returns-in_err-blocks-clause-refused : goal.returns-in_err-blocks-clause-refused
returns-in_err-blocks-clause-refused g c =
    let p = err_from_is_err_and c.from_residual.result c.from_residual.ensures.1 in
    rw (p.1, p.2) (λ image at. names_more _ _ (λ block rule lie. absurd lie) c.in_err-blocks.field-0.0 c.in_err-blocks.ensures.outside)

pub returns-in_err-open-clause-refused : goal.returns-in_err-open-clause-refused
returns-in_err-open-clause-refused g c =
    let p = err_from_is_err_and c.from_residual-in_err-open.result c.from_residual-in_err-open.ensures.1 in
    let n = c.args.number.0 in
    let uuid = c.args.uuid.now in
    let cause = c.in_err-open.field-0.0 in
    rw (p.1, p.2) (λ image at. not_opened (RefusesFile n uuid (blocks_in FILE_BLOCKS (bytes_of_file image n))) cause
    (subst (λ (bytes : List ℕ). RefusesFile n uuid (blocks_in FILE_BLOCKS bytes) cause) (c.in_ok-blocks.ensures.bytes image at) c.in_err-open.ensures.refused))

pub returns-in_err-open-clause-cause : goal.returns-in_err-open-clause-cause
returns-in_err-open-clause-cause g c =
    let p = err_from_is_err_and c.from_residual-in_err-open.result c.from_residual-in_err-open.ensures.1 in
    rw (p.1, p.2) (not_counted _ _ c.in_err-open.field-0.0)

pub returns-clause-opened : goal.returns-clause-opened
returns-clause-opened g c image at =
    c.in_ok-open.ensures.opened ∙ ap (opened_file c.args.number.0 c.args.uuid.now) (c.in_ok-blocks.ensures.bytes image at)

pub returns-clause-right : goal.returns-clause-right
returns-clause-right g c image at =
    subst (λ (bytes : List ℕ). IsFile c.args.number.0 c.args.uuid.now (blocks_in FILE_BLOCKS bytes)) (c.in_ok-blocks.ensures.bytes image at) c.in_ok-open.ensures.right
