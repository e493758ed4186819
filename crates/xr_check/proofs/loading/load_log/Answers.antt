use Rattle.std.proofs.Common.{◌∙◌, inr, subst, arith}
use Rattle.std.proofs.lemmas.Result.{err_from_is_err_and}
use Rattle.xr_base.specs.Fields.{AreBytes}
use Rattle.xr_commit.specs.Refusals.{IsReadable}
use Rattle.xr_disk.specs.Runs.{read_on}
use Rattle.xr_disk.specs.Seen.{WasSeen}
use Rattle.xr_check.proofs.FaultLemmas.{of_image}
use Rattle.xr_check.proofs.LogLemmas.{image_clean, image_refused, super_readable, super_refused}
use Rattle.xr_check.proofs.loading.load_log.Goals as goal

pub returns-in_err-uuid-clause-refused : goal.returns-in_err-uuid-clause-refused
returns-in_err-uuid-clause-refused g c =
    let p = err_from_is_err_and c.from_residual.result c.from_residual.ensures.1 in
    rw (p.1, p.2) (super_refused _ c.in_err-uuid.field-0.0 c.in_err-uuid.ensures.refused c.in_err-uuid.ensures.none)

pub returns-in_err-uuid-clause-refusable : goal.returns-in_err-uuid-clause-refusable
returns-in_err-uuid-clause-refusable g c =
    let p = err_from_is_err_and c.from_residual.result c.from_residual.ensures.1 in
    rw (p.1, p.2) (super_readable _ c.in_err-uuid.field-0.0 c.in_err-uuid.ensures.none)

pub returns-in_err-check_log-clause-refused : goal.returns-in_err-check_log-clause-refused
returns-in_err-check_log-clause-refused g c =
    let p = err_from_is_err_and c.from_residual-in_err-check_log.result c.from_residual-in_err-check_log.ensures.1 in
    rw (p.1, p.2) (λ image at. image_refused image c.in_ok-uuid.uuid c.deref.result.now c.in_err-check_log.field-0.0 (c.in_ok-uuid.ensures.superblock image at)
    (c.deref.ensures.value ∙ c.in_ok-log.ensures.log image (c.read_uuid.ensures.reads.same.seen ∙ at)) c.in_err-check_log.ensures.refused)

pub returns-in_err-check_log-clause-refusable : goal.returns-in_err-check_log-clause-refusable
returns-in_err-check_log-clause-refusable g c =
    let p = err_from_is_err_and c.from_residual-in_err-check_log.result c.from_residual-in_err-check_log.ensures.1 in
    rw (p.1, p.2) (of_image (λ _. WasSeen (g.D.Disk.view c.args.disk.now).seen IsReadable) c.in_err-check_log.field-0.0 (λ image at. inr
    (subst AreBytes (c.in_ok-log.ensures.log image (c.read_uuid.ensures.reads.same.seen ∙ at)) c.in_ok-log.ensures.small)))

pub returns-in_err-check_log-clause-cause : goal.returns-in_err-check_log-clause-cause
returns-in_err-check_log-clause-cause g c =
    let p = err_from_is_err_and c.from_residual-in_err-check_log.result c.from_residual-in_err-check_log.ensures.1 in
    rw (p.1, p.2) (c.in_err-check_log.ensures.cause _ _)

pub returns-clause-clean : goal.returns-clause-clean
returns-clause-clean g c image at =
    image_clean image c.in_ok-uuid.uuid c.deref.result.now (c.in_ok-uuid.ensures.superblock image at)
    (c.deref.ensures.value ∙ c.in_ok-log.ensures.log image (c.read_uuid.ensures.reads.same.seen ∙ at)) c.in_ok-check_log.ensures.clean

pub returns-clause-readable : goal.returns-clause-readable
returns-clause-readable g c image at =
    inr (subst AreBytes (c.in_ok-log.ensures.log image (c.read_uuid.ensures.reads.same.seen ∙ at)) c.in_ok-log.ensures.small)

pub returns-clause-reads : goal.returns-clause-reads
returns-clause-reads g c = record {
  reads = read_on c.read_uuid.ensures.reads c.read_log.ensures.reads;
  clock = omega (arith, c.read_uuid.ensures.clock, c.read_log.ensures.clock);
  kept = omega (arith, c.read_uuid.ensures.kept, c.read_log.ensures.kept);
}
